use Rattle.probe_access.proofs.BlockCauses.{around_causes, link_later}
use Rattle.probe_access.proofs.RegisterCalls.{err_failed}
use Rattle.probe_access.proofs.StoreBlockCalls.{stores_inside_causes}
use Rattle.probe_access.proofs.StoreBlockClauses.{store_block_err, store_block_ok}
use Rattle.probe_access.proofs.StoreBlockCuts.{store_block_cut}
use Rattle.probe_access.proofs.blocks.store_block.Goals as goal

pub returns-clause-stored : goal.returns-clause-stored
returns-clause-stored g c = (store_block_ok c.args.size c.args.address c.args.value c.args.count c.args.halted.now.number _ _ _ c.requires.ends c.requires.some
    c.requires.serving.ready c.requires.serving.selects c.requires.serving.halted c.in_ok-stores_around.ensures.stored).stored

pub returns-clause-serving : goal.returns-clause-serving
returns-clause-serving g c = (store_block_ok c.args.size c.args.address c.args.value c.args.count c.args.halted.now.number _ _ _ c.requires.ends
    c.requires.some c.requires.serving.ready c.requires.serving.selects c.requires.serving.halted c.in_ok-stores_around.ensures.stored).serving

pub returns-in_err-stores_around-clause-left : goal.returns-in_err-stores_around-clause-left
returns-in_err-stores_around-clause-left g c =
    err_failed c.from_residual.result c.in_err-stores_around.field-0.0 _ c.from_residual.ensures.1
    (store_block_err c.args.size c.args.address c.args.value c.args.count c.args.halted.now.number _ _ _ _ _ c.in_err-stores_around.field-0.0
    c.requires.ends c.requires.some c.requires.serving.ready c.requires.serving.selects c.requires.serving.halted
    c.in_err-stores_around.ensures.failed).left

pub returns-in_err-stores_around-clause-serving_still : goal.returns-in_err-stores_around-clause-serving_still
returns-in_err-stores_around-clause-serving_still g c =
    err_failed c.from_residual.result c.in_err-stores_around.field-0.0 _ c.from_residual.ensures.1
    (store_block_err c.args.size c.args.address c.args.value c.args.count c.args.halted.now.number _ _ _ _ _ c.in_err-stores_around.field-0.0
    c.requires.ends c.requires.some c.requires.serving.ready c.requires.serving.selects c.requires.serving.halted
    c.in_err-stores_around.ensures.failed).serving

pub returns-in_err-stores_around-clause-causes : goal.returns-in_err-stores_around-clause-causes
returns-in_err-stores_around-clause-causes g c =
    err_failed c.from_residual.result c.in_err-stores_around.field-0.0 _ c.from_residual.ensures.1
    (around_causes _ _ _ _ _ _ c.in_err-stores_around.field-0.0
    (stores_inside_causes c.args.size c.args.address c.args.value c.args.count)
    (link_later _ _ c.in_err-stores_around.field-0.0 c.stores_around.ensures.keeps.later) c.in_err-stores_around.ensures.failed)

pub returns-in_err-stores_around-clause-cut : goal.returns-in_err-stores_around-clause-cut
returns-in_err-stores_around-clause-cut g c =
    err_failed c.from_residual.result c.in_err-stores_around.field-0.0 _ c.from_residual.ensures.1
    (store_block_cut c.args.size c.args.address c.args.value c.args.count c.args.halted.now.number _ _ _ _ _ c.in_err-stores_around.field-0.0
    c.requires.ends c.requires.some c.requires.serving.ready c.requires.serving.selects c.requires.serving.halted
    c.in_err-stores_around.ensures.failed)
