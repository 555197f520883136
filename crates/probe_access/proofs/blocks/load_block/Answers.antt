use Rattle.probe_access.proofs.BlockCauses.{link_later}
use Rattle.probe_access.proofs.LoadBlockCalls.{fetched_before, load_block_causes, load_fetched}
use Rattle.probe_access.proofs.LoadBlockClauses.{load_block_err, load_block_ok}
use Rattle.probe_access.proofs.LoadBlockCuts.{load_block_cut}
use Rattle.probe_access.proofs.RegisterCalls.{err_failed}
use Rattle.probe_access.proofs.blocks.load_block.Goals as goal

pub returns-clause-loaded : goal.returns-clause-loaded
returns-clause-loaded g c = (load_block_ok c.args.size c.args.address c.args.count c.args.halted.now.number c.loads_around.new.into.items _ _ _
    c.requires.ends c.requires.some c.requires.serving.ready
    c.requires.serving.selects c.requires.serving.halted c.in_ok-loads_around.ensures.loaded).loaded

pub returns-clause-serving : goal.returns-clause-serving
returns-clause-serving g c = (load_block_ok c.args.size c.args.address c.args.count c.args.halted.now.number c.loads_around.new.into.items _ _ _
    c.requires.ends c.requires.some c.requires.serving.ready
    c.requires.serving.selects c.requires.serving.halted c.in_ok-loads_around.ensures.loaded).serving

pub returns-clause-fetched : goal.returns-clause-fetched
returns-clause-fetched g c = load_fetched c.args.size c.args.address c.args.count c.loads_around.new.into.items _ _ c.in_ok-loads_around.ensures.loaded

pub returns-in_err-loads_around-clause-left : goal.returns-in_err-loads_around-clause-left
returns-in_err-loads_around-clause-left g c =
    err_failed c.from_residual.result c.in_err-loads_around.field-0.0 _ c.from_residual.ensures.1
    (load_block_err c.args.size c.args.address c.args.count c.args.halted.now.number c.loads_around.new.into.items _ _ _ _ _
    c.in_err-loads_around.field-0.0 c.requires.ends c.requires.some c.requires.serving.ready
    c.requires.serving.selects c.requires.serving.halted
    c.in_err-loads_around.ensures.failed).left

pub returns-in_err-loads_around-clause-serving_still : goal.returns-in_err-loads_around-clause-serving_still
returns-in_err-loads_around-clause-serving_still g c =
    err_failed c.from_residual.result c.in_err-loads_around.field-0.0 _ c.from_residual.ensures.1
    (load_block_err c.args.size c.args.address c.args.count c.args.halted.now.number c.loads_around.new.into.items _ _ _ _ _
    c.in_err-loads_around.field-0.0 c.requires.ends c.requires.some c.requires.serving.ready
    c.requires.serving.selects c.requires.serving.halted
    c.in_err-loads_around.ensures.failed).serving

pub returns-in_err-loads_around-clause-cut : goal.returns-in_err-loads_around-clause-cut
returns-in_err-loads_around-clause-cut g c =
    err_failed c.from_residual.result c.in_err-loads_around.field-0.0 _ c.from_residual.ensures.1
    (load_block_cut c.args.size c.args.address c.args.count c.args.halted.now.number c.loads_around.new.into.items _ _ _ _ _
    c.in_err-loads_around.field-0.0 c.requires.ends c.requires.some c.requires.serving.ready
    c.requires.serving.selects c.requires.serving.halted
    c.in_err-loads_around.ensures.failed)

pub returns-in_err-loads_around-clause-causes : goal.returns-in_err-loads_around-clause-causes
returns-in_err-loads_around-clause-causes g c =
    err_failed c.from_residual.result c.in_err-loads_around.field-0.0 _ c.from_residual.ensures.1
    (load_block_causes c.args.size c.args.address c.args.count _ _ c.loads_around.new.into.items _ _ c.in_err-loads_around.field-0.0
    (link_later _ _ c.in_err-loads_around.field-0.0 c.loads_around.ensures.keeps.later) c.in_err-loads_around.ensures.failed)

pub returns-in_err-loads_around-clause-fetched_before : goal.returns-in_err-loads_around-clause-fetched_before
returns-in_err-loads_around-clause-fetched_before g c =
    err_failed c.from_residual.result c.in_err-loads_around.field-0.0 _ c.from_residual.ensures.1
    (fetched_before c.args.size c.args.address c.args.count _ _ c.loads_around.new.into.items _ _ c.in_err-loads_around.field-0.0
    c.in_err-loads_around.ensures.failed)
