use Rattle.std.proofs.Common.{refl, rules}
use Rattle.probe_session.specs.BlockCalls.{BlockStoreFell, BlockStored}
use Rattle.probe_session.proofs.CallLemmas.{block_stored_none, stores_cut}
use Rattle.probe_session.proofs.Conversions.{became, not_memory}
use Rattle.probe_session.proofs.LinkLemmas.{access_left}
use Rattle.probe_session.proofs.memory.store.Goals as goal

pub returns-in-Ok-clause-stored : goal.returns-in-Ok-clause-stored
returns-in-Ok-clause-stored g c = BlockStored.by_hart c.args.value c.args.count refl tt c.requires.serving.serving c.in-Ok.ensures.runs c.in-Ok.ensures.stored

pub returns-in-Memory-clause-stored : goal.returns-in-Memory-clause-stored
returns-in-Memory-clause-stored g c = block_stored_none c.args.halted.now.number
    c.args.size c.args.address c.args.value c.args.count c.in-Memory.at _ _ _ _ c.in-Err.fault
    c.requires.serving.serving c.in-Memory.is c.in-Err.ensures.left c.in-Err.ensures.failed

pub returns-in_default-clause-fell : goal.returns-in_default-clause-fell
returns-in_default-clause-fell g c =
    BlockStoreFell.by_hart c.in-Err.fault c.args.value c.args.count refl tt c.requires.serving.serving
    c.store_block.ensures.keeps.later c.in-Err.ensures.failed c.in-Err.ensures.causes c.in-Err.ensures.left
    (stores_cut c.args.size c.args.address c.args.value c.args.count c.args.halted.now.number _ _ c.in-Err.fault c.in-Err.ensures.cut)
    (became c.in-Err.fault (not_memory c.in-Err.fault c.in_default.not-Memory) c.from.ensures)

pub returns-in_default-clause-keeps : goal.returns-in_default-clause-keeps
returns-in_default-clause-keeps g c = let b = access_left _ c.in-Err.fault _ c.in-Err.ensures.keeps.behind c.from.ensures in search rules
