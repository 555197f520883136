use Rattle.std.proofs.Common.{rules}
use Rattle.probe_session.specs.BlockCalls.{BlockLoadFell}
use Rattle.probe_session.proofs.CallLemmas.{block_loaded, block_loaded_none, loads_cut}
use Rattle.probe_session.proofs.Conversions.{became, not_memory}
use Rattle.probe_session.proofs.LinkLemmas.{access_left}
use Rattle.probe_session.proofs.memory.load.Goals as goal

pub returns-in-Ok-clause-loaded : goal.returns-in-Ok-clause-loaded
returns-in-Ok-clause-loaded g c = block_loaded c.args.halted.now.number c.args.size c.args.address c.args.count _ _ _ c.requires.serving.serving
    c.in-Ok.ensures.all c.in-Ok.ensures.runs c.in-Ok.ensures.fetched c.in-Ok.ensures.loaded

pub returns-in-Memory-clause-loaded : goal.returns-in-Memory-clause-loaded
returns-in-Memory-clause-loaded g c = block_loaded_none c.args.halted.now.number c.args.size c.args.address c.args.count _ _ _ _ _ _ c.in-Err.fault
    c.requires.serving.serving c.in-Memory.is c.in-Err.ensures.left c.in-Err.ensures.failed c.in-Err.ensures.fetched_before

pub returns-in_default-clause-fell : goal.returns-in_default-clause-fell
returns-in_default-clause-fell g c =
    BlockLoadFell.by_hart c.in-Err.fault _ tt c.requires.serving.serving
    c.load_block.ensures.keeps.later c.in-Err.ensures.failed c.in-Err.ensures.causes c.in-Err.ensures.left
    (loads_cut c.args.size c.args.address c.args.count c.args.halted.now.number _ _ _ c.in-Err.fault c.in-Err.ensures.cut)
    (became c.in-Err.fault (not_memory c.in-Err.fault c.in_default.not-Memory) c.from.ensures)

pub returns-in_default-clause-keeps : goal.returns-in_default-clause-keeps
returns-in_default-clause-keeps g c = let b = access_left _ c.in-Err.fault _ c.in-Err.ensures.keeps.behind c.from.ensures in search rules
