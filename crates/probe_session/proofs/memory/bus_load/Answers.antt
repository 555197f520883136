use Rattle.std.proofs.Common.{rules}
use Rattle.probe_session.specs.BlockCalls.{BlockLoadFell}
use Rattle.probe_session.proofs.CallLemmas.{bus_block_loaded, bus_block_loaded_none, bus_loads_cut}
use Rattle.probe_session.proofs.Conversions.{became, not_memory}
use Rattle.probe_session.proofs.LinkLemmas.{access_left}
use Rattle.probe_session.proofs.memory.bus_load.Goals as goal

pub returns-in-Ok-clause-loaded : goal.returns-in-Ok-clause-loaded
returns-in-Ok-clause-loaded g c = bus_block_loaded c.args.size c.args.address c.args.count _ _ _ c.requires.serving.ready
    c.in-Ok.ensures.all c.in-Ok.ensures.loads c.in-Ok.ensures.loaded

pub returns-in-Memory-clause-loaded : goal.returns-in-Memory-clause-loaded
returns-in-Memory-clause-loaded g c = bus_block_loaded_none c.args.size c.args.address c.args.count _ _ _ _ c.in-Err.fault
    c.requires.serving.ready c.in-Memory.is c.in-Err.ensures.left c.in-Err.ensures.refused

pub returns-in_default-clause-fell : goal.returns-in_default-clause-fell
returns-in_default-clause-fell g c =
    BlockLoadFell.by_bus c.in-Err.fault _ c.requires.serving.ready
    c.bus_load_block.ensures.keeps.later c.in-Err.ensures.causes c.in-Err.ensures.left
    (bus_loads_cut c.args.size c.args.address c.args.count _ _ _ c.in-Err.fault c.in-Err.ensures.cut)
    (became c.in-Err.fault (not_memory c.in-Err.fault c.in_default.not-Memory) c.from.ensures)

pub returns-in_default-clause-keeps : goal.returns-in_default-clause-keeps
returns-in_default-clause-keeps g c = let b = access_left _ c.in-Err.fault _ c.in-Err.ensures.keeps.behind c.from.ensures in search rules
