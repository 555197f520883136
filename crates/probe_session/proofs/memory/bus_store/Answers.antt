use Rattle.std.proofs.Common.{rules}
use Rattle.probe_session.specs.BlockCalls.{BlockStoreFell}
use Rattle.probe_session.proofs.ValueCalls.{bus_block_left, bus_block_stored, bus_block_stored_none, bus_stores_cut}
use Rattle.probe_session.proofs.Conversions.{became, not_memory}
use Rattle.probe_session.proofs.LinkLemmas.{access_left}
use Rattle.probe_session.proofs.memory.bus_store.Goals as goal

pub returns-in-Ok-clause-stored : goal.returns-in-Ok-clause-stored
returns-in-Ok-clause-stored g c = bus_block_stored c.args.size c.args.address c.args.value c.args.count _ _ c.in-Ok.ensures.stores c.in-Ok.ensures.stored

pub returns-in-Memory-clause-stored : goal.returns-in-Memory-clause-stored
returns-in-Memory-clause-stored g c = bus_block_stored_none c.args.size c.args.address c.args.value c.args.count c.in-Memory.at _ _ c.in-Err.fault
    c.in-Memory.is c.in-Err.ensures.left c.in-Err.ensures.refused

pub returns-in_default-clause-fell : goal.returns-in_default-clause-fell
returns-in_default-clause-fell g c =
    BlockStoreFell.by_bus c.in-Err.fault c.requires.serving.ready
    c.bus_store_block.ensures.keeps.later c.in-Err.ensures.causes
    (bus_block_left c.args.size c.args.address c.args.value c.args.count _ _ c.in-Err.fault c.in-Err.ensures.left)
    (bus_stores_cut c.args.size c.args.address c.args.value c.args.count _ _ c.in-Err.fault c.in-Err.ensures.cut)
    (became c.in-Err.fault (not_memory c.in-Err.fault c.in_default.not-Memory) c.from.ensures)

pub returns-in_default-clause-keeps : goal.returns-in_default-clause-keeps
returns-in_default-clause-keeps g c = let b = access_left _ c.in-Err.fault _ c.in-Err.ensures.keeps.behind c.from.ensures in search rules
