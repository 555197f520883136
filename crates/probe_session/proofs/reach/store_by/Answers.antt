use Rattle.probe_session.proofs.Budgets.{bus_store_fewer}
use Rattle.probe_access.specs.BlockRises.{bus_store_rises, store_rises}
use Rattle.debug_model.proofs.RiseLemmas.{within_more}
use Rattle.probe_session.proofs.MemoryLines.{attached_hart}
use Rattle.probe_session.proofs.Selections.{bus_store_stays, hart_store_stays}
use Rattle.probe_session.proofs.reach.store_by.Goals as goal

pub returns-in-Hart-clause-selection : goal.returns-in-Hart-clause-selection
returns-in-Hart-clause-selection g c =
    hart_store_stays _ _ _ _ (g.D.Dmi.seen c.args.link.now) (g.D.Dmi.seen c.store.new.link) _ c.store.ensures.stored
    (attached_hart c.in-Hart.is c.requires.serving) c.store.ensures.keeps

pub returns-in-Bus-clause-selection : goal.returns-in-Bus-clause-selection
returns-in-Bus-clause-selection g c =
    bus_store_stays _ _ _ (g.D.Dmi.seen c.args.link.now) (g.D.Dmi.seen c.bus_store.new.link) _ c.bus_store.ensures.stored

pub returns-in-Bus-clause-rises : goal.returns-in-Bus-clause-rises
returns-in-Bus-clause-rises g c =
    within_more (bus_store_rises c.args.count) (store_rises c.args.count) _ _ c.bus_store.ensures.rises (bus_store_fewer c.args.count)
