use Rattle.probe_session.proofs.Budgets.{bus_load_fewer}
use Rattle.probe_access.specs.BlockRises.{bus_load_rises, load_rises}
use Rattle.debug_model.proofs.RiseLemmas.{within_more}
use Rattle.probe_session.proofs.MemoryLines.{attached_hart}
use Rattle.probe_session.proofs.Selections.{bus_load_stays, hart_load_stays}
use Rattle.probe_session.proofs.reach.load_by.Goals as goal

pub returns-in-Hart-clause-selection : goal.returns-in-Hart-clause-selection
returns-in-Hart-clause-selection g c =
    hart_load_stays _ _ _ _ _ (g.D.Dmi.seen c.args.link.now) (g.D.Dmi.seen c.load.new.link) _ c.load.ensures.loaded
    (attached_hart c.in-Hart.is c.requires.serving) c.load.ensures.keeps

pub returns-in-Bus-clause-selection : goal.returns-in-Bus-clause-selection
returns-in-Bus-clause-selection g c =
    bus_load_stays _ _ _ _ (g.D.Dmi.seen c.args.link.now) (g.D.Dmi.seen c.bus_load.new.link) _ c.bus_load.ensures.loaded

pub returns-in-Bus-clause-rises : goal.returns-in-Bus-clause-rises
returns-in-Bus-clause-rises g c =
    within_more (bus_load_rises c.args.count) (load_rises c.args.count) _ _ c.bus_load.ensures.rises (bus_load_fewer c.args.count)
