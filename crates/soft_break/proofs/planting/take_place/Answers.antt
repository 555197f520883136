use Rattle.std.proofs.Common.{subst}
use Rattle.rv_model.specs.declared.size.Size.TheVariants.{B4}
use Rattle.debug_model.specs.Scan.{WhereTold}
use Rattle.probe_run.specs.Told.{Fails, told}
use Rattle.probe_access.specs.Accesses.{BusStoredAt}
use Rattle.probe_access.specs.BusRuns.{BusStoreFailed}
use Rattle.probe_access.specs.Cuts.{BusLeftOff, IfCut, Leaves, StoreLeaves}
use Rattle.soft_break.specs.Calls.{PlantFailed}
use Rattle.soft_break.specs.Calls.PlantFailed.{in_read, in_write}
use Rattle.soft_break.proofs.PlantSteps.{err_carried, planted_told, read_cut, write_cut, write_left}
use Rattle.soft_break.proofs.planting.take_place.Goals as goal

pub returns-in_err-original-clause-failed : goal.returns-in_err-original-clause-failed
returns-in_err-original-clause-failed g c =
    err_carried c.from_residual.result c.in_err-original.field-0.0 (Fails (PlantFailed c.args.at) (g.D.Dmi.seen c.args.link.now) (g.D.Dmi.seen c.bus_load.new.link))
    c.from_residual.ensures.1 (in_read c.in_err-original.ensures.failed)

pub returns-in_err-original-clause-cut : goal.returns-in_err-original-clause-cut
returns-in_err-original-clause-cut g c =
    err_carried c.from_residual.result c.in_err-original.field-0.0 _ c.from_residual.ensures.1
    (read_cut c.args.at (g.D.Dmi.seen c.args.link.now).far (g.D.Dmi.seen c.bus_load.new.link).far c.in_err-original.field-0.0 c.in_err-original.ensures.cut)

pub returns-in_err-bus_store-clause-left : goal.returns-in_err-bus_store-clause-left
returns-in_err-bus_store-clause-left g c =
    err_carried c.from_residual-in_err-bus_store.result c.in_err-bus_store.field-0.0 _ c.from_residual-in_err-bus_store.ensures.1
    (write_left c.args.at c.in_ok-original.original (g.D.Dmi.seen c.args.link.now).far (g.D.Dmi.seen c.bus_load.new.link).far
    (g.D.Dmi.seen c.bus_store.new.link).far c.in_err-bus_store.field-0.0 c.in_ok-original.ensures.loaded c.in_err-bus_store.ensures.left)

pub returns-in_err-bus_store-clause-failed : goal.returns-in_err-bus_store-clause-failed
returns-in_err-bus_store-clause-failed g c =
    err_carried c.from_residual-in_err-bus_store.result c.in_err-bus_store.field-0.0
    (Fails (PlantFailed c.args.at) (g.D.Dmi.seen c.args.link.now) (g.D.Dmi.seen c.bus_store.new.link)) c.from_residual-in_err-bus_store.ensures.1
    (in_write c.in_ok-original.original (g.D.Dmi.seen c.bus_load.new.link).fault_count (told (g.D.Dmi.seen c.bus_load.new.link)) c.in_ok-original.ensures.ran
    c.bus_load.ensures.keeps.later c.bus_store.ensures.keeps.later
    (subst (λ v. BusStoreFailed B4 c.args.at v (g.D.Dmi.seen c.bus_load.new.link).fault_count (g.D.Dmi.seen c.bus_store.new.link).fault_count
    (told (g.D.Dmi.seen c.bus_load.new.link)) (told (g.D.Dmi.seen c.bus_store.new.link)) c.in_err-bus_store.field-0.0) c.from.ensures
    c.in_err-bus_store.ensures.failed))

pub returns-in_err-bus_store-clause-cut : goal.returns-in_err-bus_store-clause-cut
returns-in_err-bus_store-clause-cut g c =
    err_carried c.from_residual-in_err-bus_store.result c.in_err-bus_store.field-0.0 _ c.from_residual-in_err-bus_store.ensures.1
    (write_cut c.args.at c.in_ok-original.original (g.D.Dmi.seen c.args.link.now).far (g.D.Dmi.seen c.bus_load.new.link).far
    (g.D.Dmi.seen c.bus_store.new.link).far c.in_err-bus_store.field-0.0 c.in_ok-original.ensures.loaded
    (subst (λ v. IfCut (Leaves (BusLeftOff (StoreLeaves B4 c.args.at v)) (g.D.Dmi.seen c.bus_load.new.link).far (g.D.Dmi.seen c.bus_store.new.link).far)
    c.in_err-bus_store.field-0.0) c.from.ensures c.in_err-bus_store.ensures.cut))

pub returns-clause-planted_at : goal.returns-clause-planted_at
returns-clause-planted_at g c =
    planted_told c.args.at c.in_ok-original.original (g.D.Dmi.seen c.args.link.now).far (g.D.Dmi.seen c.bus_load.new.link).far
    (g.D.Dmi.seen c.bus_store.new.link).far c.in_ok-original.ensures.loaded
    (subst (λ v. WhereTold (BusStoredAt B4 c.args.at v) (g.D.Dmi.seen c.bus_load.new.link).far (g.D.Dmi.seen c.bus_store.new.link).far) c.from.ensures
    c.in_ok-bus_store.ensures.stored)
