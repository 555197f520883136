use Rattle.std.proofs.Common.{◌∙◌, List, ℕ, [], slice_index_or, ap, sym}
use Rattle.debug_model.specs.Addresses.{sbcs_address}
use Rattle.debug_model.specs.declared.dmi_op.DmiOp.TheVariants.{Write}
use Rattle.probe_run.specs.Told.{told}
use Rattle.probe_run.specs.Acts.{Did}
use Rattle.probe_run.specs.Opening.{BusFails, BusFits, bus_acts, bus_fits, clears_sberror}
use Rattle.probe_run.specs.Opening.BusBroke.{at_sberror}
use Rattle.probe_run.proofs.ActLemmas.{did_put, if_err}
use Rattle.probe_run.proofs.OpeningLemmas.{broke_behind, bus_broke, bus_did, read_behind}
use Rattle.probe_run.proofs.opening.check_bus.Goals as goal

pub returns-in_err-many-clause-fails : goal.returns-in_err-many-clause-fails
returns-in_err-many-clause-fails g c =
    if_err (BusFails (g.D.Dmi.seen c.args.link.now).fault_count (g.D.Dmi.seen c.many.new.self).fault_count (told (g.D.Dmi.seen c.args.link.now))
    (told (g.D.Dmi.seen c.many.new.self)))
    c.from_residual.result _ c.from_residual.ensures.1
    (bus_broke c.cleared_cmderr.result c.no_autoexec.result _ _ (told (g.D.Dmi.seen c.args.link.now)) _ _ c.cleared_cmderr.ensures c.no_autoexec.ensures
    c.in_err-many.ensures.cut c.in_err-many.ensures.cause)

pub returns-then-not-has_bus-clause-fails : goal.returns-then-not-has_bus-clause-fails
returns-then-not-has_bus-clause-fails g c =
    read_behind bus_acts bus_fits _ _ (slice_index_or c.many.new.results.items 2 0) _ _ (ap (λ (xs : List ℕ). slice_index_or xs 2 0) c.deref.ensures.0)
    (bus_did c.cleared_cmderr.result c.no_autoexec.result c.many.new.results.items _ _ c.cleared_cmderr.ensures c.no_autoexec.ensures
    c.in_ok-many.ensures.count c.in_ok-many.ensures.operated c.in_ok-many.ensures.answers)
    (sym c.has_bus.ensures ∙ c.if-not-has_bus.true)

pub returns-in_err-write-clause-fails : goal.returns-in_err-write-clause-fails
returns-in_err-write-clause-fails g c =
    if_err (BusFails (g.D.Dmi.seen c.args.link.now).fault_count (g.D.Dmi.seen c.write.new.self).fault_count (told (g.D.Dmi.seen c.args.link.now))
    (told (g.D.Dmi.seen c.write.new.self)))
    c.from_residual-in_err-write.result _ c.from_residual-in_err-write.ensures.1
    (at_sberror (broke_behind BusFits [] (Write sbcs_address c.cleared_sberror.result) (Write sbcs_address clears_sberror)
    (g.D.Dmi.seen c.args.link.now).fault_count (g.D.Dmi.seen c.many.new.self).fault_count
    (g.D.Dmi.seen c.write.new.self).fault_count (told (g.D.Dmi.seen c.args.link.now)) (told (g.D.Dmi.seen c.many.new.self))
    (told (g.D.Dmi.seen c.many.new.self)) _ _ (ap (Write sbcs_address) c.cleared_sberror.ensures) (
      slice_index_or c.deref.result.now 2 0,
      read_behind bus_acts bus_fits _ _ (slice_index_or c.many.new.results.items 2 0) _ _ (ap (λ (xs : List ℕ). slice_index_or xs 2 0) c.deref.ensures.0)
          (bus_did c.cleared_cmderr.result c.no_autoexec.result c.many.new.results.items _ _ c.cleared_cmderr.ensures c.no_autoexec.ensures
          c.in_ok-many.ensures.count c.in_ok-many.ensures.operated c.in_ok-many.ensures.answers)
          (sym c.has_bus.ensures ∙ c.if-not-has_bus.false),
    ) Did.nothing c.many.ensures.keeps.later c.write.ensures.keeps.later c.in_err-write.ensures.cut c.in_err-write.ensures.cause))

pub returns-clause-did : goal.returns-clause-did
returns-clause-did g c = record {
  mid = told (g.D.Dmi.seen c.many.new.self);
  first = (
    slice_index_or c.deref.result.now 2 0,
    read_behind bus_acts bus_fits _ _ (slice_index_or c.many.new.results.items 2 0) _ _ (ap (λ (xs : List ℕ). slice_index_or xs 2 0) c.deref.ensures.0)
        (bus_did c.cleared_cmderr.result c.no_autoexec.result c.many.new.results.items _ _ c.cleared_cmderr.ensures c.no_autoexec.ensures
        c.in_ok-many.ensures.count c.in_ok-many.ensures.operated c.in_ok-many.ensures.answers)
        (sym c.has_bus.ensures ∙ c.if-not-has_bus.false),
  );
  second = did_put sbcs_address c.cleared_sberror.result _ _ _ _ _ c.cleared_sberror.ensures c.in_ok-write.ensures.operated c.in_ok-write.ensures.passes;
}
