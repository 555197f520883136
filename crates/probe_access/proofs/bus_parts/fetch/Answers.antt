use Rattle.probe_run.specs.Told.{told}
use Rattle.std.proofs.Common.{ap, ◌∙◌}
use Rattle.debug_model.specs.declared.dmi_op.DmiOp.TheVariants.{Read}
use Rattle.probe_run.specs.Acts.Attempt.{Operation}
use Rattle.probe_access.specs.BusRuns.{BusFetching, cut_to}
use Rattle.probe_access.specs.BusRuns.BusFetching.{lower, upper}
use Rattle.probe_run.proofs.ActLemmas.{broke_one, did_then}
use Rattle.probe_access.proofs.Polls.{read_did}
use Rattle.probe_access.proofs.RegisterCalls.{broke_first, fault_failed, read_broke_behind}
use Rattle.probe_access.proofs.bus_parts.fetch.Goals as goal

pub returns-in_err-low-clause-broke : goal.returns-in_err-low-clause-broke
returns-in_err-low-clause-broke g c =
    fault_failed c.from_residual.result c.in_err-low.field-0.0 _ c.from_residual.ensures.1
    (broke_first BusFetching (Operation (Read 60)) _ _ (told (g.D.Dmi.seen c.args.link.now)) _ c.in_err-low.field-0.0 lower
    (broke_one (Operation (Read 60)) _ _ _ _ c.in_err-low.field-0.0 c.in_err-low.ensures.cut c.in_err-low.ensures.cause))

pub returns-in_err-high-clause-broke : goal.returns-in_err-high-clause-broke
returns-in_err-high-clause-broke g c =
    fault_failed c.from_residual-in_err-high.result c.in_err-high.field-0.0 _ c.from_residual-in_err-high.ensures.1
    (read_broke_behind BusFetching _ 61 _ _ _ (told (g.D.Dmi.seen c.args.link.now)) (told (g.D.Dmi.seen c.read.new.self)) _ c.in_err-high.field-0.0
    (upper c.in_ok-low.low)
    (read_did 60 c.in_ok-low.low _ _ c.in_ok-low.ensures.operated c.in_ok-low.ensures.answers) c.read.ensures.keeps.later c.read-2.ensures.keeps.later
    c.in_err-high.ensures.cut c.in_err-high.ensures.cause)

pub returns-clause-fetched : goal.returns-clause-fetched
returns-clause-fetched g c = record {
  low = c.in_ok-low.low;
  high = c.in_ok-high.high;
  is = c.cut_to.ensures ∙ ap (cut_to c.args.size) c.join.ensures;
  did = did_then _ _ _ (read_did 60 c.in_ok-low.low _ _ c.in_ok-low.ensures.operated c.in_ok-low.ensures.answers) _ _
      (read_did 61 c.in_ok-high.high _ _ c.in_ok-high.ensures.operated c.in_ok-high.ensures.answers);
}
