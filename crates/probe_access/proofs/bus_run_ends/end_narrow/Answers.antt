use Rattle.std.proofs.Common.{◌∙◌, ap, slice_index_or, arith}
use Rattle.probe_run.specs.Told.{told}
use Rattle.probe_access.specs.BusRuns.{cut_to}
use Rattle.probe_access.proofs.BusRunEnds.{narrow_broke, narrow_end}
use Rattle.probe_access.proofs.RegisterCalls.{fault_failed}
use Rattle.probe_access.proofs.bus_run_ends.end_narrow.Goals as goal

pub returns-in_err-many-clause-broke : goal.returns-in_err-many-clause-broke
returns-in_err-many-clause-broke g c =
    fault_failed c.from_residual.result c.in_err-many.field-0.0 _ c.from_residual.ensures.1
    (narrow_broke c.args.size c.running_of.result _ _ (told (g.D.Dmi.seen c.args.link.now)) _ c.in_err-many.field-0.0 c.requires.narrow
    c.running_of.ensures c.in_err-many.ensures.cut c.in_err-many.ensures.cause)

pub returns-clause-read : goal.returns-clause-read
returns-clause-read g c =
    narrow_end c.args.size c.running_of.result c.cut_to.result (slice_index_or c.deref-2.result.now 2 0) c.many.new.results.items c.args.into.now.items
    c.push.new.self.items (told (g.D.Dmi.seen c.args.link.now)) (told (g.D.Dmi.seen c.many.new.self)) c.requires.narrow c.running_of.ensures (omega arith)
    c.in_ok-many.ensures.count
    (c.cut_to.ensures ∙ ap (cut_to c.args.size) c.from.ensures ∙ ap (λ xs. cut_to c.args.size (slice_index_or xs 1 0)) c.deref.ensures.0)
    (ap (λ xs. slice_index_or xs 2 0) c.deref-2.ensures.0) c.push.ensures.items c.in_ok-many.ensures.operated c.in_ok-many.ensures.answers
