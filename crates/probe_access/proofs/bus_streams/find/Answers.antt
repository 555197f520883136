use Rattle.std.proofs.Common.{◌∙◌, ap, slice_index_or}
use Rattle.probe_run.specs.Told.{told}
use Rattle.probe_access.specs.RegisterAccess.{joined}
use Rattle.probe_access.proofs.BusStreamCalls.{found_broke, found_did}
use Rattle.probe_access.proofs.RegisterCalls.{fault_failed}
use Rattle.probe_access.proofs.bus_streams.find.Goals as goal

pub returns-in_err-many-clause-broke : goal.returns-in_err-many-clause-broke
returns-in_err-many-clause-broke g c =
    fault_failed c.from_residual.result c.in_err-many.field-0.0 _ c.from_residual.ensures.1
    (found_broke _ _ (told (g.D.Dmi.seen c.args.link.now)) _ c.in_err-many.field-0.0 c.in_err-many.ensures.cut c.in_err-many.ensures.cause)

pub returns-clause-found : goal.returns-clause-found
returns-clause-found g c =
    found_did c.join.result c.join-2.result c.many.new.results.items (told (g.D.Dmi.seen c.args.link.now)) (told (g.D.Dmi.seen c.many.new.self))
    c.in_ok-many.ensures.count
    (c.join.ensures ∙ ap (λ xs. joined (slice_index_or xs 2 0) (slice_index_or c.deref-2.result.now 1 0)) c.deref.ensures.0
    ∙ ap (λ xs. joined (slice_index_or c.many.new.results.items 2 0) (slice_index_or xs 1 0)) c.deref-2.ensures.0)
    (c.join-2.ensures ∙ ap (λ xs. joined (slice_index_or xs 4 0) (slice_index_or c.deref-4.result.now 3 0)) c.deref-3.ensures.0
    ∙ ap (λ xs. joined (slice_index_or c.many.new.results.items 4 0) (slice_index_or xs 3 0)) c.deref-4.ensures.0)
    c.in_ok-many.ensures.operated c.in_ok-many.ensures.answers
