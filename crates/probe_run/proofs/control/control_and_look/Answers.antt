use Rattle.std.proofs.Common.{List, ℕ, slice_index_or, ap, arith}
use Rattle.probe_run.specs.Told.{told}
use Rattle.probe_run.specs.Outcomes.{FirstBroke}
use Rattle.probe_run.proofs.ActLemmas.{if_err}
use Rattle.probe_run.proofs.FirstLooks.{first_broke, first_did}
use Rattle.probe_run.proofs.control.control_and_look.Goals as goal

pub returns-in_err-many-clause-broke : goal.returns-in_err-many-clause-broke
returns-in_err-many-clause-broke g c =
    if_err (FirstBroke c.args.request c.args.hart (g.D.Dmi.seen c.args.link.now).fault_count (g.D.Dmi.seen c.many.new.self).fault_count
    (told (g.D.Dmi.seen c.args.link.now)) (g.D.Dmi.seen c.many.new.self).far)
    c.from_residual.result _ c.from_residual.ensures.1
    (first_broke c.args.request c.args.hart c.word_for.result _ _ (told (g.D.Dmi.seen c.args.link.now)) _ _ c.word_for.ensures c.in_err-many.ensures.cut
    c.in_err-many.ensures.cause)

pub returns-clause-did : goal.returns-clause-did
returns-clause-did g c =
    first_did c.args.request c.args.hart c.word_for.result _ c.many.new.results.items _ _ c.word_for.ensures (omega arith)
    (ap (λ (xs : List ℕ). slice_index_or xs 1 0) c.deref.ensures.0) c.in_ok-many.ensures.count c.in_ok-many.ensures.operated c.in_ok-many.ensures.answers
