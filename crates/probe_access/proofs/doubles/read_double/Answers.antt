use Rattle.std.proofs.Common.{◌∙◌, [], ◌∷◌, List, ℕ, slice_index_or, ap, arith}
use Rattle.debug_model.specs.declared.dmi_op.DmiOp.TheVariants.{Read}
use Rattle.probe_run.specs.Told.{told}
use Rattle.probe_access.specs.RegisterAccess.{joined}
use Rattle.probe_access.specs.RegisterRuns.{DoubleReads}
use Rattle.debug_model.specs.Dmi.{value_of}
use Rattle.probe_access.specs.RegisterRuns.DoubleReads.{lower, upper}
use Rattle.probe_access.proofs.RegisterCalls.{fault_failed, many_broke, two_did, two_small}
use Rattle.probe_access.proofs.doubles.read_double.Goals as goal

pub returns-in_err-many-clause-broke : goal.returns-in_err-many-clause-broke
returns-in_err-many-clause-broke g c =
    fault_failed c.from_residual.result c.in_err-many.field-0.0 _ c.from_residual.ensures.1
    (many_broke DoubleReads (Read 4) (Read 5 ∷ []) _ _ (told (g.D.Dmi.seen c.args.link.now)) _ c.in_err-many.field-0.0
    (lower, λ a. (upper (value_of a), λ b. tt)) c.in_err-many.ensures.cut c.in_err-many.ensures.cause)

pub returns-clause-read : goal.returns-clause-read
returns-clause-read g c = record {
  low = slice_index_or c.many.new.results.items 0 0;
  high = slice_index_or c.many.new.results.items 1 0;
  is = c.join.ensures ∙ ap (λ (xs : List ℕ). joined (slice_index_or xs 0 0) (slice_index_or c.deref-2.result.now 1 0)) c.deref.ensures.0
      ∙ ap (λ (xs : List ℕ). joined (slice_index_or c.many.new.results.items 0 0) (slice_index_or xs 1 0)) c.deref-2.ensures.0;
  did = two_did (Read 4) (Read 5) c.many.new.results.items 0 0 _ _ (two_small (Read 4) (Read 5) (omega arith) (omega arith)) c.in_ok-many.ensures.count
      c.in_ok-many.ensures.operated c.in_ok-many.ensures.answers;
}
