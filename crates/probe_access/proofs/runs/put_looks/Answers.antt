use Rattle.std.proofs.Common.{◌∙◌, ◌++◌, ◌∷◌, [], take, ap, append_assoc, arith}
use Rattle.debug_model.specs.Addresses.{abstractcs_address}
use Rattle.debug_model.specs.declared.dmi_op.DmiOp.TheVariants.{Read}
use Rattle.probe_access.specs.AskedRuns.{looks_of}
use Rattle.probe_access.proofs.AskedCalls.{looks_snoc}
use Rattle.probe_access.proofs.runs.put_looks.Goals as goal

pub looks-preserved : goal.looks-preserved
looks-preserved c = record {
  put = c.put-behind.ensures.put ∙ ap (λ xs. xs ++ Read abstractcs_address ∷ []) c.looks.invariant.put
      ∙ append_assoc (take c.args.at c.args.operations.now) (looks_of c.looks._look) (Read abstractcs_address ∷ [])
      ∙ ap (λ xs. take c.args.at c.args.operations.now ++ xs) (looks_snoc c.looks._look);
  place = omega (arith, c.put-behind.ensures.behind, c.looks.invariant.place);
  long = c.put-behind.ensures.long ∙ c.looks.invariant.long;
}
