use Rattle.std.proofs.Common.{◌∙◌, ◌++◌, ◌∷◌, ◌+◌, [], ap, arith}
use Rattle.debug_model.specs.Addresses.{abstractauto_address, command_address, data0_address}
use Rattle.debug_model.specs.declared.dmi_op.DmiOp.TheVariants.{Write}
use Rattle.probe_access.specs.AskedRuns.{looks_of}
use Rattle.probe_access.specs.RegisterAccess.{next_word}
use Rattle.probe_access.proofs.AskedCalls.{asks_snoc, left_within, step_within}
use Rattle.probe_access.proofs.runs.fill_run.Goals as goal

pub put_looks-looked-requires : goal.put_looks-looked-requires
put_looks-looked-requires c =
    omega (
      arith,
      c.elements.invariant.place,
      c.elements.invariant.long,
      c.requires.few,
      step_within c.elements._element c.args.run.more (c.args.run.looks + 1) c.elements-test.true,
    )

pub elements-preserved : goal.elements-preserved
elements-preserved c = record {
  filled = c.put-at-in-elements.ensures.put ∙ ap (λ xs. xs ++ Write data0_address 0 ∷ []) c.put_looks-looked.ensures.put
      ∙ ap (λ xs. (xs ++ looks_of c.args.run.looks) ++ Write data0_address 0 ∷ []) c.elements.invariant.filled
      ∙ ap (λ xs. Write abstractauto_address 1 ∷ Write command_address next_word ∷ xs) (asks_snoc c.args.run.looks c.elements._element);
  place = omega (
    arith,
    c.put-at-in-elements.ensures.behind,
    c.put_looks-looked.ensures.behind,
    c.elements.invariant.place,
    left_within (c.elements._element + 1) (c.args.run.looks + 1) (omega arith),
  );
  long = c.put-at-in-elements.ensures.long ∙ c.put_looks-looked.ensures.long ∙ c.elements.invariant.long;
}
