use Rattle.std.proofs.Common.{◌∙◌, ◌++◌, ◌∷◌, ◌+◌, ap, arith}
use Rattle.debug_model.specs.Addresses.{abstractauto_address, command_address}
use Rattle.debug_model.specs.declared.dmi_op.DmiOp.TheVariants.{Write}
use Rattle.probe_access.specs.AskedRuns.{looks_of}
use Rattle.probe_access.specs.ReadRuns.{element_ops, is_wide, own_words}
use Rattle.probe_access.specs.RegisterAccess.{next_word}
use Rattle.probe_access.proofs.AskedCalls.{left_within, step_within}
use Rattle.probe_access.proofs.ReadCalls.{reads_snoc}
use Rattle.probe_access.proofs.load_runs.fill_loads.Goals as goal

pub put_looks-looked-requires : goal.put_looks-looked-requires
put_looks-looked-requires c =
    omega (
      arith,
      c.elements.invariant.place,
      c.elements.invariant.long,
      c.requires.few,
      step_within c.elements._element c.args.run.more (c.args.run.looks + own_words (is_wide c.args.size)) c.elements-test.true,
    )

pub elements-preserved : goal.elements-preserved
elements-preserved c = record {
  filled = c.put_element-at.ensures.put ∙ ap (λ xs. xs ++ element_ops (is_wide c.args.size)) c.put_looks-looked.ensures.put
      ∙ ap (λ xs. (xs ++ looks_of c.args.run.looks) ++ element_ops (is_wide c.args.size)) c.elements.invariant.filled
      ∙ ap (λ xs. Write abstractauto_address 1 ∷ Write command_address next_word ∷ xs)
      (reads_snoc (is_wide c.args.size) c.args.run.looks c.elements._element);
  place = omega (
    arith,
    c.put_element-at.ensures.behind,
    c.put_looks-looked.ensures.behind,
    c.elements.invariant.place,
    left_within (c.elements._element + 1) (c.args.run.looks + own_words (is_wide c.args.size)) (omega arith),
  );
  long = c.put_element-at.ensures.long ∙ c.put_looks-looked.ensures.long ∙ c.elements.invariant.long;
}
