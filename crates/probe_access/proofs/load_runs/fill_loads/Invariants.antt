use Rattle.std.proofs.Common.{◌≡◌, ◌+◌, ◌*◌, ◌∷◌, length, take}
use Rattle.debug_model.specs.Addresses.{abstractauto_address, command_address}
use Rattle.debug_model.specs.Many.{operations_most}
use Rattle.debug_model.specs.declared.dmi_op.DmiOp.TheVariants.{Write}
use Rattle.probe_access.specs.ReadRuns.{is_wide, own_words, reads_of}
use Rattle.probe_access.specs.RegisterAccess.{next_word}
use Rattle.probe_access.proofs.load_runs.fill_loads.Given as goal

abbrev pub invariant-elements : goal.invariant-elements
invariant-elements l = record {
  filled : take l.at l.operations ≡ Write abstractauto_address 1 ∷ Write command_address next_word ∷ reads_of (is_wide l.fn.size) l.fn.run.looks l._element;
  place : l.at ≡ l._element * (l.fn.run.looks + own_words (is_wide l.fn.size)) + 2;
  long : length l.operations ≡ operations_most;
}
