use Rattle.std.proofs.Common.{◌≡◌, drop}
use Rattle.debug_model.specs.Registers.{number_of_register}
use Rattle.debug_model.proofs.RegisterLemmas.{number_in}
use Rattle.debug_model.proofs.register_name.RegName.named.Given as goal

abbrev pub invariant-loop-known : goal.invariant-loop-known
invariant-loop-known l = number_in l.name (drop l.known-index l.known-items) ≡ number_of_register l.name
