use Rattle.std.proofs.Common.{◌≡◌, drop, unwrap_or, []}
use Rattle.debug_model.specs.Registers.{name_of_register}
use Rattle.debug_model.proofs.RegisterLemmas.{name_in}
use Rattle.debug_model.proofs.register_name.RegName.name.Given as goal

abbrev pub invariant-loop-name : goal.invariant-loop-name
invariant-loop-name l = unwrap_or (name_in l.self.0 (drop l.name-index l.name-items)) [] ≡ name_of_register l.self.0
