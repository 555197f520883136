use Rattle.std.proofs.Common.{arith}
use Rattle.std.proofs.lemmas.Grind.{common_steps}
use Rattle.debug_model.proofs.RegisterLemmas.{number_in_registers, is_register-found}
use Rattle.debug_model.proofs.register_name.RegName.named.Goals as goal

pub loop-known-init : goal.loop-known-init
loop-known-init c = number_in_registers c.args.name.now c.named_registers-known-items.result.now c.named_registers-known-items.ensures

pub returns-then-eq-clause-known : goal.returns-then-eq-clause-known
returns-then-eq-clause-known c = is_register-found c.args.name.now _ (grind (arith, common_steps))
