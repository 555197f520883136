use Rattle.std.proofs.Common.{refl}
use Rattle.std.specs.Fmt.{digits}
use Rattle.debug_model.specs.Registers.{named_registers}
use Rattle.debug_model.proofs.register_name.named_registers.Goals as goal

pub returns : goal.returns
unfolding named_registers digits
returns c = refl
