use Rattle.debug_model.proofs.RegisterLemmas.{name_in_registers}
use Rattle.debug_model.proofs.register_name.RegName.name.Goals as goal

pub loop-name-init : goal.loop-name-init
loop-name-init c =
    let rows = c.named_registers-name-items.result.now in
    name_in_registers c.args.self.0 rows c.named_registers-name-items.ensures
