use Rattle.std.proofs.Common.{sym, ap, ◌∙◌}
use Rattle.debug_model.specs.ScriptNumber.{number_read}
use Rattle.command_line.specs.Numbers.{number_of, value_of}
use Rattle.command_line.proofs.values.number_of.Goals as goal

pub returns-in-Ok : goal.returns-in-Ok
unfolding number_of
returns-in-Ok c = ap (λ w. value_of (number_read w)) (sym c.as_bytes.ensures.value) ∙ ap value_of (sym c.in-Ok.ensures)

pub returns-in-Err : goal.returns-in-Err
unfolding number_of
returns-in-Err c = ap (λ w. value_of (number_read w)) (sym c.as_bytes.ensures.value) ∙ ap value_of (sym c.in-Err.ensures)
