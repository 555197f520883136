use Rattle.std.proofs.Common.{sym, ap, ◌∙◌, arith}
use Rattle.chain_scan.specs.SideTap.{width_least, width_most}
use Rattle.debug_model.specs.ScriptNumber.{number_read}
use Rattle.command_line.specs.Chains.{width_of}
use Rattle.command_line.specs.Numbers.{◌>>=◌, number_of, value_of, within}
use Rattle.command_line.proofs.RangeLemmas.{within_above, within_below, within_range}
use Rattle.command_line.proofs.chains.width_of.Goals as goal

pub returns-in-Ok-clause-width : goal.returns-in-Ok-clause-width
unfolding width_of number_of
returns-in-Ok-clause-width c =
    sym (ap (λ w. value_of (number_read w) >>= within width_least width_most) (sym c.as_bytes.ensures.value)
    ∙ ap (λ r. value_of r >>= within width_least width_most) (sym c.in-Ok.ensures)
    ∙ within_range width_least width_most c.in-Ok.number (omega arith) (omega arith))

pub returns-in_default-clause-width : goal.returns-in_default-clause-width
unfolding width_of number_of
returns-in_default-clause-width c =
    sym (ap (λ w. value_of (number_read w) >>= within width_least width_most) (sym c.as_bytes.ensures.value)
    ∙ ap (λ r. value_of r >>= within width_least width_most) (sym c.in-Ok.ensures)
    ∙ within_above width_least width_most c.in-Ok.number (omega arith))

pub returns-in_default-2-clause-width : goal.returns-in_default-2-clause-width
unfolding width_of number_of
returns-in_default-2-clause-width c =
    sym (ap (λ w. value_of (number_read w) >>= within width_least width_most) (sym c.as_bytes.ensures.value)
    ∙ ap (λ r. value_of r >>= within width_least width_most) (sym c.in-Ok.ensures)
    ∙ within_below width_least width_most c.in-Ok.number (omega arith))

pub returns-in_default-3-clause-width : goal.returns-in_default-3-clause-width
unfolding width_of number_of
returns-in_default-3-clause-width c =
    sym (ap (λ w. value_of (number_read w) >>= within width_least width_most) (sym c.as_bytes.ensures.value)
    ∙ ap (λ r. value_of r >>= within width_least width_most) (sym c.in_default.ensures))
