use Rattle.std.proofs.Common.{arith}
use Rattle.std.specs.Str.Parse.{digits_value_after}
use Rattle.std.proofs.lemmas.List.{at_drop_all}
use Rattle.script_lang.proofs.NumberLemmas.{value_grows}
use Rattle.script_lang.proofs.number.value.Goals as goal

pub returns-in_err-checked_mul : goal.returns-in_err-checked_mul
returns-in_err-checked_mul c =
    let grows = value_grows c.args.base c.loop-digit.value c.args.digits.now c.loop-digit.digit-index (omega arith) (omega arith) in
    let fails = c.in_err-checked_mul.ensures in
    rw c.from_residual.ensures (grind arith)

pub returns-in_err-value : goal.returns-in_err-value
returns-in_err-value c =
    let grows = value_grows c.args.base c.loop-digit.value c.args.digits.now c.loop-digit.digit-index (omega arith) (omega arith) in
    let fails = c.in_err-value.ensures in
    rw c.from_residual-in_err-value.ensures (grind arith)

pub returns : goal.returns
returns c =
    let done = at_drop_all (digits_value_after c.args.base c.loop-digit.value) c.args.digits.now c.loop-digit.digit-index (omega arith) in
    grind arith
