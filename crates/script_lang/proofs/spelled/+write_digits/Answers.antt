use Rattle.std.proofs.Common.{◌++◌, sym, ap, ◌∙◌, arith}
use Rattle.std.proofs.lemmas.List.{append-nil}
use Rattle.script_lang.proofs.PrintLemmas.{hexadecimal-none, digits_step}
use Rattle.script_lang.proofs.spelled.+write_digits.Goals as goal

pub returns-then-count-eq0 : goal.returns-then-count-eq0
returns-then-count-eq0 t c =
    sym (ap (λ ds. c.args.text.now.items ++ ds) (hexadecimal-none c.args.count c.args.number c.if-count-eq0.true) ∙ append-nil c.args.text.now.items)

pub returns : goal.returns
returns t c =
    digits_step c.args.count c.args.number c.args.text.now.items c.write_digits.new.text.items _ _ (omega arith) c.in_ok-write_digits.ensures
    c.hex_digit.ensures c.in_ok-push.ensures.items
