use Rattle.std.proofs.Common.{ap, ◌∙◌}
use Rattle.command_line.specs.WrittenJob.{ranged_in}
use Rattle.command_line.specs.Numbers.{within, ◌>>=◌}
use Rattle.command_line.proofs.GivesLemmas.{gives_err}
use Rattle.command_line.proofs.RangeLemmas.{within_range, within_below, within_above}
use Rattle.command_line.proofs.values.ranged.Goals.{else-least-number-via-then-least-number+else-number-most, else-least-number-via-else-least-number}
use Rattle.command_line.proofs.values.ranged.Goals as goal

pub returns-in_err-number-clause-read : goal.returns-in_err-number-clause-read
unfolding ranged_in
returns-in_err-number-clause-read c = gives_err _ _ _ _ (within c.args.least c.args.most) c.in_err-number.ensures c.from_residual.ensures.1

pub returns-then-number-most-clause-read : goal.returns-then-number-most-clause-read
unfolding ranged_in
returns-then-number-most-clause-read c =
    ap (λ o. o >>= within c.args.least c.args.most) c.in_ok-number.ensures
    ∙ within_range c.args.least c.args.most c.in_ok-number.number c.if-least-number.true c.if-number-most.true

pub returns-else-least-number-clause-read : goal.returns-else-least-number-clause-read
unfolding ranged_in
returns-else-least-number-clause-read c =
    ap (λ o. o >>= within c.args.least c.args.most) c.in_ok-number.ensures
    ∙ elim c.else-least-number.branch [
      | else-least-number-via-then-least-number+else-number-most w ↦ within_above c.args.least c.args.most c.in_ok-number.number w.if-number-most.false
      | else-least-number-via-else-least-number w ↦ within_below c.args.least c.args.most c.in_ok-number.number w.if-least-number.false
    ]
