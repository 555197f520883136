use Rattle.command_line.proofs.Writing.{number_within}
use Rattle.command_line.proofs.why.check_number.Goals as goal

pub returns-in-Ok-clause-number : goal.returns-in-Ok-clause-number
returns-in-Ok-clause-number c = number_within _ _ _ _ _ c.in-Ok.number c.in-Some.ensures c.in-Ok.ensures c.if-least-number.true c.if-number-most.true
