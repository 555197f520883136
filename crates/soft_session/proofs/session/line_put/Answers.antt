use Rattle.std.proofs.Common.{◌∙◌, ap, sym}
use Rattle.soft_session.specs.Led.{acted_by}
use Rattle.soft_session.proofs.LineSteps.{errors_alike}
use Rattle.soft_session.proofs.session.line_put.Goals as goal

pub returns-then-is_error-clause-acted : goal.returns-then-is_error-clause-acted
returns-then-is_error-clause-acted g c = ap acted_by (sym c.if-is_error.true ∙ c.is_error.ensures ∙ errors_alike c.args.line.now)

pub returns-else-is_error-clause-acted : goal.returns-else-is_error-clause-acted
returns-else-is_error-clause-acted g c = ap acted_by (sym c.if-is_error.false ∙ c.is_error.ensures ∙ errors_alike c.args.line.now)
