use Rattle.soft_session.proofs.HideSteps.{HiddenTo}
use Rattle.soft_session.proofs.memory.hide_all.Given as goal

abbrev pub invariant-hiding : goal.invariant-hiding
invariant-hiding l = HiddenTo l.table l.size l.address l.fn.values.items l.values.items l.number
