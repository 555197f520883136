use Rattle.std.proofs.Common.{arith}
use Rattle.soft_session.proofs.HideSteps.{hidden_all}
use Rattle.soft_session.proofs.memory.hide_all.Goals as goal

pub returns-clause-hidden : goal.returns-clause-hidden
returns-clause-hidden c = hidden_all c.args.table.now c.args.size c.args.address c.hiding.number _ _ (omega arith) c.hiding.invariant
