use Rattle.std.proofs.Common.{[]}
use Rattle.dbg_module.proofs.ServedLemmas.{stepped_served}
use Rattle.dbg_module.proofs.module.Module.command_step.Goals as goal

pub returns-clause-served : goal.returns-clause-served
returns-clause-served c = stepped_served _ _ _ _ _ _ _ (c.step.ensures []) c.requires
