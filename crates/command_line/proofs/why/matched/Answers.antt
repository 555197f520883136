use Rattle.command_line.specs.declared.fault.WordsFault.TheVariants.{Refused}
use Rattle.command_line.proofs.RowLemmas.{rows_in-fails, rows_in-taken}
use Rattle.command_line.proofs.why.matched.Goals as goal

pub returns-in-Ok : goal.returns-in-Ok
returns-in-Ok c = record { taken = rows_in-taken _ _ c.in-Ok.matches c.requires (c.in-Ok.ensures.kinds c.requires) c.in-Ok.ensures.matches }

pub returns : goal.returns
returns c = record { taken = rows_in-fails _ _ c.in-Err.error Refused (c.in-Err.ensures.kinds c.requires) (λ _. c.fault_by.ensures c.in-Refused.is) }
