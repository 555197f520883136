use Rattle.command_line.proofs.RowLemmas.{rows_in-fails, rows_in-taken}
use Rattle.command_line.proofs.reading.matches_of.Goals as goal

pub returns-in-Ok : goal.returns-in-Ok
returns-in-Ok c = rows_in-taken _ _ c.in-Ok.matches c.requires (c.in-Ok.ensures.kinds c.requires) c.in-Ok.ensures.matches

pub returns-in-Err : goal.returns-in-Err
returns-in-Err c = rows_in-fails _ _ c.in-Err.error _ (c.in-Err.ensures.kinds c.requires) c.fault_by.ensures
