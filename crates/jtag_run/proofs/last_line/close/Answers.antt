use Rattle.std.proofs.Common.{refl}
use Rattle.jtag_run.proofs.Runs.{closed_said, closed_unsaid}
use Rattle.jtag_run.proofs.last_line.close.Goals as goal

pub returns-in-Ok : goal.returns-in-Ok
returns-in-Ok g c = record { closed = closed_said _ _ _ _ _ refl c.in-Ok.ensures.put }

pub returns-in-Err-Failed : goal.returns-in-Err-Failed
returns-in-Err-Failed g c = record {
  closed = closed_unsaid _ _ _ _ c.in-Err-Failed.ensures.front c.in-Err-Failed.ensures.cause.later c.in-Err-Failed.ensures.cause.cause;
}
