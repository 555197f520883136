use Rattle.jtag_run.specs.Jobs.{both_soft_value}
use Rattle.jtag_run.specs.SoftRan.RanSoft.{refused}
use Rattle.jtag_run.proofs.SoftRuns.{soft_ran}
use Rattle.jtag_run.proofs.soft.run_soft.Goals as goal

pub returns-in-Ok : goal.returns-in-Ok
returns-in-Ok g c = record {
  ended = soft_ran (both_soft_value c.args.job.now) _ _ _ _ _ c.prepare_soft.new.bench _ _ _ c.in-Ok.ensures.prepared c.in-Ok.ensures.asked
      c.soft_with.ensures.ended;
}

pub returns-in-Err : goal.returns-in-Err
returns-in-Err g c = record { ended = refused c.in-Err.refusal c.in-Err.ensures.cause c.refuse.ensures.refused c.in-Err.ensures.kept }
