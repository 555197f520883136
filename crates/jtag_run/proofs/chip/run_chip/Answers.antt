use Rattle.std.proofs.Common.{refl}
use Rattle.jtag_run.specs.Jobs.{chip_value}
use Rattle.jtag_run.proofs.Runs.{chip_refused, chip_served}
use Rattle.jtag_run.proofs.chip.run_chip.Goals as goal

pub returns-in-Ok : goal.returns-in-Ok
returns-in-Ok g c = record {
  ended = chip_served (chip_value c.args.job.now) _ _ _ c.prepare_chip.new.bench _ _ c.in-Ok.ensures.prepared c.in-Ok.ensures.asked
      (rw (c.as_str.ensures.value, c.as_ref.ensures.value) at c.serve_at.ensures.served);
}

pub returns-in-Err : goal.returns-in-Err
returns-in-Err g c = record {
  ended = chip_refused (chip_value c.args.job.now) _ _ _ _ _ c.in-Err.refusal c.in-Err.ensures.cause c.refuse.ensures.refused refl
      c.in-Err.ensures.kept;
}
