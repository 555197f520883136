use Rattle.std.proofs.Common.{refl}
use Rattle.jtag_run.specs.Jobs.{probe_value}
use Rattle.jtag_run.proofs.Runs.{probe_alone, probe_chained}
use Rattle.jtag_run.specs.Ran.RanProbe.{refused}
use Rattle.jtag_run.proofs.probe.run_probe.Goals as goal

pub returns-in-Some : goal.returns-in-Some
returns-in-Some g c = record {
  ended = probe_chained (probe_value c.args.job) c.in-Some.plan _ _ _ _ (rw c.as_str.ensures.value at c.in-Ok.ensures.commands)
      (rw c.as_str.ensures.value at c.in-Ok.ensures.asked) c.in-Some.is (rw c.as_str-in-Some.ensures.value at c.probe_chain_at.ensures.ended);
}

pub returns : goal.returns
returns g c = record {
  ended = probe_alone (probe_value c.args.job) _ _ _ _ (rw c.as_str.ensures.value at c.in-Ok.ensures.commands)
      (rw c.as_str.ensures.value at c.in-Ok.ensures.asked) c.in-None.is (rw c.as_str-in-None.ensures.value at c.probe_at.ensures.ended);
}

pub returns-in-Err : goal.returns-in-Err
returns-in-Err g c = record { ended = refused c.in-Err.refusal (rw c.as_str.ensures.value at c.in-Err.ensures.cause) c.refuse.ensures.refused refl }
