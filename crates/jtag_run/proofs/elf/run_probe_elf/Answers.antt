use Rattle.std.proofs.Common.{refl}
use Rattle.jtag_run.specs.Ran.RanProbeElf.{ran, refused}
use Rattle.jtag_run.proofs.elf.run_probe_elf.Goals as goal

pub returns-in-Ok : goal.returns-in-Ok
returns-in-Ok g c = record {
  ended = ran _ _ (rw c.as_str.ensures.value at c.in-Ok.ensures.script) (rw c.as_str-2.ensures.value at c.in-Ok.ensures.file)
      (rw (c.as_str.ensures.value, c.as_str-2.ensures.value) at c.in-Ok.ensures.asked) (rw c.as_str-in-Ok.ensures.value at c.probe_elf_at.ensures.ended);
}

pub returns-in-Err : goal.returns-in-Err
returns-in-Err g c = record {
  ended = refused c.in-Err.refusal (rw (c.as_str.ensures.value, c.as_str-2.ensures.value) at c.in-Err.ensures.cause) c.refuse.ensures.refused refl;
}
