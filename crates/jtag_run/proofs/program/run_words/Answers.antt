use Rattle.std.proofs.Common.{refl}
use Rattle.jtag_run.specs.Jobs.{both_elf_value, both_soft_value, both_value, chip_value, gen_value}
use Rattle.jtag_run.specs.Jobs.{probe_elf_value, probe_soft_value, probe_value, sniff_value}
use Rattle.jtag_run.proofs.ElfRuns.{run_probe_programmed, run_programmed}
use Rattle.jtag_run.proofs.Recordings.{run_recorded}
use Rattle.jtag_run.proofs.Runs.{refused_words, run_both, run_gen, run_probe, run_served}
use Rattle.jtag_run.proofs.SoftRuns.{run_probe_soft_job, run_soft_job}
use Rattle.jtag_run.proofs.program.run_words.Goals as goal

pub returns-in-Err : goal.returns-in-Err
returns-in-Err g c = record { ended = refused_words _ _ _ _ _ c.in-Err.refusal c.in-Err.ensures.cause c.refuse.ensures.refused refl refl c.blank.ensures }

pub returns-in-Both : goal.returns-in-Both
returns-in-Both g c = record {
  ended = run_both _ _ _ _ _ _ (both_value c.in-Both.job) (rw c.in-Both.is at c.in-Ok.ensures.work)
      (rw c.in-Both.is at c.in-Ok.ensures.ranges).1 c.blank.ensures
      c.run_both.ensures.ended;
}

pub returns-in-Gen : goal.returns-in-Gen
returns-in-Gen g c = record {
  ended = run_gen _ _ _ _ _ _ (gen_value c.in-Gen.job) (rw c.in-Gen.is at c.in-Ok.ensures.work)
      (rw c.in-Gen.is at c.in-Ok.ensures.ranges).1 c.blank.ensures refl
      c.run_gen.ensures.ended;
}

pub returns-in-Elf : goal.returns-in-Elf
returns-in-Elf g c = record {
  ended = run_programmed _ _ _ _ _ _ (both_elf_value c.in-Elf.job) (rw c.in-Elf.is at c.in-Ok.ensures.work)
      (rw c.in-Elf.is at c.in-Ok.ensures.ranges).1 c.blank.ensures refl
      c.run_elf.ensures.ended;
}

pub returns-in-ProbeElf : goal.returns-in-ProbeElf
returns-in-ProbeElf g c = record {
  ended = run_probe_programmed _ _ _ _ _ (probe_elf_value c.in-ProbeElf.job) (rw c.in-ProbeElf.is at c.in-Ok.ensures.work) c.blank.ensures
      c.run_probe_elf.ensures.ended;
}

pub returns-in-Soft : goal.returns-in-Soft
returns-in-Soft g c = record {
  ended = run_soft_job _ _ _ _ _ _ (both_soft_value c.in-Soft.job) (rw c.in-Soft.is at c.in-Ok.ensures.work) c.blank.ensures refl
      c.run_soft.ensures.ended;
}

pub returns-in-ProbeSoft : goal.returns-in-ProbeSoft
returns-in-ProbeSoft g c = record {
  ended = run_probe_soft_job _ _ _ _ _ (probe_soft_value c.in-ProbeSoft.job) (rw c.in-ProbeSoft.is at c.in-Ok.ensures.work) c.blank.ensures
      c.run_probe_soft.ensures.ended;
}

pub returns-in-Probe : goal.returns-in-Probe
returns-in-Probe g c = record {
  ended = run_probe _ _ _ _ _ (probe_value c.in-Probe.job) (rw c.in-Probe.is at c.in-Ok.ensures.work) c.blank.ensures
      c.run_probe.ensures.ended;
}

pub returns-in-Chip : goal.returns-in-Chip
returns-in-Chip g c = record {
  ended = run_served _ _ _ _ _ _ (chip_value c.in-Chip.job) (rw c.in-Chip.is at c.in-Ok.ensures.work) c.blank.ensures c.run_chip.ensures.ended;
}

pub returns-in-Sniff : goal.returns-in-Sniff
returns-in-Sniff g c = record {
  ended = run_recorded _ _ _ _ _ (sniff_value c.in-Sniff.job) (rw c.in-Sniff.is at c.in-Ok.ensures.work) c.blank.ensures refl c.run_sniff.ensures.ended;
}
