use Rattle.jtag_run.specs.Jobs.{both_elf_value}
use Rattle.jtag_run.specs.Ran.RanElf.{refused}
use Rattle.jtag_run.proofs.ElfRuns.{elf_ran}
use Rattle.jtag_run.proofs.elf.run_elf.Goals as goal

pub returns-in-Ok : goal.returns-in-Ok
returns-in-Ok g c = record {
  ended = elf_ran (both_elf_value c.args.job.now) _ _ _ _ _ c.prepare_elf.new.bench _ _ _ _ c.in-Ok.ensures.prepared c.in-Ok.ensures.asked
      c.elf_with.ensures.ended;
}

pub returns-in-Err : goal.returns-in-Err
returns-in-Err g c = record { ended = refused c.in-Err.refusal c.in-Err.ensures.cause c.refuse.ensures.refused c.in-Err.ensures.kept }
