use Rattle.jtag_run.proofs.Answered.{if_err}
use Rattle.jtag_run.proofs.ElfFiles.{unread_cause}
use Rattle.jtag_run.proofs.elf_file.load_elf_file.Goals as goal

pub returns-in_err-bytes-clause-cause : goal.returns-in_err-bytes-clause-cause
returns-in_err-bytes-clause-cause g c =
    if_err _ c.in_err-bytes.field-0.0 _ c.from_residual.ensures.1
    (unread_cause c.args.name.now
    (record { held = g.F.Files.held c.args.files.now; asked = g.F.Files.asked c.args.files.now; faults = g.F.Files.fault_count c.args.files.now })
    (record {
      held = g.F.Files.held c.read_bytes.new.files;
      asked = g.F.Files.asked c.read_bytes.new.files;
      faults = g.F.Files.fault_count c.read_bytes.new.files;
    })
    _ c.in_err-bytes.ensures.cause)
