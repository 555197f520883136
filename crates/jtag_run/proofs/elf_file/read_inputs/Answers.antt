use Rattle.jtag_run.proofs.Answered.{if_err}
use Rattle.jtag_run.proofs.ElfFiles.{elf_held, file_cause, script_cause}
use Rattle.jtag_run.proofs.elf_file.read_inputs.Goals as goal

pub returns-in_err-script-clause-cause : goal.returns-in_err-script-clause-cause
returns-in_err-script-clause-cause g c =
    if_err _ c.in_err-script.field-0.0 _ c.from_residual.ensures.1
    (script_cause c.args.script.now c.args.file.now
    (record { held = g.F.Files.held c.args.files.now; asked = g.F.Files.asked c.args.files.now; faults = g.F.Files.fault_count c.args.files.now })
    (record {
      held = g.F.Files.held c.load_script.new.files;
      asked = g.F.Files.asked c.load_script.new.files;
      faults = g.F.Files.fault_count c.load_script.new.files;
    })
    _ c.in_err-script.ensures.cause)

pub returns-in_err-file-clause-cause : goal.returns-in_err-file-clause-cause
returns-in_err-file-clause-cause g c =
    if_err _ c.in_err-file.field-0.0 _ c.from_residual-in_err-file.ensures.1
    (file_cause c.args.script.now c.args.file.now
    (record { held = g.F.Files.held c.args.files.now; asked = g.F.Files.asked c.args.files.now; faults = g.F.Files.fault_count c.args.files.now })
    (record {
      held = g.F.Files.held c.load_script.new.files;
      asked = g.F.Files.asked c.load_script.new.files;
      faults = g.F.Files.fault_count c.load_script.new.files;
    })
    (record {
      held = g.F.Files.held c.load_elf_file.new.files;
      asked = g.F.Files.asked c.load_elf_file.new.files;
      faults = g.F.Files.fault_count c.load_elf_file.new.files;
    })
    c.in_ok-script.script _ c.in_ok-script.ensures.commands c.load_script.ensures.held c.in_ok-script.ensures.asked
    c.load_script.ensures.later c.load_elf_file.ensures.later c.in_err-file.ensures.cause)

pub returns-clause-file : goal.returns-clause-file
returns-clause-file g c =
    elf_held _ (g.F.Files.held c.load_script.new.files) _ _ c.in_ok-file.file.elf c.load_script.ensures.held c.in_ok-file.ensures.holds
    c.in_ok-file.ensures.reads
