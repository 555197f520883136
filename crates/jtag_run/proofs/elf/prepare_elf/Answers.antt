use Rattle.jtag_run.specs.Jobs.{both_elf_value}
use Rattle.jtag_run.specs.Refusal.ElfCause.{of_chip, of_files}
use Rattle.jtag_run.proofs.Answered.{if_err}
use Rattle.jtag_run.proofs.ElfFiles.{prepared_elf_by}
use Rattle.jtag_run.proofs.elf.prepare_elf.Goals as goal

pub returns-in_err-inputs-clause-cause : goal.returns-in_err-inputs-clause-cause
returns-in_err-inputs-clause-cause g c =
    if_err _ c.in_err-inputs.field-0.0 _ c.from_residual.ensures.1
    (of_files (rw (c.as_str.ensures.value, c.as_str-2.ensures.value) at c.in_err-inputs.ensures.cause))

pub returns-in_err-load_chip-clause-cause : goal.returns-in_err-load_chip-clause-cause
returns-in_err-load_chip-clause-cause g c =
    if_err _ c.in_err-load_chip.field-0.0 _ c.from_residual-in_err-load_chip.ensures.1
    (of_chip c.in_ok-inputs.inputs.script c.in_ok-inputs.inputs.file.bytes.items (rw c.as_str.ensures.value at c.in_ok-inputs.ensures.script)
    (rw c.as_str-2.ensures.value at c.in_ok-inputs.ensures.file) (rw c.halted.ensures.halted at c.in_err-load_chip.ensures.cause)
    (rw (c.as_str.ensures.value, c.as_str-2.ensures.value) at c.in_ok-inputs.ensures.asked))

pub returns-clause-prepared : goal.returns-clause-prepared
returns-clause-prepared g c =
    prepared_elf_by (both_elf_value c.args.job.now) _ _ _ _ (rw c.as_str.ensures.value at c.in_ok-inputs.ensures.script)
    (rw c.as_str-2.ensures.value at c.in_ok-inputs.ensures.file) (rw c.halted.ensures.halted at c.in_ok-load_chip.ensures.loads)
    (rw c.halted.ensures.halted at c.in_ok-load_chip.ensures.chip) c.in_ok-load_chip.ensures.as_loaded
