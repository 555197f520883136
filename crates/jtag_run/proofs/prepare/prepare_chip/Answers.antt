use Rattle.jtag_run.specs.Jobs.{chip_value}
use Rattle.jtag_run.proofs.Prepares.{chip_file_cause, prepared_chip_by}
use Rattle.jtag_run.proofs.Answered.{if_err}
use Rattle.jtag_run.proofs.prepare.prepare_chip.Goals as goal

pub returns-in_err-bytes-clause-cause : goal.returns-in_err-bytes-clause-cause
returns-in_err-bytes-clause-cause g c =
    if_err _ c.in_err-bytes.field-0.0 _ c.from_residual.ensures.1
    (chip_file_cause (chip_value c.args.job.now)
    (record { held = g.F.Files.held c.args.files.now; asked = g.F.Files.asked c.args.files.now; faults = g.F.Files.fault_count c.args.files.now })
    (record {
      held = g.F.Files.held c.read_bytes.new.files;
      asked = g.F.Files.asked c.read_bytes.new.files;
      faults = g.F.Files.fault_count c.read_bytes.new.files;
    })
    _ (rw c.as_str.ensures.value at c.in_err-bytes.ensures.cause))

pub returns-clause-prepared : goal.returns-clause-prepared
returns-clause-prepared g c =
    prepared_chip_by (chip_value c.args.job.now) _ c.in_ok-bytes.bytes.items _ (rw c.as_str.ensures.value at c.in_ok-bytes.ensures.image)
    (rw c.deref.ensures.value at c.in_ok-load_chip.ensures.loads) (rw c.deref.ensures.value at c.in_ok-load_chip.ensures.chip)
