use Rattle.jtag_run.specs.Jobs.{both_value}
use Rattle.jtag_run.proofs.Prepares.{image_cause, prepared_by}
use Rattle.jtag_run.proofs.Answered.{if_err}
use Rattle.jtag_run.proofs.prepare.prepare.Goals as goal

pub returns-in_err-image-clause-cause : goal.returns-in_err-image-clause-cause
returns-in_err-image-clause-cause g c =
    if_err _ c.in_err-image.field-0.0 _ c.from_residual-in_err-image.ensures.1
    (image_cause (both_value c.args.job.now) _
    (record {
      held = g.F.Files.held c.load_script.new.files;
      asked = g.F.Files.asked c.load_script.new.files;
      faults =
          g.F.Files.fault_count c.load_script.new.files;
    }) _ _ _
    (rw c.as_str.ensures.value at c.in_ok-script.ensures.commands) c.load_script.ensures.held (rw c.as_str.ensures.value at c.in_ok-script.ensures.asked)
    c.load_script.ensures.later c.read_bytes.ensures.later (rw c.as_str-2.ensures.value at c.in_err-image.ensures.cause))

pub returns-clause-prepared : goal.returns-clause-prepared
returns-clause-prepared g c =
    prepared_by (both_value c.args.job.now) _ (g.F.Files.held c.load_script.new.files) _ c.in_ok-image.image.items _
    (rw c.as_str.ensures.value at c.in_ok-script.ensures.commands) c.load_script.ensures.held (rw c.as_str-2.ensures.value at c.in_ok-image.ensures.image)
    (rw c.deref.ensures.value at c.in_ok-load_chip.ensures.loads) (rw c.deref.ensures.value at c.in_ok-load_chip.ensures.chip)
    c.in_ok-load_chip.ensures.as_loaded
