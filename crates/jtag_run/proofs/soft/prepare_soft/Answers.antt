use Rattle.jtag_run.specs.Jobs.{both_soft_value}
use Rattle.jtag_run.proofs.Answered.{if_err}
use Rattle.jtag_run.proofs.SoftFiles.{prepared_soft_by, soft_image_cause}
use Rattle.jtag_run.proofs.soft.prepare_soft.Goals as goal

pub returns-in_err-image-clause-cause : goal.returns-in_err-image-clause-cause
returns-in_err-image-clause-cause g c =
    if_err _ c.in_err-image.field-0.0 _ c.from_residual-in_err-image.ensures.1
    (soft_image_cause (both_soft_value c.args.job.now) _
    (record {
      held = g.F.Files.held c.load_soft_script.new.files;
      asked = g.F.Files.asked c.load_soft_script.new.files;
      faults = g.F.Files.fault_count c.load_soft_script.new.files;
    })
    _ _ _ (rw c.as_str.ensures.value at c.in_ok-script.ensures.commands) c.load_soft_script.ensures.held
    (rw c.as_str.ensures.value at c.in_ok-script.ensures.asked) c.load_soft_script.ensures.later c.read_bytes.ensures.later
    (rw c.as_str-2.ensures.value at c.in_err-image.ensures.cause))

pub returns-clause-prepared : goal.returns-clause-prepared
returns-clause-prepared g c =
    prepared_soft_by (both_soft_value c.args.job.now) _ (g.F.Files.held c.load_soft_script.new.files) _ c.in_ok-image.image.items _
    (rw c.as_str.ensures.value at c.in_ok-script.ensures.commands) c.load_soft_script.ensures.held
    (rw c.as_str-2.ensures.value at c.in_ok-image.ensures.image) (rw c.deref.ensures.value at c.in_ok-load_chip.ensures.loads)
    (rw c.deref.ensures.value at c.in_ok-load_chip.ensures.chip) c.in_ok-load_chip.ensures.as_loaded
