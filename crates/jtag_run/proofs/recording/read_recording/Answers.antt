use Rattle.jtag_run.specs.Jobs.{sniff_value}
use Rattle.jtag_run.proofs.Answered.{if_err}
use Rattle.jtag_run.proofs.Recordings.{answers_cause, holds_before, stream_cause}
use Rattle.jtag_run.proofs.recording.read_recording.Goals as goal

pub returns-in_err-stream-clause-cause : goal.returns-in_err-stream-clause-cause
returns-in_err-stream-clause-cause g c =
    if_err _ c.in_err-stream.field-0.0 _ c.from_residual.ensures.1
    (stream_cause (sniff_value c.args.job.now) _ _ _ (rw c.as_str.ensures.value at c.in_err-stream.ensures.cause))

pub returns-in_err-answers-clause-cause : goal.returns-in_err-answers-clause-cause
returns-in_err-answers-clause-cause g c =
    if_err _ c.in_err-answers.field-0.0 _ c.from_residual-in_err-answers.ensures.1
    (answers_cause (sniff_value c.args.job.now) _
    (record {
      held = g.F.Files.held c.read_bytes.new.files;
      asked = g.F.Files.asked c.read_bytes.new.files;
      faults = g.F.Files.fault_count c.read_bytes.new.files;
    }) _ _ _
    (rw c.as_str.ensures.value at c.in_ok-stream.ensures.image) c.read_bytes.ensures.held (rw c.as_str.ensures.value at c.in_ok-stream.ensures.asked)
    c.read_bytes.ensures.later c.read_bytes-2.ensures.later (rw c.as_str-2.ensures.value at c.in_err-answers.ensures.cause))

pub returns-clause-stream : goal.returns-clause-stream
returns-clause-stream g c = rw c.as_str.ensures.value at c.in_ok-stream.ensures.image

pub returns-clause-answers : goal.returns-clause-answers
returns-clause-answers g c = holds_before _ _ _ _ c.read_bytes.ensures.held (rw c.as_str-2.ensures.value at c.in_ok-answers.ensures.image)
