-- A run that lists a recording of a wire, or draws it: what it put, and how each end is told.
-- The program is this project's own (docs/FORMATS.md, "Sniffed lines" and "Statuses").
use Rattle.std.specs.Prelude.{◌≡◌, ℕ, List, Bool, true, false, Option, Some}
use Rattle.debug_model.specs.declared.wire.WireFault.TheVariants as wire
use Rattle.jt_base.specs.Files.{Holds, NamedFile}
use Rattle.jtag_run.specs.Jobs.{Sniff, said_sniff}
use Rattle.jtag_run.specs.LastLine.{Closed, answers_refused, bad_byte, wire_failed}
use Rattle.jtag_run.specs.Outside.{FilesSeen}
use Rattle.jtag_run.specs.Refusal.{Refused, SniffCause, asked_recording}
use Rattle.jtag_run.specs.declared.refusal.Refusal.{Refusal}
use Rattle.jtag_run.specs.declared.status.Status.{Status}
use Rattle.jtag_run.specs.declared.status.Status.TheVariants as status_as
use Rattle.command_line.specs.WrittenJob.{job_of}
use Rattle.wire_session.specs.Seen.{SinkSeen}
use Rattle.wire_sniff.specs.Ends.{Sniffs}
use Rattle.wire_sniff.specs.Waves.{Draws}
use Rattle.wire_sniff.specs.declared.sniff_end.SniffEnd.{SniffEnd}
use Rattle.wire_sniff.specs.declared.sniff_end.SniffEnd.TheVariants as ends

-- what was put of a recording, and its end: its lines, or its waveform
abbrev pub Shows : (waves : Bool) → (stream answers : List ℕ) → SinkSeen → SinkSeen → SniffEnd → Type 0
Shows false stream answers old new end = Sniffs stream answers old.printed new.printed old.faults new.faults end
Shows true stream answers old new end = Draws stream answers old.printed new.printed old.faults new.faults end

-- the last line and the status of an end; behind a recording that was put whole nothing is printed
abbrev pub ToldSniff : SniffEnd → SinkSeen → SinkSeen → Status → Type 0
ToldSniff (ends.BadSign place byte) old new status = Closed (bad_byte place byte) status_as.BadByte old new status
ToldSniff (ends.BadAnswer byte) old new status = Closed (wire_failed (wire.BadAnswer byte)) status_as.Wire old new status
ToldSniff (ends.Count asked given) old new status = Closed (answers_refused asked given) status_as.Answers old new status
ToldSniff ends.Sink old new status = (new ≡ old) × (status ≡ status_as.Sink)
ToldSniff ends.Clean old new status = (new ≡ old) × (status ≡ status_as.Clean)

-- a recording was put, and then its end was told
pub record SniffEnded (waves : Bool) (stream answers : List ℕ) (old new : SinkSeen) (status : Status) : Type 0 where
  pub end : SniffEnd
  pub between : SinkSeen
  pub shows : Shows waves stream answers old between end
  pub told : ToldSniff end between new status

-- the words write this job, and its files hold a stream and answers
pub record IsAcceptedSniff (words : List (List ℕ)) (held : Option (List NamedFile)) (job : Sniff) (stream answers : List ℕ) : Type 0 where
  pub words_write : job_of words ≡ Some (said_sniff job)
  pub stream_is : Holds held job.stream stream
  pub answers_are : Holds held job.answers answers

-- one of its files was not read; or just the two were asked for, and the recording was shown
pub data RanSniff (job : Sniff) (files_was files_is : FilesSeen) (old new : SinkSeen) (status : Status) : Type 0 where
  refused : (refusal : Refusal) → SniffCause job files_was files_is refusal → Refused refusal old new status → RanSniff job files_was files_is old new status
  sniffed : (stream answers : List ℕ) → Holds files_was.held job.stream stream → Holds files_was.held job.answers answers
      → files_is.asked ≡ asked_recording job files_was → SniffEnded job.waves stream answers old new status → RanSniff job files_was files_is old new status
