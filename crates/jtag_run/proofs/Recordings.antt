-- What is read of a recording, over plain variables, and how its run ends.
use Rattle.std.proofs.Common.{◌≡◌, ◌⊎◌, ◌≤◌, ◌∙◌, ℕ, Bool, true, false, List, Option, Some, None, ap, inl, inr, subst}
use Rattle.debug_model.specs.Chip.{Live}
use Rattle.jt_base.proofs.FaultLemmas.{rises_from}
use Rattle.jt_base.specs.Files.{Holds, NamedFile, asked_more}
use Rattle.jtag_run.proofs.Prepares.{long_before}
use Rattle.jtag_run.specs.Jobs.{Sniff, said_sniff}
use Rattle.jtag_run.specs.Outside.{FilesSeen, Outside}
use Rattle.jtag_run.specs.Ran.{Ran}
use Rattle.jtag_run.specs.Ran.Ran.{refused, sniffed}
use Rattle.jtag_run.specs.Recording.{RanSniff, Shows}
use Rattle.jtag_run.specs.Recording.RanSniff.{refused as unread, sniffed as shown}
use Rattle.jtag_run.specs.Refusal.{AskedRecordingFront, ImageFileCause, SniffCause}
use Rattle.jtag_run.specs.Refusal.FaultyFile.{of_answers, of_stream}
use Rattle.jtag_run.specs.Causes.RefusalCause.{of_sniff}
use Rattle.jtag_run.specs.declared.refusal.Refusal.{Refusal}
use Rattle.jtag_run.specs.declared.refusal.Refusal.TheVariants.{Words, File, Script, Image, Elf, Open, OutOfMemory}
use Rattle.jtag_run.specs.declared.status.Status.{Status}
use Rattle.command_line.specs.WrittenJob.{job_of}
use Rattle.wire_session.specs.Seen.{SinkSeen}
use Rattle.wire_sniff.specs.Ends.{Sniffs}
use Rattle.wire_sniff.specs.Waves.{Draws}
use Rattle.wire_sniff.specs.declared.sniff_end.SniffEnd.{SniffEnd}

memory_first : (job : Sniff) (old new : FilesSeen) → (new.asked ≡ old.asked) ⊎ (new.asked ≡ asked_more job.stream old.asked) → AskedRecordingFront job old new
memory_first job old new (inl none) = inl none
memory_first job old new (inr one) = inr (inl one)

-- a refusal of the stream's file
pub stream_cause : (job : Sniff) (old new : FilesSeen) (refusal : Refusal) → ImageFileCause job.stream old new refusal → SniffCause job old new refusal
stream_cause job old new Words cause = absurd cause
stream_cause job old new (File name) cause = (cause.0, of_stream cause.1 cause.2)
stream_cause job old new (Script error) cause = absurd cause
stream_cause job old new (Image fault) cause = of_stream cause.0 cause.1
stream_cause job old new (Elf fault) cause = absurd cause
stream_cause job old new Open cause = absurd cause
stream_cause job old new OutOfMemory cause = memory_first job old new cause

pub holds_before : (held mid : Option (List NamedFile)) (name bytes : List ℕ) → mid ≡ held → Holds mid name bytes → Holds held name bytes
holds_before held mid name bytes same holds = subst (λ h. Holds h name bytes) same holds

memory_second : (job : Sniff) (old mid new : FilesSeen) → mid.asked ≡ asked_more job.stream old.asked
    → (new.asked ≡ mid.asked) ⊎ (new.asked ≡ asked_more job.answers mid.asked) → AskedRecordingFront job old new
memory_second job old mid new asked (inl none) = inr (inl (none ∙ asked))
memory_second job old mid new asked (inr one) = inr (inr (one ∙ ap (asked_more job.answers) asked))

-- a refusal of the answers' file, behind the stream that was read
pub answers_cause : (job : Sniff) (old mid new : FilesSeen) (stream : List ℕ) (refusal : Refusal)
    → Holds old.held job.stream stream → mid.held ≡ old.held → mid.asked ≡ asked_more job.stream old.asked
    → old.faults ≤ mid.faults → mid.faults ≤ new.faults → ImageFileCause job.answers mid new refusal → SniffCause job old new refusal
answers_cause job old mid new stream Words holds same asked later more cause = absurd cause
answers_cause job old mid new stream (File name) holds same asked later more cause =
    (rises_from old.faults mid.faults new.faults later more cause.0, of_answers stream holds cause.1 (cause.2 ∙ ap (asked_more job.answers) asked))
answers_cause job old mid new stream (Script error) holds same asked later more cause = absurd cause
answers_cause job old mid new stream (Image fault) holds same asked later more cause =
    of_answers stream holds (long_before job.answers mid old fault same cause.0) (cause.1 ∙ ap (asked_more job.answers) asked)
answers_cause job old mid new stream (Elf fault) holds same asked later more cause = absurd cause
answers_cause job old mid new stream Open holds same asked later more cause = absurd cause
answers_cause job old mid new stream OutOfMemory holds same asked later more cause = memory_second job old mid new asked cause

-- ---- what is shown

pub shows_waves : (waves : Bool) (stream answers : List ℕ) (old new : SinkSeen) (end : SniffEnd) → waves ≡ true
    → Draws stream answers old.printed new.printed old.faults new.faults end → Shows waves stream answers old new end
shows_waves true stream answers old new end is draws = draws
shows_waves false stream answers old new end is draws = absurd (let none : ⊥ = cc in none)

pub shows_lines : (waves : Bool) (stream answers : List ℕ) (old new : SinkSeen) (end : SniffEnd) → waves ≡ false
    → Sniffs stream answers old.printed new.printed old.faults new.faults end → Shows waves stream answers old new end
shows_lines true stream answers old new end is sniffs = absurd (let none : ⊥ = cc in none)
shows_lines false stream answers old new end is sniffs = sniffs

-- ---- a run

pub run_recorded : (words : List (List ℕ)) (old new : Outside) (bench : Option Live) (status : Status) (job : Sniff)
    → job_of words ≡ Some (said_sniff job) → bench ≡ None → new.net ≡ old.net
    → RanSniff job old.files new.files old.sink new.sink status → Ran words old new bench status
run_recorded words old new bench status job is blank net (unread refusal cause was) = refused refusal (of_sniff job is cause) was net blank
run_recorded words old new bench status job is blank net (shown stream answers holds given asked ended) =
    sniffed job stream answers (record { words_write = is; stream_is = holds; answers_are = given }) asked ended net blank
