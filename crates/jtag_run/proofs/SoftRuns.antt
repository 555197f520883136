-- How a job and a run end whose script may set software breakpoints, over plain variables.
use Rattle.std.proofs.Common.{◌≡◌, ◌∙◌, ℕ, List, Option, Some, None, IfSome, subst}
use Rattle.chip_core.specs.Feeds.{limit_met}
use Rattle.command_line.specs.WrittenJob.{job_of}
use Rattle.debug_model.specs.Chip.{Live}
use Rattle.debug_model.specs.declared.soft_command.SoftCommand.{SoftCommand}
use Rattle.jt_base.specs.Files.{NamedFile}
use Rattle.jtag_run.specs.Causes.RefusalCause.{of_probe_soft, of_soft}
use Rattle.jtag_run.specs.Ending.{ClosedBy}
use Rattle.jtag_run.specs.First.{first_chip}
use Rattle.jtag_run.specs.Jobs.{BothSoft, ProbeSoft, said_both_soft, said_probe_soft}
use Rattle.jtag_run.specs.Outside.{FilesSeen, Outside}
use Rattle.jtag_run.specs.Ran.{Ran}
use Rattle.jtag_run.specs.Ran.Ran.{probe_soft, refused, soft}
use Rattle.jtag_run.specs.Sessions.{IsLoadedBench}
use Rattle.jtag_run.specs.SoftEnds.{OnSoftBench, SoftEnd}
use Rattle.jtag_run.specs.SoftRan.{PreparedSoft, RanProbeSoft, RanSoft}
use Rattle.jtag_run.specs.SoftRan.RanProbeSoft.{ran as probe_done, refused as probe_unready}
use Rattle.jtag_run.specs.SoftRan.RanSoft.{ran as soft_done, refused as soft_unready}
use Rattle.jtag_run.specs.SoftRefusal.{asked_soft}
use Rattle.jtag_run.specs.declared.status.Status.{Status}
use Rattle.probe_session.specs.declared.ended.Ended.{Ended as End}
use Rattle.wire_session.specs.Seen.{SinkSeen}

pub prepared_soft_fresh : (job : BothSoft) (held : Option (List NamedFile)) (commands : List SoftCommand) (bench : Option Live)
    → PreparedSoft job held commands bench → IsLoadedBench bench
prepared_soft_fresh job held commands bench p = record { first = first_chip job.options p.image; is = p.is; as_loaded = p.as_loaded }

pub soft_ended : (old bench : Option Live) (script : List SoftCommand) (was mid is : SinkSeen) (closed : End) (status : Status)
    → IfSome old (λ first. OnSoftBench first script was mid bench (limit_met bench) closed) → ClosedBy closed (limit_met bench) mid is status
    → IfSome old (λ first. SoftEnd first script was is bench status)
soft_ended None bench script was mid is closed status ran told = tt
soft_ended (Some first) bench script was mid is closed status ran told = record { closed = closed; behind = mid; ran = ran; told = told }

pub soft_ran : (job : BothSoft) (files_was files_is : FilesSeen) (old new : SinkSeen) (bench mid left : Option Live) (status : Status)
    (commands : List SoftCommand) → PreparedSoft job files_was.held commands mid → files_is.asked ≡ asked_soft job files_was
    → IfSome mid (λ first. SoftEnd first commands old new left status) → RanSoft job files_was files_is old new bench left status
soft_ran job files_was files_is old new bench mid left status commands p asked ended =
    soft_done commands p.image p.script_reads p.image_is p.loads asked
    (subst (λ m. IfSome m (λ first. SoftEnd first commands old new left status)) p.is ended)

pub run_soft_job : (words : List (List ℕ)) (old new : Outside) (bench left : Option Live) (status : Status) (job : BothSoft)
    → job_of words ≡ Some (said_both_soft job) → bench ≡ None → new.net ≡ old.net
    → RanSoft job old.files new.files old.sink new.sink bench left status → Ran words old new left status
run_soft_job words old new bench left status job is blank net (soft_unready refusal cause was kept) =
    refused refusal (of_soft job is cause) was net (kept ∙ blank)
run_soft_job words old new bench left status job is blank net (soft_done commands image script holds loads asked ended) =
    soft job commands image (record { words_write = is; script_reads = script; image_is = holds; loads = loads }) asked net ended

pub run_probe_soft_job : (words : List (List ℕ)) (old new : Outside) (bench : Option Live) (status : Status) (job : ProbeSoft)
    → job_of words ≡ Some (said_probe_soft job) → bench ≡ None → RanProbeSoft job old new status → Ran words old new bench status
run_probe_soft_job words old new bench status job is blank (probe_unready refusal cause was net) = refused refusal (of_probe_soft job is cause) was net blank
run_probe_soft_job words old new bench status job is blank (probe_done commands script asked ended) =
    probe_soft job commands (record { words_write = is; script_reads = script }) asked ended blank
