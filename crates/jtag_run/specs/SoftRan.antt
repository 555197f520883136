-- How a run ends whose script may set software breakpoints: what was accepted, and what its job did then.
-- The program is this project's own (docs/FORMATS.md, "Statuses").
use Rattle.std.specs.Prelude.{◌≡◌, ℕ, List, Option, Some}
use Rattle.command_line.specs.WrittenJob.{job_of}
use Rattle.debug_model.specs.Chip.{Live}
use Rattle.debug_model.specs.Loaded.{AsLoaded}
use Rattle.debug_model.specs.declared.soft_command.SoftCommand.{SoftCommand}
use Rattle.jt_base.specs.Files.{Holds, NamedFile, asked_more}
use Rattle.jtag_run.specs.First.{CanLoad, first_chip}
use Rattle.jtag_run.specs.Jobs.{BothSoft, ProbeSoft, said_both_soft, said_probe_soft}
use Rattle.jtag_run.specs.Outside.{FilesSeen, Outside}
use Rattle.jtag_run.specs.Refusal.{Refused}
use Rattle.jtag_run.specs.SoftEnds.{ProbeSoftEnd, SoftEnd}
use Rattle.jtag_run.specs.SoftRefusal.{HoldsSoftScript, SoftCause, SoftScriptFileCause, asked_soft}
use Rattle.jtag_run.specs.declared.refusal.Refusal.{Refusal}
use Rattle.jtag_run.specs.declared.status.Status.{Status}
use Rattle.wire_session.specs.Seen.{SinkSeen}

-- ---- what was accepted

-- the words write this job, its script is read as these commands, and its image can be loaded
pub record IsAcceptedSoft (words : List (List ℕ)) (held : Option (List NamedFile)) (job : BothSoft) (commands : List SoftCommand) (image : List ℕ)
    : Type 0 where
  pub words_write : job_of words ≡ Some (said_both_soft job)
  pub script_reads : HoldsSoftScript held job.script commands
  pub image_is : Holds held job.image image
  pub loads : CanLoad job.options image

-- the words write this job, and its script is read as these commands
pub record IsAcceptedProbeSoft (words : List (List ℕ)) (held : Option (List NamedFile)) (job : ProbeSoft) (commands : List SoftCommand) : Type 0 where
  pub words_write : job_of words ≡ Some (said_probe_soft job)
  pub script_reads : HoldsSoftScript held job.script commands

-- behind what is read and judged first: the chip is on the bench
pub record PreparedSoft (job : BothSoft) (held : Option (List NamedFile)) (commands : List SoftCommand) (bench : Option Live) : Type 0 where
  pub image : List ℕ
  pub script_reads : HoldsSoftScript held job.script commands
  pub image_is : Holds held job.image image
  pub loads : CanLoad job.options image
  pub is : bench ≡ Some (first_chip job.options image)
  pub as_loaded : AsLoaded (first_chip job.options image)

-- ---- each job, once its words are read

-- the script or the image was refused; or just the two were asked for, and the session ran
pub data RanSoft (job : BothSoft) (files_was files_is : FilesSeen) (old new : SinkSeen) (bench left : Option Live) (status : Status) : Type 0 where
  refused : (refusal : Refusal) → SoftCause job files_was files_is refusal → Refused refusal old new status → left ≡ bench
      → RanSoft job files_was files_is old new bench left status
  ran : (commands : List SoftCommand) (image : List ℕ) → HoldsSoftScript files_was.held job.script commands → Holds files_was.held job.image image
      → CanLoad job.options image → files_is.asked ≡ asked_soft job files_was
      → SoftEnd (first_chip job.options image) commands old new left status → RanSoft job files_was files_is old new bench left status

-- the script was refused, and nothing was opened; or just the script was asked for, and the net was opened
pub data RanProbeSoft (job : ProbeSoft) (old new : Outside) (status : Status) : Type 0 where
  refused : (refusal : Refusal) → SoftScriptFileCause job.script old.files new.files refusal → Refused refusal old.sink new.sink status
      → new.net ≡ old.net → RanProbeSoft job old new status
  ran : (commands : List SoftCommand) → HoldsSoftScript old.files.held job.script commands → new.files.asked ≡ asked_more job.script old.files.asked
      → ProbeSoftEnd job.at commands old.net new.net old.sink new.sink status → RanProbeSoft job old new status
