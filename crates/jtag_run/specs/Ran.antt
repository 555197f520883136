-- How a run ends: what it has printed by its status, why, and the chip that it leaves.
-- The program is this project's own (docs/FORMATS.md, "Statuses").
use Rattle.std.specs.Prelude.{◌≡◌, ℕ, List, [], Option, Some, None}
use Rattle.debug_model.specs.declared.command.Command.{Command}
use Rattle.debug_model.specs.Chip.{Live}
use Rattle.debug_model.specs.Loaded.{AsLoaded}
use Rattle.generator.specs.Commands.{commands}
use Rattle.generator.specs.Image.{IsImageOf, program}
use Rattle.jt_base.specs.Files.{Holds, NamedFile, asked_more}
use Rattle.jtag_run.specs.Bounds.{IsFair, StaysWithin, slack_of}
use Rattle.jtag_run.specs.Causes.{RefusalCause}
use Rattle.jtag_run.specs.First.{CanLoad, first_chip}
use Rattle.jtag_run.specs.Outside.{FilesSeen, NetSeen, Outside}
use Rattle.jtag_run.specs.Ends.{BenchEnd, ElfEnd, GenEnd, LoopEnd, ProbeElfEnd, ProbeEnd}
use Rattle.jtag_run.specs.Refusal.{ElfCause, ElfFilesCause, GenCause, HoldsElf, HoldsScript, JobCause, Refused, ScriptFileCause}
use Rattle.jtag_run.specs.Refusal.{asked_both, asked_elf, asked_image, asked_recording}
use Rattle.jtag_run.specs.Recording.{IsAcceptedSniff, SniffEnded}
use Rattle.jtag_run.specs.ServedChip.{IsAcceptedChip, ServedAt}
use Rattle.jtag_run.specs.SoftEnds.{ProbeSoftEnd, SoftEnd}
use Rattle.jtag_run.specs.SoftRan.{IsAcceptedProbeSoft, IsAcceptedSoft}
use Rattle.jtag_run.specs.SoftRefusal.{asked_soft}
use Rattle.debug_model.specs.declared.soft_command.SoftCommand.{SoftCommand}
use Rattle.jtag_run.specs.Jobs.{Both, BothElf, BothSoft, Chip, Gen, Probe, ProbeElf, ProbeSoft, Sniff, halted}
use Rattle.jtag_run.specs.Jobs.{said_both, said_both_elf, said_gen, said_probe, said_probe_elf}
use Rattle.jtag_run.specs.declared.refusal.Refusal.{Refusal}
use Rattle.jtag_run.specs.declared.status.Status.{Status}
use Rattle.command_line.specs.WrittenJob.{job_of}
use Rattle.command_line.specs.declared.job.Way.{Way}
use Rattle.command_line.specs.declared.job.Way.TheVariants.{Straight, Looped, Chained}
use Rattle.wire_session.specs.Seen.{SinkSeen}

-- ---- what was accepted

-- the words write this job, its script is read as these commands, and its image can be loaded, into a chip whose schedule is fair
pub record IsAccepted (words : List (List ℕ)) (held : Option (List NamedFile)) (job : Both) (commands : List Command) (image : List ℕ) : Type 0 where
  pub words_write : job_of words ≡ Some (said_both job)
  pub script_reads : HoldsScript held job.script commands
  pub image_is : Holds held job.image image
  pub loads : CanLoad job.options image
  pub fair : IsFair (first_chip job.options image)

-- the words write this job, and the image of its number can be loaded, into a chip whose schedule is fair
pub record IsAcceptedGen (words : List (List ℕ)) (job : Gen) (image : List ℕ) : Type 0 where
  pub words_write : job_of words ≡ Some (said_gen job)
  pub made : IsImageOf (program job.number) image
  pub loads : CanLoad job.options image
  pub fair : IsFair (first_chip job.options image)

-- the words write this job, and its script is read as these commands
pub record IsAcceptedProbe (words : List (List ℕ)) (held : Option (List NamedFile)) (job : Probe) (commands : List Command) : Type 0 where
  pub words_write : job_of words ≡ Some (said_probe job)
  pub script_reads : HoldsScript held job.script commands

-- the words write this job, its script is read as these commands, its file is an ELF file that can be loaded, and a chip of its options can be made,
-- whose schedule is fair
pub record IsAcceptedElf (words : List (List ℕ)) (held : Option (List NamedFile)) (job : BothElf) (commands : List Command) (file : List ℕ) : Type 0 where
  pub words_write : job_of words ≡ Some (said_both_elf job)
  pub script_reads : HoldsScript held job.script commands
  pub file_is : HoldsElf held job.file file
  pub loads : CanLoad (halted job.options) []
  pub fair : IsFair (first_chip (halted job.options) [])

-- the words write this job, its script is read as these commands, and its file is an ELF file that can be loaded
pub record IsAcceptedProbeElf (words : List (List ℕ)) (held : Option (List NamedFile)) (job : ProbeElf) (commands : List Command) (file : List ℕ) : Type 0 where
  pub words_write : job_of words ≡ Some (said_probe_elf job)
  pub script_reads : HoldsScript held job.script commands
  pub file_is : HoldsElf held job.file file

-- behind what is read and judged first: the chip is on the bench
pub record Prepared (job : Both) (held : Option (List NamedFile)) (commands : List Command) (bench : Option Live) : Type 0 where
  pub image : List ℕ
  pub script_reads : HoldsScript held job.script commands
  pub image_is : Holds held job.image image
  pub loads : CanLoad job.options image
  pub is : bench ≡ Some (first_chip job.options image)
  pub as_loaded : AsLoaded (first_chip job.options image)

-- the same of a job with an ELF file: the chip's memory is zeros, and its harts are halted
pub record PreparedElf (job : BothElf) (held : Option (List NamedFile)) (commands : List Command) (file : List ℕ) (bench : Option Live) : Type 0 where
  pub script_reads : HoldsScript held job.script commands
  pub file_is : HoldsElf held job.file file
  pub loads : CanLoad (halted job.options) []
  pub is : bench ≡ Some (first_chip (halted job.options) [])
  pub as_loaded : AsLoaded (first_chip (halted job.options) [])

-- behind what is made first: the chip is on the bench
pub record Made (job : Gen) (script : List Command) (bench : Option Live) : Type 0 where
  pub image : List ℕ
  pub script_is : script ≡ commands job.number
  pub made : IsImageOf (program job.number) image
  pub loads : CanLoad job.options image
  pub is : bench ≡ Some (first_chip job.options image)
  pub as_loaded : AsLoaded (first_chip job.options image)

-- ---- each job, once its words are read

-- by its way: straight to the chip on the bench, or to a chain that it is in, and the net stays as it is; or over the net
abbrev pub BothEnd : Way → Live → List Command → (net_was net_is : NetSeen) → (old new : SinkSeen) → Option Live → Status → Type 0
BothEnd Straight first script net_was net_is old new bench status = (net_is ≡ net_was) × BenchEnd first script old new bench status
BothEnd (Chained plan) first script net_was net_is old new bench status = (net_is ≡ net_was) × BenchEnd first script old new bench status
BothEnd Looped first script net_was net_is old new bench status = LoopEnd first script net_was net_is old new bench status

-- the script or the image was refused, and nothing was opened; or just the two were asked for, and the session ran, within the script's bounds
pub data RanBoth (job : Both) (old new : Outside) (bench left : Option Live) (status : Status) : Type 0 where
  refused : (refusal : Refusal) → JobCause job old.files new.files refusal → Refused refusal old.sink new.sink status → new.net ≡ old.net → left ≡ bench
      → RanBoth job old new bench left status
  ran : (commands : List Command) (image : List ℕ) → HoldsScript old.files.held job.script commands → Holds old.files.held job.image image
      → CanLoad job.options image
      → new.files.asked ≡ asked_both job old.files → BothEnd job.way (first_chip job.options image) commands old.net new.net old.sink new.sink left status
      → StaysWithin (slack_of job.way) commands (first_chip job.options image) left
      → RanBoth job old new bench left status

-- the script or the ELF file was refused, or no chip of these options can be made; or just the two files were asked for, and the session ran
pub data RanElf (job : BothElf) (files_was files_is : FilesSeen) (old new : SinkSeen) (bench left : Option Live) (status : Status) : Type 0 where
  refused : (refusal : Refusal) → ElfCause job files_was files_is refusal → Refused refusal old new status → left ≡ bench
      → RanElf job files_was files_is old new bench left status
  ran : (commands : List Command) (file : List ℕ) → HoldsScript files_was.held job.script commands → HoldsElf files_was.held job.file file
      → CanLoad (halted job.options) [] → files_is.asked ≡ asked_elf job.script job.file files_was
      → ElfEnd (first_chip (halted job.options) []) file commands old new left status → RanElf job files_was files_is old new bench left status

-- the image can't be loaded, and nothing was opened; or the session ran, within the script's bounds
pub data RanGen (job : Gen) (net_was net_is : NetSeen) (old new : SinkSeen) (bench left : Option Live) (status : Status) : Type 0 where
  refused : (refusal : Refusal) → GenCause job refusal → Refused refusal old new status → net_is ≡ net_was → left ≡ bench
      → RanGen job net_was net_is old new bench left status
  ran : (image : List ℕ) → IsImageOf (program job.number) image → CanLoad job.options image
      → GenEnd job.way (first_chip job.options image) (commands job.number) net_was net_is old new left status
      → StaysWithin (slack_of job.way) (commands job.number) (first_chip job.options image) left
      → RanGen job net_was net_is old new bench left status

-- the script was refused, and nothing was opened; or just the script was asked for, and the net was opened
pub data RanProbe (job : Probe) (old new : Outside) (status : Status) : Type 0 where
  refused : (refusal : Refusal) → ScriptFileCause job.script old.files new.files refusal → Refused refusal old.sink new.sink status → new.net ≡ old.net
      → RanProbe job old new status
  ran : (commands : List Command) → HoldsScript old.files.held job.script commands → new.files.asked ≡ asked_more job.script old.files.asked
      → ProbeEnd job.at job.chain commands old.net new.net old.sink new.sink status → RanProbe job old new status

-- the script or the ELF file was refused, and nothing was opened; or just the two were asked for, and the net was opened
pub data RanProbeElf (job : ProbeElf) (old new : Outside) (status : Status) : Type 0 where
  refused : (refusal : Refusal) → ElfFilesCause job.script job.file old.files new.files refusal → Refused refusal old.sink new.sink status
      → new.net ≡ old.net → RanProbeElf job old new status
  ran : (commands : List Command) (file : List ℕ) → HoldsScript old.files.held job.script commands → HoldsElf old.files.held job.file file
      → new.files.asked ≡ asked_elf job.script job.file old.files → ProbeElfEnd job.at file commands old.net new.net old.sink new.sink status
      → RanProbeElf job old new status

-- ---- a run

-- a run of these words was refused before a net was opened, and has loaded no chip; or what it asks for was accepted, just its files were asked for, in
-- their order, and: the session of a script ran on a chip on the bench; or that of a number; or one that loads an ELF file first, on a chip of zeros whose harts
-- are halted, and no net was opened; or a script's over a net, or one that loads an ELF file first, and no chip was loaded; or one whose script may set
-- software breakpoints, on a chip on the bench, and no net was opened, or over a net, and no chip was loaded; or a chip was served over a net; or a recording was
-- shown, and no net was opened and no chip loaded
pub data Ran (words : List (List ℕ)) (old new : Outside) (bench : Option Live) (status : Status) : Type 0 where
  refused : (refusal : Refusal) → RefusalCause words old.files new.files refusal → Refused refusal old.sink new.sink status → new.net ≡ old.net → bench ≡ None
      → Ran words old new bench status
  ran : (job : Both) (commands : List Command) (image : List ℕ) → IsAccepted words old.files.held job commands image
      → new.files.asked ≡ asked_both job old.files
      → BothEnd job.way (first_chip job.options image) commands old.net new.net old.sink new.sink bench status
      → StaysWithin (slack_of job.way) commands (first_chip job.options image) bench → Ran words old new bench status
  generated : (job : Gen) (image : List ℕ) → IsAcceptedGen words job image → new.files ≡ old.files
      → GenEnd job.way (first_chip job.options image) (commands job.number) old.net new.net old.sink new.sink bench status
      → StaysWithin (slack_of job.way) (commands job.number) (first_chip job.options image) bench → Ran words old new bench status
  probed : (job : Probe) (commands : List Command) → IsAcceptedProbe words old.files.held job commands → new.files.asked ≡ asked_more job.script old.files.asked
      → ProbeEnd job.at job.chain commands old.net new.net old.sink new.sink status → bench ≡ None → Ran words old new bench status
  programmed : (job : BothElf) (commands : List Command) (file : List ℕ) → IsAcceptedElf words old.files.held job commands file
      → new.files.asked ≡ asked_elf job.script job.file old.files → new.net ≡ old.net
      → ElfEnd (first_chip (halted job.options) []) file commands old.sink new.sink bench status → Ran words old new bench status
  probe_programmed : (job : ProbeElf) (commands : List Command) (file : List ℕ) → IsAcceptedProbeElf words old.files.held job commands file
      → new.files.asked ≡ asked_elf job.script job.file old.files
      → ProbeElfEnd job.at file commands old.net new.net old.sink new.sink status → bench ≡ None → Ran words old new bench status
  soft : (job : BothSoft) (commands : List SoftCommand) (image : List ℕ) → IsAcceptedSoft words old.files.held job commands image
      → new.files.asked ≡ asked_soft job old.files → new.net ≡ old.net
      → SoftEnd (first_chip job.options image) commands old.sink new.sink bench status → Ran words old new bench status
  probe_soft : (job : ProbeSoft) (commands : List SoftCommand) → IsAcceptedProbeSoft words old.files.held job commands
      → new.files.asked ≡ asked_more job.script old.files.asked
      → ProbeSoftEnd job.at commands old.net new.net old.sink new.sink status → bench ≡ None → Ran words old new bench status
  served : (job : Chip) (image : List ℕ) → IsAcceptedChip words old.files.held job image → new.files.asked ≡ asked_image job old.files
      → ServedAt job.at job.chain old.net new.net old.sink new.sink (Some (first_chip job.options image)) bench status → Ran words old new bench status
  sniffed : (job : Sniff) (stream answers : List ℕ) → IsAcceptedSniff words old.files.held job stream answers → new.files.asked ≡ asked_recording job old.files
      → SniffEnded job.waves stream answers old.sink new.sink status → new.net ≡ old.net → bench ≡ None → Ran words old new bench status
