-- How a job and a run end whose session loads an ELF file, over plain variables.
use Rattle.std.proofs.Common.{◌≡◌, ◌∙◌, ◌≤◌, ℕ, List, [], Option, Some, None, IfSome, subst}
use Rattle.chip_core.specs.Feeds.{limit_met}
use Rattle.debug_model.specs.declared.command.Command.{Command}
use Rattle.debug_model.specs.Chip.{Live}
use Rattle.jt_base.specs.Files.{NamedFile}
use Rattle.probe_session.specs.declared.ended.Ended.{Ended as End}
use Rattle.jtag_run.specs.Ends.{ElfEnd}
use Rattle.jtag_run.specs.First.{first_chip}
use Rattle.jtag_run.specs.Jobs.{BothElf, ProbeElf, halted, said_both_elf, said_probe_elf}
use Rattle.jtag_run.specs.Outside.{FilesSeen, Outside}
use Rattle.jtag_run.specs.Ran.{PreparedElf, Ran, RanElf, RanProbeElf}
use Rattle.jtag_run.specs.Ran.Ran.{probe_programmed, programmed, refused}
use Rattle.jtag_run.specs.Ran.RanElf.{ran as elf_done, refused as elf_unready}
use Rattle.jtag_run.specs.Ran.RanProbeElf.{ran as probe_done, refused as probe_unready}
use Rattle.jtag_run.specs.Refusal.{asked_elf}
use Rattle.jtag_run.specs.Causes.RefusalCause.{of_elf, of_probe_elf}
use Rattle.jtag_run.specs.Ending.{ClosedBy}
use Rattle.jtag_run.specs.Sequel.Sequel.{of_elf}
use Rattle.jtag_run.specs.Sessions.{IsLoadedBench, OnBenchBy}
use Rattle.jtag_run.specs.declared.status.Status.{Status}
use Rattle.command_line.specs.WrittenJob.{OptionsInRange, job_of}
use Rattle.jtag_run.proofs.ElfFiles.{halted_in_range}
use Rattle.jtag_run.proofs.SeedBounds.{seed_fair}
use Rattle.wire_session.specs.Seen.{SinkSeen}

pub prepared_elf_fresh : (job : BothElf) (held : Option (List NamedFile)) (commands : List Command) (file : List ℕ) (bench : Option Live)
    → PreparedElf job held commands file bench → IsLoadedBench bench
prepared_elf_fresh job held commands file bench p = record { first = first_chip (halted job.options) []; is = p.is; as_loaded = p.as_loaded }

pub elf_ended : (old bench : Option Live) (file : List ℕ) (script : List Command) (was mid is : SinkSeen) (closed : End) (status : Status)
    → was.faults ≤ mid.faults → IfSome old (λ first. OnBenchBy first (of_elf file script) was mid bench (limit_met bench) closed)
    → ClosedBy closed (limit_met bench) mid is status
    → IfSome old (λ first. ElfEnd first file script was is bench status)
elf_ended None bench file script was mid is closed status later ran told = tt
elf_ended (Some first) bench file script was mid is closed status later ran told =
    record { closed = closed; behind = mid; later = later; ran = ran; told = told }

pub elf_ran : (job : BothElf) (files_was files_is : FilesSeen) (old new : SinkSeen) (bench mid left : Option Live) (status : Status)
    (commands : List Command) (file : List ℕ) → PreparedElf job files_was.held commands file mid
    → files_is.asked ≡ asked_elf job.script job.file files_was → IfSome mid (λ first. ElfEnd first file commands old new left status)
    → RanElf job files_was files_is old new bench left status
elf_ran job files_was files_is old new bench mid left status commands file p asked ended =
    elf_done commands file p.script_reads p.file_is p.loads asked
    (subst (λ m. IfSome m (λ first. ElfEnd first file commands old new left status)) p.is ended)

pub run_programmed : (words : List (List ℕ)) (old new : Outside) (bench left : Option Live) (status : Status) (job : BothElf)
    → job_of words ≡ Some (said_both_elf job) → OptionsInRange job.options → bench ≡ None → new.net ≡ old.net
    → RanElf job old.files new.files old.sink new.sink bench left status → Ran words old new left status
run_programmed words old new bench left status job is ranges blank net (elf_unready refusal cause was kept) =
    refused refusal (of_elf job is cause) was net (kept ∙ blank)
run_programmed words old new bench left status job is ranges blank net (elf_done commands file script holds loads asked ended) =
    programmed job commands file
    (record {
      words_write = is;
      script_reads = script;
      file_is = holds;
      loads = loads;
      fair = seed_fair (halted job.options) [] (halted_in_range job.options ranges) loads;
    }) asked net ended

pub run_probe_programmed : (words : List (List ℕ)) (old new : Outside) (bench : Option Live) (status : Status) (job : ProbeElf)
    → job_of words ≡ Some (said_probe_elf job) → bench ≡ None → RanProbeElf job old new status → Ran words old new bench status
run_probe_programmed words old new bench status job is blank (probe_unready refusal cause was net) = refused refusal (of_probe_elf job is cause) was net blank
run_probe_programmed words old new bench status job is blank (probe_done commands file script holds asked ended) =
    probe_programmed job commands file (record { words_write = is; script_reads = script; file_is = holds }) asked ended blank
