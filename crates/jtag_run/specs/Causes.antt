-- Every cause for which a run is refused before a net is opened, by the job that its words write.
-- The order of the tests is this project's own (docs/FORMATS.md, "Statuses").
use Rattle.std.specs.Prelude.{◌≡◌, ℕ, List, Some}
use Rattle.command_line.specs.WrittenJob.{job_of}
use Rattle.jtag_run.specs.Jobs.{Both, BothElf, BothSoft, Chip, Gen, Probe, ProbeElf, ProbeSoft, Sniff}
use Rattle.jtag_run.specs.Jobs.{said_both, said_both_elf, said_both_soft, said_chip, said_gen, said_probe, said_probe_elf, said_probe_soft, said_sniff}
use Rattle.jtag_run.specs.Outside.{FilesSeen}
use Rattle.jtag_run.specs.Refusal.{ChipCause, ElfCause, ElfFilesCause, GenCause, JobCause, ScriptFileCause, SniffCause, WordsCause}
use Rattle.jtag_run.specs.SoftRefusal.{SoftCause, SoftScriptFileCause}
use Rattle.jtag_run.specs.declared.refusal.Refusal.{Refusal}

-- the words alone, before any file is asked for, or what their job meets. Want of memory is free.
pub data RefusalCause (words : List (List ℕ)) (old new : FilesSeen) (refusal : Refusal) : Type 0 where
  of_words : WordsCause words refusal → new ≡ old → RefusalCause words old new refusal
  of_both : (job : Both) → job_of words ≡ Some (said_both job) → JobCause job old new refusal → RefusalCause words old new refusal
  of_gen : (job : Gen) → job_of words ≡ Some (said_gen job) → GenCause job refusal → new ≡ old → RefusalCause words old new refusal
  of_probe : (job : Probe) → job_of words ≡ Some (said_probe job) → ScriptFileCause job.script old new refusal → RefusalCause words old new refusal
  of_elf : (job : BothElf) → job_of words ≡ Some (said_both_elf job) → ElfCause job old new refusal → RefusalCause words old new refusal
  of_soft : (job : BothSoft) → job_of words ≡ Some (said_both_soft job) → SoftCause job old new refusal → RefusalCause words old new refusal
  of_probe_elf : (job : ProbeElf) → job_of words ≡ Some (said_probe_elf job) → ElfFilesCause job.script job.file old new refusal
      → RefusalCause words old new refusal
  of_probe_soft : (job : ProbeSoft) → job_of words ≡ Some (said_probe_soft job) → SoftScriptFileCause job.script old new refusal
      → RefusalCause words old new refusal
  of_chip : (job : Chip) → job_of words ≡ Some (said_chip job) → ChipCause job old new refusal → RefusalCause words old new refusal
  of_sniff : (job : Sniff) → job_of words ≡ Some (said_sniff job) → SniffCause job old new refusal → RefusalCause words old new refusal
