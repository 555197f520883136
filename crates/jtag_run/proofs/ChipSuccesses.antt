-- A served chip whose run need not fail ends with its client.
use Rattle.std.proofs.Common.{◌≡◌, ◌∙◌, ◌⊎◌, ◌≤◌, ℕ, Bool, true, false, List, Option, Some, None, refl, sym, ap, subst, inl, inr, arith, if◌then◌else◌}
use Rattle.std.proofs.lemmas.Bool.{false≢true}
use Rattle.std.proofs.lemmas.Option.{same_Some}
use Rattle.chain_bench.specs.ChainFed.{chip_in, planned_on}
use Rattle.chain_scan.specs.ChainPlan.{Plan}
use Rattle.chip_core.specs.Feeds.{limit_met}
use Rattle.chip_server.specs.Served.{CountsOnce}
use Rattle.chip_server.specs.declared.served.Served.{Served}
use Rattle.chip_server.specs.declared.served.Served.TheVariants.{Quit, PeerEnded, Bad, Limit, NetFailed}
use Rattle.command_line.specs.Job.{JobValue, both, elf, soft, probe, probe_elf, probe_soft, chip, sniff}
use Rattle.command_line.specs.WrittenJob.{job_of}
use Rattle.debug_model.specs.Chip.{Live}
use Rattle.debug_model.specs.Net.{NetState}
use Rattle.debug_model.specs.declared.net.Call.{Call}
use Rattle.debug_model.specs.declared.net.Call.TheVariants as calls
use Rattle.debug_model.specs.declared.net.NetFault.{NetFault}
use Rattle.debug_model.specs.declared.net.NetFault.TheVariants as faults
use Rattle.jt_base.specs.Faults.{Rises, counted}
use Rattle.jtag_run.specs.First.{first_chip}
use Rattle.jtag_run.specs.Jobs.{Chip, said_chip}
use Rattle.jtag_run.specs.LastLine.{Closed}
use Rattle.jtag_run.specs.LastLine.Closed.{said, unsaid}
use Rattle.jtag_run.specs.Opening.{OpenFailed, refusal_of}
use Rattle.jtag_run.specs.Outside.{NetSeen, Outside}
use Rattle.jtag_run.specs.Ran.{Ran}
use Rattle.jtag_run.specs.Ran.Ran.{refused, ran, generated, probed, programmed, probe_programmed, soft as soft_ran, probe_soft as probe_soft_ran, served, sniffed}
use Rattle.jtag_run.specs.Refusal.{Refused, status_of}
use Rattle.jtag_run.specs.ServedChip.{ServedAt, Told, WasServedAs}
use Rattle.jtag_run.specs.ServedChip.ServedAt.{opened, unopened}
use Rattle.jtag_run.specs.Succeeds.{ChipSucceeds, IsUndisturbed, TakesNoBadByte}
use Rattle.jtag_run.specs.declared.refusal.Refusal.{Refusal}
use Rattle.jtag_run.specs.declared.refusal.Refusal.TheVariants as refusals
use Rattle.jtag_run.specs.declared.status.Status.{Status}
use Rattle.jtag_run.specs.declared.status.Status.TheVariants as status_as
use Rattle.jtag_run.proofs.LimitFeeds.{bench_limit, chain_limit}
use Rattle.wire_session.specs.Seen.{SinkSeen}

-- ---- whose job it is

abbrev chip_of : Chip → JobValue → Chip
chip_of other (chip at image options chain) = record { at = at; image = image; options = options; chain = chain }
chip_of other (both inputs options piece way) = other
chip_of other (elf file script options piece) = other
chip_of other (soft image script options piece) = other
chip_of other (probe at script chain) = other
chip_of other (probe_elf at file script) = other
chip_of other (probe_soft at script) = other
chip_of other (sniff stream answers waves) = other

same_job : (words : List (List ℕ)) (a b : Chip) → job_of words ≡ Some (said_chip a) → job_of words ≡ Some (said_chip b) → a ≡ b
same_job words a b p q = ap (chip_of a) (same_Some (said_chip a) (said_chip b) (sym p ∙ q))

abbrev serves : JobValue → Bool
serves (chip at image options chain) = true
serves (both inputs options piece way) = false
serves (elf file script options piece) = false
serves (soft image script options piece) = false
serves (probe at script chain) = false
serves (probe_elf at file script) = false
serves (probe_soft at script) = false
serves (sniff stream answers waves) = false

no_other : (words : List (List ℕ)) (value : JobValue) (job : Chip) → serves value ≡ false → job_of words ≡ Some value → job_of words ≡ Some (said_chip job) → ⊥
no_other words value job other p q = false≢true (sym other ∙ ap serves (same_Some value (said_chip job) (sym p ∙ q)))

-- ---- a refusal for want of memory

said_by : (line : List ℕ) (wanted : Status) (old new : SinkSeen) (status : Status) → Closed line wanted old new status → (Rises old.faults new.faults → ⊥)
    → status ≡ wanted
said_by line wanted old new status (said put) quiet = refl
said_by line wanted old new status (unsaid front more rises) quiet = absurd (quiet rises)

pub wants_memory : (refusal : Refusal) (old new : SinkSeen) (status : Status) → Refused refusal old new status → (Rises old.faults new.faults → ⊥)
    → refusal ≡ refusals.OutOfMemory → status ≡ status_as.OutOfMemory
wants_memory refusal old new status was quiet is = said_by _ (status_of refusal) old new status was quiet ∙ ap status_of is

pub unopened_memory : (call : Call) (at : Option (List ℕ)) (fault : NetFault) (old new : NetSeen) (was is : SinkSeen) (status : Status)
    → OpenFailed call at fault old new → Refused (refusal_of fault) was is status → (Rises old.faults new.faults → ⊥) → (Rises was.faults is.faults → ⊥)
    → status ≡ status_as.OutOfMemory
unopened_memory call at faults.Failed old new was is status failed line net quiet = absurd (net failed.cause)
unopened_memory call at faults.NoMemory old new was is status failed line net quiet = wants_memory refusals.OutOfMemory was is status line quiet refl

-- ---- the end of a serving

rises_counted : (old mid new : ℕ) → old ≤ mid → new ≡ counted mid → Rises old new
rises_counted old mid new later is = λ below. omega (arith, later, is, below)

limit_is_met : (chain : Option Plan) (old new : NetState) (first : Live) (left : Option Live) → WasServedAs chain Limit old new (Some first) left
    → limit_met left ≡ true
limit_is_met None old new first left s = ap limit_met s.passed.chip ∙ bench_limit (Some first) s.end.0 s.taken s.end.1.is
limit_is_met (Some plan) old new first left s =
    ap limit_met (s.chip ∙ ap chip_in s.is.passed.chip) ∙ chain_limit (planned_on plan (Some first)) s.is.end.0 s.is.taken s.is.end.1.is

ended : (chain : Option Plan) (s : Served) (old mid new : NetSeen) (was is : SinkSeen) (first : Live) (left : Option Live) (status : Status)
    → WasServedAs chain s mid.state new.state (Some first) left → CountsOnce mid.faults new.faults mid.ends new.ends s → Told s was is status
    → old.faults ≤ mid.faults → (Rises old.faults new.faults → ⊥) → limit_met left ≡ false
    → ((place byte : ℕ) → WasServedAs chain (Bad place byte) mid.state new.state (Some first) left → ⊥) → status ≡ status_as.Clean
ended chain Quit old mid new was is first left status went counts told later net below good = told.1
ended chain PeerEnded old mid new was is first left status went counts told later net below good = told.1
ended chain (Bad place byte) old mid new was is first left status went counts told later net below good = absurd (good place byte went)
ended chain Limit old mid new was is first left status went counts told later net below good =
    absurd (false≢true (sym below ∙ limit_is_met chain mid.state new.state first left went))
ended chain (NetFailed fault) old mid new was is first left status went counts told later net below good =
    absurd (net (rises_counted old.faults mid.faults new.faults later counts.0))

served_at : (job : Chip) (image : List ℕ) (old new : Outside) (left : Option Live) (status : Status)
    → ServedAt job.at job.chain old.net new.net old.sink new.sink (Some (first_chip job.options image)) left status → IsUndisturbed old new left
    → TakesNoBadByte job old.net new.net left → (status ≡ status_as.Clean) ⊎ (status ≡ status_as.OutOfMemory)
served_at job image old new left status (unopened fault failed line kept) still good =
    inr (unopened_memory calls.Accept (Some job.at) fault old.net new.net old.sink new.sink status failed line still.net still.sink)
served_at job image old new left status (opened mid s at was counts told) still good =
    inl (ended job.chain s old.net mid new.net old.sink new.sink (first_chip job.options image) left status was counts
    (subst (λ b. Told (if b then Limit else s) old.sink new.sink status) still.below told) at.later still.net still.below
    (λ place byte. good mid image place byte at))

pub chip_succeeds : (words : List (List ℕ)) (old new : Outside) (left : Option Live) (status : Status) → Ran words old new left status
    → ChipSucceeds words old new left status
chip_succeeds words old new left status (refused refusal cause line net blank) job is fine still good =
    inr (wants_memory refusal old.sink new.sink status line still.sink (fine refusal cause))
chip_succeeds words old new left status (ran other commands image accepted asked ended stays) job is fine still good =
    absurd (no_other words _ job refl accepted.words_write is)
chip_succeeds words old new left status (generated other image accepted files ended stays) job is fine still good =
    absurd (no_other words _ job refl accepted.words_write is)
chip_succeeds words old new left status (probed other commands accepted asked ended blank) job is fine still good =
    absurd (no_other words _ job refl accepted.words_write is)
chip_succeeds words old new left status (programmed other commands file accepted asked net ended) job is fine still good =
    absurd (no_other words _ job refl accepted.words_write is)
chip_succeeds words old new left status (probe_programmed other commands file accepted asked ended blank) job is fine still good =
    absurd (no_other words _ job refl accepted.words_write is)
chip_succeeds words old new left status (soft_ran other commands image accepted asked net ended) job is fine still good =
    absurd (no_other words _ job refl accepted.words_write is)
chip_succeeds words old new left status (probe_soft_ran other commands accepted asked ended blank) job is fine still good =
    absurd (no_other words _ job refl accepted.words_write is)
chip_succeeds words old new left status (served other image accepted asked at) job is fine still good =
    served_at other image old new left status at still
    (subst (λ j. TakesNoBadByte j old.net new.net left) (sym (same_job words other job accepted.words_write is)) good)
chip_succeeds words old new left status (sniffed other stream answers accepted asked ended net blank) job is fine still good =
    absurd (no_other words _ job refl accepted.words_write is)
