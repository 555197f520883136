-- How a job and a run end, over plain variables.
use Rattle.std.proofs.Common.{◌≡◌, ◌∙◌, ◌≤◌, ℕ, false, List, Option, Some, None, IfSome, refl, sym, ap, subst}
use Rattle.chain_bench.specs.Benched.{tck_of}
use Rattle.debug_model.specs.declared.command.Command.{Command}
use Rattle.chip_core.specs.Feeds.{limit_met}
use Rattle.debug_model.specs.declared.net.Call.TheVariants as calls
use Rattle.debug_model.specs.declared.net.NetFault.{NetFault}
use Rattle.debug_model.specs.Chip.{Live}
use Rattle.jt_base.specs.Faults.{Rises}
use Rattle.jt_base.specs.Files.{NamedFile, asked_more}
use Rattle.jt_base.specs.Sink.{grown, GrewByPrefix}
use Rattle.jtag_run.specs.Ran.{BothEnd, Prepared, Ran, RanBoth, RanGen, RanProbe}
use Rattle.jtag_run.specs.Ran.Ran.{refused, ran, generated, probed, served}
use Rattle.jtag_run.specs.Ran.RanBoth.{refused as both_unready, ran as both_done}
use Rattle.jtag_run.specs.Ran.RanGen.{refused as gen_unready, ran as gen_done}
use Rattle.jtag_run.specs.Ran.RanProbe.{refused as probe_unready, ran as probe_done}
use Rattle.jtag_run.specs.Bounds.{StaysWhereFair, slack_of}
use Rattle.jtag_run.specs.Ending.{ClosedBy}
use Rattle.jtag_run.specs.First.{first_chip}
use Rattle.jtag_run.specs.Opening.{Joined, OpenFailed, refusal_of}
use Rattle.jtag_run.specs.LastLine.{Closed}
use Rattle.jtag_run.specs.LastLine.Closed.{said, unsaid}
use Rattle.jtag_run.specs.Outside.{NetSeen, Outside}
use Rattle.jtag_run.specs.Ends.{BenchEnd, LoopEnd, ProbeEnd}
use Rattle.jtag_run.specs.Ends.LoopEnd.{joined, unjoined}
use Rattle.jtag_run.specs.Refusal.{ChipCause, HoldsScript, JobCause, Refused, WordsCause, asked_both, asked_image}
use Rattle.jtag_run.specs.Causes.RefusalCause.{of_both, of_chip, of_gen, of_probe, of_words}
use Rattle.jtag_run.specs.ServedChip.{RanChip, PreparedChip, ServedAt}
use Rattle.jtag_run.specs.ServedChip.RanChip.{refused as refused_chip, served as served_chip}
use Rattle.jtag_run.specs.Sessions.{IsLoadedBench, OnLoop}
use Rattle.jtag_run.proofs.SeedBounds.{seed_fair, seed_stays}
use Rattle.jtag_run.specs.Jobs.{Both, Chip, Gen, Probe, said_both, said_chip, said_gen, said_probe}
use Rattle.jtag_run.specs.declared.refusal.Refusal.{Refusal}
use Rattle.jtag_run.specs.declared.status.Status.{Status}
use Rattle.jtag_run.specs.declared.status.Status.TheVariants.{Sink}
use Rattle.chain_scan.specs.ChainPlan.{Plan}
use Rattle.chain_scan.specs.ChainSeen.{chain_slack}
use Rattle.command_line.specs.WrittenJob.{OptionsInRange, job_of}
use Rattle.command_line.specs.declared.job.Way.{Way}
use Rattle.command_line.specs.declared.job.Way.TheVariants.{Straight, Looped, Chained}
use Rattle.probe_session.specs.declared.ended.Ended.{Ended as End}
use Rattle.wire_session.specs.Seen.{SinkSeen}

-- ---- a last line

pub closed_said : (line : List ℕ) (wanted : Status) (s t : SinkSeen) (status : Status) → status ≡ wanted → t.printed ≡ grown line s.printed
    → Closed line wanted s t status
closed_said line wanted s t status is put = subst (Closed line wanted s t) (sym is) (said put)

pub closed_unsaid : (line : List ℕ) (wanted : Status) (s t : SinkSeen) → GrewByPrefix line s.printed t.printed → s.faults ≤ t.faults → Rises s.faults t.faults
    → Closed line wanted s t Sink
closed_unsaid line wanted s t wrote later rises = unsaid wrote later rises

-- ---- a session of files

pub prepared_fresh : (job : Both) (held : Option (List NamedFile)) (commands : List Command) (bench : Option Live) → Prepared job held commands bench
    → IsLoadedBench bench
prepared_fresh job held commands bench p = record { first = first_chip job.options p.image; is = p.is; as_loaded = p.as_loaded }

both_end_at : (way : Way) (job : Both) (image : List ℕ) (commands : List Command) (net_was net_is : NetSeen) (s t : SinkSeen) (mid left : Option Live)
    (status : Status) → mid ≡ Some (first_chip job.options image)
    → IfSome mid (λ first. BothEnd way first commands net_was net_is s t left status)
    → BothEnd way (first_chip job.options image) commands net_was net_is s t left status
both_end_at way job image commands net_was net_is s t mid left status is ended =
    subst (λ m. IfSome m (λ first. BothEnd way first commands net_was net_is s t left status)) is ended

both_ran : (job : Both) (old new : Outside) (bench mid left : Option Live) (status : Status) (commands : List Command) (slack : ℕ)
    → OptionsInRange job.options → Prepared job old.files.held commands mid → new.files.asked ≡ asked_both job old.files
    → slack_of job.way ≡ slack → IfSome mid (λ first. StaysWhereFair slack commands first left)
    → IfSome mid (λ first. BothEnd job.way first commands old.net new.net old.sink new.sink left status) → RanBoth job old new bench left status
both_ran job old new bench mid left status commands slack ranges p asked goes stays ended =
    both_done commands p.image p.script_reads p.image_is p.loads asked
    (both_end_at job.way job p.image commands old.net new.net old.sink new.sink mid left status p.is ended)
    (seed_stays job.way slack commands job.options p.image mid left ranges p.loads p.is goes stays)

-- on the bench, alone or in a chain
bench_end : (way : Way) → (way ≡ Looped → ⊥) → (commands : List Command) (net_was net_is : NetSeen) (s t : SinkSeen) (mid left : Option Live) (status : Status)
    → net_is ≡ net_was
    → IfSome mid (λ first. BenchEnd first commands s t left status) → IfSome mid (λ first. BothEnd way first commands net_was net_is s t left status)
bench_end way other commands net_was net_is s t None left status same ended = tt
bench_end Looped other commands net_was net_is s t (Some first) left status same ended = absurd (other refl)
bench_end Straight other commands net_was net_is s t (Some first) left status same ended = (same, ended)
bench_end (Chained plan) other commands net_was net_is s t (Some first) left status same ended = (same, ended)

straight_loops : (way : Way) → way ≡ Straight → way ≡ Looped → ⊥
straight_loops way straight looped = let none : Straight ≡ Looped = sym straight ∙ looped in cc

chained_loops : (way : Way) (plan : Plan) → way ≡ Chained plan → way ≡ Looped → ⊥
chained_loops way plan chained looped = let none : Chained plan ≡ Looped = sym chained ∙ looped in cc

pub both_straight : (job : Both) (old new : Outside) (bench mid left : Option Live) (status : Status) (commands : List Command)
    → OptionsInRange job.options → Prepared job old.files.held commands mid → new.files.asked ≡ asked_both job old.files
    → job.way ≡ Straight → new.net ≡ old.net → IfSome mid (λ first. StaysWhereFair 0 commands first left)
    → IfSome mid (λ first. BenchEnd first commands old.sink new.sink left status)
    → RanBoth job old new bench left status
both_straight job old new bench mid left status commands ranges p asked direct same stays ended =
    both_ran job old new bench mid left status commands 0 ranges p asked (ap slack_of direct) stays
    (bench_end job.way (straight_loops job.way direct) commands old.net new.net old.sink new.sink mid left status same ended)

pub both_chained : (job : Both) (plan : Plan) (old new : Outside) (bench mid left : Option Live) (status : Status) (commands : List Command)
    → OptionsInRange job.options → Prepared job old.files.held commands mid → new.files.asked ≡ asked_both job old.files
    → job.way ≡ Chained plan → new.net ≡ old.net → IfSome mid (λ first. StaysWhereFair chain_slack commands first left)
    → IfSome mid (λ first. BenchEnd first commands old.sink new.sink left status)
    → RanBoth job old new bench left status
both_chained job plan old new bench mid left status commands ranges p asked chained same stays ended =
    both_ran job old new bench mid left status commands chain_slack ranges p asked (ap slack_of chained) stays
    (bench_end job.way (chained_loops job.way plan chained) commands old.net new.net old.sink new.sink mid left status same ended)

pub both_looped : (job : Both) (old new : Outside) (bench mid left : Option Live) (status : Status) (commands : List Command)
    → OptionsInRange job.options → Prepared job old.files.held commands mid → new.files.asked ≡ asked_both job old.files
    → job.way ≡ Looped → IfSome mid (λ first. StaysWhereFair 0 commands first left)
    → IfSome mid (λ first. LoopEnd first commands old.net new.net old.sink new.sink left status) → RanBoth job old new bench left status
both_looped job old new bench mid left status commands ranges p asked loops stays ended =
    both_ran job old new bench mid left status commands 0 ranges p asked (ap slack_of loops) stays
    (subst (λ way. IfSome mid (λ first. BothEnd way first commands old.net new.net old.sink new.sink left status)) (sym loops) ended)

pub both_refused : (job : Both) (old new : Outside) (bench left : Option Live) (status : Status) (refusal : Refusal) → JobCause job old.files new.files refusal
    → Refused refusal old.sink new.sink status
    → new.net ≡ old.net → left ≡ bench → RanBoth job old new bench left status
both_refused job old new bench left status refusal cause was net kept = both_unready refusal cause was net kept

-- ---- a probe

probe_as : (job : Probe) (chain : Option Plan) (old new : Outside) (status : Status) (commands : List Command)
    → HoldsScript old.files.held job.script commands → new.files.asked ≡ asked_more job.script old.files.asked
    → job.chain ≡ chain → ProbeEnd job.at chain commands old.net new.net old.sink new.sink status → RanProbe job old new status
probe_as job chain old new status commands script asked is ended =
    probe_done commands script asked (subst (λ c. ProbeEnd job.at c commands old.net new.net old.sink new.sink status) (sym is) ended)

pub probe_alone : (job : Probe) (old new : Outside) (status : Status) (commands : List Command)
    → HoldsScript old.files.held job.script commands → new.files.asked ≡ asked_more job.script old.files.asked
    → job.chain ≡ None → ProbeEnd job.at None commands old.net new.net old.sink new.sink status → RanProbe job old new status
probe_alone job old new status commands script asked is ended = probe_as job None old new status commands script asked is ended

pub probe_chained : (job : Probe) (plan : Plan) (old new : Outside) (status : Status) (commands : List Command)
    → HoldsScript old.files.held job.script commands → new.files.asked ≡ asked_more job.script old.files.asked
    → job.chain ≡ Some plan → ProbeEnd job.at (Some plan) commands old.net new.net old.sink new.sink status → RanProbe job old new status
probe_chained job plan old new status commands script asked is ended = probe_as job (Some plan) old new status commands script asked is ended

-- ---- a served chip

pub chip_refused : (job : Chip) (old new : Outside) (bench left : Option Live) (status : Status) (refusal : Refusal)
    → ChipCause job old.files new.files refusal → Refused refusal old.sink new.sink status
    → new.net ≡ old.net → left ≡ bench → RanChip job old new bench left status
chip_refused job old new bench left status refusal cause was net kept = refused_chip refusal cause was net kept

-- TCK is 0 behind a load
pub chip_is_low : (job : Chip) (held : Option (List NamedFile)) (bench : Option Live) → PreparedChip job held bench → tck_of bench ≡ false
chip_is_low job held bench p = ap tck_of p.is

pub chip_served : (job : Chip) (old new : Outside) (bench mid left : Option Live) (status : Status) → PreparedChip job old.files.held mid
    → new.files.asked ≡ asked_image job old.files
    → ServedAt job.at job.chain old.net new.net old.sink new.sink mid left status → RanChip job old new bench left status
chip_served job old new bench mid left status p asked ended =
    served_chip p.image p.image_is p.loads asked (subst (λ m. ServedAt job.at job.chain old.net new.net old.sink new.sink m left status) p.is ended)

-- ---- a run

pub refused_words : (words : List (List ℕ)) (old new : Outside) (bench : Option Live) (status : Status) (refusal : Refusal) → WordsCause words refusal
    → Refused refusal old.sink new.sink status
    → new.files ≡ old.files → new.net ≡ old.net → bench ≡ None → Ran words old new bench status
refused_words words old new bench status refusal cause was files net blank = refused refusal (of_words cause files) was net blank

pub run_both : (words : List (List ℕ)) (old new : Outside) (bench left : Option Live) (status : Status) (job : Both) → job_of words ≡ Some (said_both job)
    → OptionsInRange job.options → bench ≡ None → RanBoth job old new bench left status → Ran words old new left status
run_both words old new bench left status job is ranges blank (both_unready refusal cause was net kept) =
    refused refusal (of_both job is cause) was net (kept ∙ blank)
run_both words old new bench left status job is ranges blank (both_done commands image script holds loads asked ended stays) =
    ran job commands image
    (record { words_write = is; script_reads = script; image_is = holds; loads = loads; fair = seed_fair job.options image ranges loads }) asked ended stays

pub run_gen : (words : List (List ℕ)) (old new : Outside) (bench left : Option Live) (status : Status) (job : Gen) → job_of words ≡ Some (said_gen job)
    → OptionsInRange job.options → bench ≡ None → new.files ≡ old.files
    → RanGen job old.net new.net old.sink new.sink bench left status → Ran words old new left status
run_gen words old new bench left status job is ranges blank files (gen_unready refusal cause was net kept) =
    refused refusal (of_gen job is cause files) was net (kept ∙ blank)
run_gen words old new bench left status job is ranges blank files (gen_done image made loads ended stays) =
    generated job image (record { words_write = is; made = made; loads = loads; fair = seed_fair job.options image ranges loads }) files ended stays

pub run_probe : (words : List (List ℕ)) (old new : Outside) (bench : Option Live) (status : Status) (job : Probe) → job_of words ≡ Some (said_probe job)
    → bench ≡ None → RanProbe job old new status → Ran words old new bench status
run_probe words old new bench status job is blank (probe_unready refusal cause was net) = refused refusal (of_probe job is cause) was net blank
run_probe words old new bench status job is blank (probe_done commands script asked ended) =
    probed job commands (record { words_write = is; script_reads = script }) asked ended blank

pub run_served : (words : List (List ℕ)) (old new : Outside) (bench left : Option Live) (status : Status) (job : Chip) → job_of words ≡ Some (said_chip job)
    → bench ≡ None → RanChip job old new bench left status → Ran words old new left status
run_served words old new bench left status job is blank (refused_chip refusal cause was net kept) =
    refused refusal (of_chip job is cause) was net (kept ∙ blank)
run_served words old new bench left status job is blank (served_chip image holds loads asked ended) =
    served job image (record { words_write = is; image_is = holds; loads = loads }) asked ended

-- ---- over a connection of the machine to itself

pub loop_joined : (old bench : Option Live) (script : List Command) (net_was mid net_is : NetSeen) (s u t : SinkSeen) (closed : End) (status : Status)
    → Joined net_was mid
    → IfSome old (λ first. OnLoop first script mid net_is s u bench closed) → ClosedBy closed (limit_met bench) u t status
    → IfSome old (λ first. LoopEnd first script net_was net_is s t bench status)
loop_joined None bench script net_was mid net_is s u t closed status joins went told = tt
loop_joined (Some first) bench script net_was mid net_is s u t closed status joins went told = joined mid closed u joins went told

pub loop_unjoined : (old bench : Option Live) (script : List Command) (net_was net_is : NetSeen) (s t : SinkSeen) (fault : NetFault) (status : Status)
    → OpenFailed calls.Join None fault net_was net_is
    → Refused (refusal_of fault) s t status → bench ≡ old → IfSome old (λ first. LoopEnd first script net_was net_is s t bench status)
loop_unjoined None bench script net_was net_is s t fault status failed was kept = tt
loop_unjoined (Some first) bench script net_was net_is s t fault status failed was kept = unjoined fault failed was kept
