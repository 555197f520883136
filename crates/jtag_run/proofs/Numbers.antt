-- How a job ends that is made from a number, over plain variables.
use Rattle.std.proofs.Common.{◌≡◌, ◌∙◌, ◌≤◌, ℕ, List, Option, Some, IfSome, refl, subst}
use Rattle.chip_core.specs.Feeds.{limit_met}
use Rattle.debug_model.specs.declared.command.Command.{Command}
use Rattle.debug_model.specs.declared.net.NetFault.{NetFault}
use Rattle.debug_model.specs.Chip.{Live}
use Rattle.jt_base.specs.Faults.{Rises}
use Rattle.jt_base.specs.Sink.{GrewByPrefix, grown}
use Rattle.jtag_run.specs.Ran.{Made, RanGen}
use Rattle.jtag_run.specs.Ran.RanGen.{ran}
use Rattle.command_line.specs.WrittenJob.{OptionsInRange}
use Rattle.jtag_run.specs.Bounds.{StaysWhereFair, StaysWithin, slack_of}
use Rattle.jtag_run.proofs.SeedBounds.{seed_stays}
use Rattle.jtag_run.specs.Ending.{ClosedBy}
use Rattle.jtag_run.specs.First.{first_chip}
use Rattle.jtag_run.specs.Opening.{refusal_of}
use Rattle.jtag_run.specs.Outside.{NetSeen}
use Rattle.jtag_run.specs.Ends.{Counted, GenEnd, Unjoined}
use Rattle.jtag_run.specs.Ends.GenEnd.{summed, unjoined, unsummed}
use Rattle.jtag_run.specs.Refusal.{Refused}
use Rattle.jtag_run.specs.Summary.{summary_of}
use Rattle.jtag_run.specs.Jobs.{Gen}
use Rattle.jtag_run.specs.declared.status.Status.{Status}
use Rattle.jtag_run.specs.declared.status.Status.TheVariants as status_as
use Rattle.probe_session.specs.declared.ended.Ended.{Ended as End}
use Rattle.wire_session.specs.Seen.{SinkSeen}

gen_ran : (job : Gen) (net_was net_is : NetSeen) (s t : SinkSeen) (bench mid left : Option Live) (status : Status) (script : List Command)
    → OptionsInRange job.options → Made job script mid → IfSome mid (λ first. StaysWhereFair (slack_of job.way) script first left)
    → ((first : Live) → mid ≡ Some first → GenEnd job.way first script net_was net_is s t left status) → RanGen job net_was net_is s t bench left status
gen_ran job net_was net_is s t bench mid left status script ranges m stays step =
    ran m.image m.made m.loads (subst (λ commands. GenEnd job.way (first_chip job.options m.image) commands net_was net_is s t left status) m.script_is
    (step (first_chip job.options m.image) m.is))
    (subst (λ commands. StaysWithin (slack_of job.way) commands (first_chip job.options m.image) left) m.script_is
    (seed_stays job.way (slack_of job.way) script job.options m.image mid left ranges m.loads m.is refl stays))

counted_at : (P : Live → Type 0) (mid : Option Live) (first : Live) → mid ≡ Some first → IfSome mid P → P first
counted_at P mid first is holds = subst (λ m. IfSome m P) is holds

pub gen_unjoined : (job : Gen) (net_was net_is : NetSeen) (s t : SinkSeen) (bench mid left : Option Live) (status : Status) (script : List Command)
    (fault : NetFault) → OptionsInRange job.options → Made job script mid → IfSome mid (λ first. StaysWhereFair (slack_of job.way) script first left)
    → Unjoined job.way fault net_was net_is → left ≡ mid → Refused (refusal_of fault) s t status → RanGen job net_was net_is s t bench left status
gen_unjoined job net_was net_is s t bench mid left status script fault ranges m stays failed kept was =
    gen_ran job net_was net_is s t bench mid left status script ranges m stays (λ first is. unjoined fault failed was (kept ∙ is))

pub gen_summed : (job : Gen) (net_was net_is : NetSeen) (s u t : SinkSeen) (bench mid left : Option Live) (status : Status) (script : List Command)
    (taken : List ℕ) (closed : End) → OptionsInRange job.options → Made job script mid
    → IfSome mid (λ first. StaysWhereFair (slack_of job.way) script first left)
    → IfSome mid (λ first. Counted job.way first script net_was net_is taken left closed) → u.printed ≡ grown (summary_of script taken) s.printed
    → s.faults ≤ u.faults
    → ClosedBy closed (limit_met left) u t status → RanGen job net_was net_is s t bench left status
gen_summed job net_was net_is s u t bench mid left status script taken closed ranges m stays counted put later told =
    gen_ran job net_was net_is s t bench mid left status script ranges m stays
    (λ first is. summed taken closed u (counted_at (λ f. Counted job.way f script net_was net_is taken left closed) mid first is counted) put later told)

pub gen_unsummed : (job : Gen) (net_was net_is : NetSeen) (s t : SinkSeen) (bench mid left : Option Live) (status : Status) (script : List Command)
    (taken : List ℕ) (closed : End) → OptionsInRange job.options → Made job script mid
    → IfSome mid (λ first. StaysWhereFair (slack_of job.way) script first left)
    → IfSome mid (λ first. Counted job.way first script net_was net_is taken left closed) → GrewByPrefix (summary_of script taken) s.printed t.printed
    → Rises s.faults t.faults
    → status ≡ status_as.Sink → RanGen job net_was net_is s t bench left status
gen_unsummed job net_was net_is s t bench mid left status script taken closed ranges m stays counted front rises sink =
    gen_ran job net_was net_is s t bench mid left status script ranges m stays
    (λ first is. unsummed taken closed (counted_at (λ f. Counted job.way f script net_was net_is taken left closed) mid first is counted) front rises sink)
