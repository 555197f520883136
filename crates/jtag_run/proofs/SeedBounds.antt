-- The schedule of a seed is fair to the harts of the chip that it is loaded with: so a session there stays within the bounds of its script.
use Rattle.std.proofs.Common.{◌≡◌, ◌∙◌, ℕ, zero, suc, List, Option, Some, IfSome, refl, sym, subst, arith}
use Rattle.bench_links.proofs.FreshChips.{length_harts}
use Rattle.budget_laws.specs.FewTurns.{OffersAtMost}
use Rattle.budget_laws.proofs.TurnLemmas.{seeds_offer_few_turns}
use Rattle.chip_laws.proofs.Pace.{idle_paced}
use Rattle.command_line.specs.declared.job.ChipOptions.{ChipOptions}
use Rattle.command_line.specs.declared.job.Way.{Way}
use Rattle.command_line.specs.WrittenJob.{OptionsInRange}
use Rattle.debug_model.specs.declared.command.Command.{Command}
use Rattle.debug_model.specs.Chip.{Live}
use Rattle.debug_model.specs.Loaded.{RightHarts}
use Rattle.debug_model.specs.Pacing.{Paced, fair_within, harts_in}
use Rattle.debug_model.specs.Schedule.{Fair}
use Rattle.hart_debug.specs.Changes.{start_cause}
use Rattle.jtag_run.specs.Bounds.{IsEven, IsFair, StaysWhereFair, StaysWithin, slack_of}
use Rattle.jtag_run.specs.First.{CanLoad, first_chip}
use Rattle.jtag_run.specs.Jobs.{plan_of, schedule_harts, start_of}
use Rattle.sys_events.specs.Seed.{words_of}
use Rattle.sys_events.proofs.Fairness.{paired-fair}

-- a chip that can be loaded has a schedule for as many harts as it has
scheduled : (harts : ℕ) → RightHarts harts → schedule_harts harts ≡ harts
scheduled zero right = absurd (omega (arith, right.some))
scheduled (suc zero) right = refl
scheduled (suc (suc zero)) right = refl
scheduled (suc (suc (suc zero))) right = refl
scheduled (suc (suc (suc (suc zero)))) right = refl
scheduled (suc (suc (suc (suc (suc n))))) right = absurd (omega (arith, right.most))

harts_are : (options : ChipOptions) (image : List ℕ) → CanLoad options image → schedule_harts options.harts ≡ harts_in (first_chip options image).chip.inside
harts_are options image loads =
    scheduled options.harts loads.harts ∙ sym (length_harts options.version options.harts (start_cause (start_of options.halted)))

pub seed_fair : (options : ChipOptions) (image : List ℕ) → OptionsInRange options → CanLoad options image → IsFair (first_chip options image)
seed_fair options image ranges loads =
    subst (λ (n : ℕ). Fair fair_within n (plan_of options)) (harts_are options image loads)
    (paired-fair fair_within options.busy (schedule_harts options.harts) (words_of options.seed) (omega (arith, ranges.busy.low)) (omega (arith, ranges.busy.high)))

seed_even : (options : ChipOptions) (image : List ℕ) → CanLoad options image → IsEven (first_chip options image)
seed_even options image loads =
    subst (λ (n : ℕ). OffersAtMost n (plan_of options)) (harts_are options image loads)
    (seeds_offer_few_turns options.seed options.busy (schedule_harts options.harts))

-- nothing is under way in it yet
pub first_paced : (options : ChipOptions) (image : List ℕ) → IsFair (first_chip options image) → Paced (first_chip options image).chip.inside
first_paced options image fair = idle_paced (first_chip options image).chip.inside refl fair

pub seed_stays : (way : Way) (slack : ℕ) (script : List Command) (options : ChipOptions) (image : List ℕ) (mid left : Option Live)
    → OptionsInRange options → CanLoad options image → mid ≡ Some (first_chip options image) → slack_of way ≡ slack
    → IfSome mid (λ first. StaysWhereFair slack script first left) → StaysWithin (slack_of way) script (first_chip options image) left
seed_stays way slack script options image mid left ranges loads is goes stays =
    subst (λ (s : ℕ). StaysWithin s script (first_chip options image) left) (sym goes)
    ((subst (λ m. IfSome m (λ first. StaysWhereFair slack script first left)) is stays).within (seed_fair options image ranges loads) (seed_even options image loads))
