-- The end of a run of elements by autoexec at a told chip, as polls show it: all are done, or one was asked for too early, or memory refused one. Behind it
-- the error is cleared and autoexec switched off.
use Rattle.std.proofs.Common.{◌≡◌, ◌∙◌, ◌++◌, ◌≤◌, ◌<◌, ◌+◌, ℕ, List, [], ◌∷◌, map, true, false, None, refl, sym, ap, subst, arith}
use Rattle.rv_model.specs.declared.size.Size.{Size}
use Rattle.rv_model.specs.Board.{Hart}
use Rattle.rv_model.specs.Memory.{Memory}
use Rattle.debug_model.specs.Addresses.{abstractauto_address, abstractcs_address}
use Rattle.debug_model.specs.declared.cmderr.Cmderr.{Cmderr}
use Rattle.debug_model.specs.declared.cmderr.Cmderr.TheVariants.{Fine, Busy, NotSupported, Exception, HaltResume}
use Rattle.debug_model.specs.declared.dmi_op.DmiOp.TheVariants.{Read, Write}
use Rattle.debug_model.specs.declared.micro.Micro.{Micro}
use Rattle.debug_model.specs.Course.{OneOperation}
use Rattle.debug_model.specs.Deeds.{Deed, ran}
use Rattle.debug_model.specs.Dmi.{value_of}
use Rattle.debug_model.specs.Module.{DebugModule, Site, operated, register_at, result_of}
use Rattle.debug_model.specs.SystemBus.{BusUnit}
use Rattle.probe_run.specs.Acts.{Act}
use Rattle.probe_run.specs.Acts.Act.{Put}
use Rattle.probe_run.specs.Opening.{clears_cmderr}
use Rattle.probe_access.specs.CommandRuns.{error_shown, poll_act, shows_busy}
use Rattle.probe_access.proofs.Along.{SiteActs, Split, site_acts-split}
use Rattle.probe_access.proofs.Aside.{Frozen, accessed, aside, passed}
use Rattle.probe_access.proofs.AutoRuns.{Elements, RunAt, automatic, by_data0, left_words, run_ran}
use Rattle.probe_access.proofs.AutoRuns.RunAt.{on, early_on, early, refused}
use Rattle.probe_access.proofs.NextSteps.{NextStage, advanced}
use Rattle.probe_access.proofs.NextSteps.NextStage.{at_transfer, at_start, in_middle, in_third, at_end, at_fault}
use Rattle.probe_access.proofs.NextTold.{IsProgram, begun, handed}
use Rattle.probe_access.proofs.PerformTold.{held_behind}
use Rattle.probe_access.proofs.ReadyUnit.{Held, Kept, OpAt, done_ran, op_at, op_done, unit_of}
use Rattle.probe_access.proofs.RegisterTold.{Stood}
use Rattle.probe_access.proofs.Steps.{DoneAt}
use Rattle.probe_access.proofs.TransferLemmas.{Ended, RanAlone, ended_at, polls_ran, read_status, shown_idle}

-- ---- nothing is under way

pub data RunOver (C : ℕ → Hart → Site → Type 0) (Q : ℕ → Memory → Type 0) (word : ℕ) (size : Size) (h : ℕ) (bus : BusUnit) (b : ℕ) (t : Site) : Type 0 where
  all_done : (y : Hart) (base : Site) (k : Kept) → C b y base → IsProgram word size k → DoneAt (automatic Fine k h bus) h y base t
      → RunOver C Q word size h bus b t
  came_early : (i : ℕ) (y : Hart) (base : Site) (k : Kept) → i < b → C i y base → IsProgram word size k → DoneAt (automatic Busy k h bus) h y base t
      → RunOver C Q word size h bus b t
  met_fault : (i : ℕ) (y : Hart) (base : Site) (k : Kept) (before : List ℕ) → i < b → C i y base → IsProgram word size k
      → Q i (passed before base).board.memory
      → DoneAt (automatic Exception k h bus) h y (accessed (passed before base).board.memory (passed before base)) t → RunOver C Q word size h bus b t

pub none_left : (m : Micro) (ms steps : List Micro) → steps ≡ m ∷ ms → steps ≡ [] → ⊥
none_left m ms steps some none = let e : m ∷ ms ≡ [] = sym some ∙ none in cc

left_program : (word : ℕ) (size : Size) (y : Hart) (k : Kept) → IsProgram word size k → IsProgram word size (left_words y k)
left_program word size y k p = record { first = p.first; second = p.second; third = p.third }

on_over : (C : ℕ → Hart → Site → Type 0) (P : ℕ → Hart → Memory → Hart → Memory → Type 0) (Q : ℕ → Memory → Type 0) (word : ℕ) (size : Size)
    (most h : ℕ) (bus : BusUnit) (w : Hart) (i : ℕ) (y : Hart) (base : Site) (k : Kept) (s : Site) → Elements C P Q word size most h bus w → i < most
    → C i y base → IsProgram word size k → s.unit.commands.steps ≡ []
    → NextStage by_data0 Fine (P i y) (Q i) size (begun k) (handed y k) h bus y base s → RunOver C Q word size h bus (i + 1) s
on_over C P Q word size most h bus w i y base k s es below c p none (at_transfer harts is) =
    absurd (none_left _ _ s.unit.commands.steps (ap (λ (u : Site). u.unit.commands.steps) is) none)
on_over C P Q word size most h bus w i y base k s es below c p none (at_start harts is) =
    absurd (none_left _ _ s.unit.commands.steps (ap (λ (u : Site). u.unit.commands.steps) is) none)
on_over C P Q word size most h bus w i y base k s es below c p none (in_middle before harts z n pf fz is) =
    absurd (none_left _ _ s.unit.commands.steps (ap (λ (u : Site). u.unit.commands.steps) is) none)
on_over C P Q word size most h bus w i y base k s es below c p none (in_third before harts z n pf fz is) =
    absurd (none_left _ _ s.unit.commands.steps (ap (λ (u : Site). u.unit.commands.steps) is) none)
on_over C P Q word size most h bus w i y base k s es below c p none (at_end before harts z n pf fz is) =
    all_done (advanced size z) (accessed n (passed before base)) (left_words y k) (es.onward i y base before z n c below fz pf)
    (left_program word size y k p) (record { harts = harts; is = is })
on_over C P Q word size most h bus w i y base k s es below c p none (at_fault before harts q is) =
    met_fault i y base (left_words y k) before (omega arith) c (left_program word size y k p) q (record { harts = harts; is = is })

early_over : (C : ℕ → Hart → Site → Type 0) (P : ℕ → Hart → Memory → Hart → Memory → Type 0) (Q : ℕ → Memory → Type 0) (word : ℕ) (size : Size)
    (most h : ℕ) (bus : BusUnit) (w : Hart) (b i : ℕ) (y : Hart) (base : Site) (k : Kept) (s : Site) → Elements C P Q word size most h bus w → i + 1 < b
    → b ≤ most → C i y base → IsProgram word size k → s.unit.commands.steps ≡ []
    → NextStage by_data0 Busy (P i y) (Q i) size (begun k) (handed y k) h bus y base s → RunOver C Q word size h bus b s
early_over C P Q word size most h bus w b i y base k s es below within c p none (at_transfer harts is) =
    absurd (none_left _ _ s.unit.commands.steps (ap (λ (u : Site). u.unit.commands.steps) is) none)
early_over C P Q word size most h bus w b i y base k s es below within c p none (at_start harts is) =
    absurd (none_left _ _ s.unit.commands.steps (ap (λ (u : Site). u.unit.commands.steps) is) none)
early_over C P Q word size most h bus w b i y base k s es below within c p none (in_middle before harts z n pf fz is) =
    absurd (none_left _ _ s.unit.commands.steps (ap (λ (u : Site). u.unit.commands.steps) is) none)
early_over C P Q word size most h bus w b i y base k s es below within c p none (in_third before harts z n pf fz is) =
    absurd (none_left _ _ s.unit.commands.steps (ap (λ (u : Site). u.unit.commands.steps) is) none)
early_over C P Q word size most h bus w b i y base k s es below within c p none (at_end before harts z n pf fz is) =
    came_early (i + 1) (advanced size z) (accessed n (passed before base)) (left_words y k) (omega (arith, below))
    (es.onward i y base before z n c (omega (arith, below, within)) fz pf) (left_program word size y k p) (record { harts = harts; is = is })
early_over C P Q word size most h bus w b i y base k s es below within c p none (at_fault before harts q is) =
    met_fault i y base (left_words y k) before (omega (arith, below)) c (left_program word size y k p) q (record { harts = harts; is = is })

run_over : (C : ℕ → Hart → Site → Type 0) (P : ℕ → Hart → Memory → Hart → Memory → Type 0) (Q : ℕ → Memory → Type 0) (word : ℕ) (size : Size)
    (most h : ℕ) (bus : BusUnit) (w : Hart) (b : ℕ) (s : Site) → Elements C P Q word size most h bus w → b ≤ most → s.unit.commands.steps ≡ []
    → RunAt C P Q word size h bus b s → RunOver C Q word size h bus b s
run_over C P Q word size most h bus w b s es within none (on i y base k at c p st) =
    subst (λ n. RunOver C Q word size h bus n s) at
    (on_over C P Q word size most h bus w i y base k s es (omega (arith, at, within)) c p none st)
run_over C P Q word size most h bus w b s es within none (early_on i y base k below c p st) =
    early_over C P Q word size most h bus w b i y base k s es below within c p none st
run_over C P Q word size most h bus w b s es within none (early i y base k below c p d) = came_early i y base k below c p d
run_over C P Q word size most h bus w b s es within none (refused i y base k before below c p q d) = met_fault i y base k before below c p q d

-- ---- the module goes on working

pub stage_active : (e : Cmderr) (P : Memory → Hart → Memory → Type 0) (Q : Memory → Type 0) (size : Size) (k j : Kept) (h : ℕ) (bus : BusUnit) (y : Hart)
    (base s : Site) → NextStage by_data0 e P Q size k j h bus y base s → s.unit.active ≡ true
stage_active e P Q size k j h bus y base s (at_transfer harts is) = ap (λ (u : Site). u.unit.active) is
stage_active e P Q size k j h bus y base s (at_start harts is) = ap (λ (u : Site). u.unit.active) is
stage_active e P Q size k j h bus y base s (in_middle before harts z n p fz is) = ap (λ (u : Site). u.unit.active) is
stage_active e P Q size k j h bus y base s (in_third before harts z n p fz is) = ap (λ (u : Site). u.unit.active) is
stage_active e P Q size k j h bus y base s (at_end before harts z n p fz is) = ap (λ (u : Site). u.unit.active) is
stage_active e P Q size k j h bus y base s (at_fault before harts q is) = ap (λ (u : Site). u.unit.active) is

run_active : (C : ℕ → Hart → Site → Type 0) (P : ℕ → Hart → Memory → Hart → Memory → Type 0) (Q : ℕ → Memory → Type 0) (word : ℕ) (size : Size) (h : ℕ)
    (bus : BusUnit) (b : ℕ) (s : Site) → RunAt C P Q word size h bus b s → s.unit.active ≡ true
run_active C P Q word size h bus b s (on i y base k at c p st) =
    stage_active Fine (P i y) (Q i) size (begun k) (handed y k) h bus y base s st
run_active C P Q word size h bus b s (early_on i y base k below c p st) =
    stage_active Busy (P i y) (Q i) size (begun k) (handed y k) h bus y base s st
run_active C P Q word size h bus b s (early i y base k below c p d) = ap (λ (u : Site). u.unit.active) d.is
run_active C P Q word size h bus b s (refused i y base k before below c p q d) = ap (λ (u : Site). u.unit.active) d.is

-- ---- polls show it

-- by cmderr as the last one shows it
pub data RunEnd (C : ℕ → Hart → Site → Type 0) (Q : ℕ → Memory → Type 0) (word : ℕ) (size : Size) (last h : ℕ) (bus : BusUnit) (b : ℕ) (t : Site) : Type 0
  where
    fine : (y : Hart) (base : Site) (k : Kept) → error_shown last ≡ 0 → C b y base → IsProgram word size k → DoneAt (automatic Fine k h bus) h y base t
        → RunEnd C Q word size last h bus b t
    busy : (i : ℕ) (y : Hart) (base : Site) (k : Kept) → error_shown last ≡ 1 → i < b → C i y base → IsProgram word size k
        → DoneAt (automatic Busy k h bus) h y base t → RunEnd C Q word size last h bus b t
    exception : (i : ℕ) (y : Hart) (base : Site) (k : Kept) (before : List ℕ) → error_shown last ≡ 3 → i < b → C i y base → IsProgram word size k
        → Q i (passed before base).board.memory
        → DoneAt (automatic Exception k h bus) h y (accessed (passed before base).board.memory (passed before base)) t
        → RunEnd C Q word size last h bus b t

over_shown : (C : ℕ → Hart → Site → Type 0) (P : ℕ → Hart → Memory → Hart → Memory → Type 0) (Q : ℕ → Memory → Type 0) (word : ℕ) (size : Size)
    (most last h : ℕ) (bus : BusUnit) (w : Hart) (b : ℕ) (shown t : Site) (behind : List Deed) → Elements C P Q word size most h bus w
    → shown.unit.active ≡ true → last ≡ value_of (result_of abstractcs_address shown) → t ≡ ran behind shown → RunOver C Q word size h bus b shown
    → RunEnd C Q word size last h bus b t
over_shown C P Q word size most last h bus w b shown t behind es active last_is moved (all_done y base k c p d) =
    let there : Held h w base = es.held b y base c in
    let e : Ended 0 (automatic Fine k h bus) h y base last t =
    ended_at (automatic Fine k h bus) h y base w last shown t behind there (es.frozen b y base c) refl es.idle active last_is moved d in
    fine y base k e.error_is c p e.done_at
over_shown C P Q word size most last h bus w b shown t behind es active last_is moved (came_early i y base k below c p d) =
    let there : Held h w base = es.held i y base c in
    let e : Ended 1 (automatic Busy k h bus) h y base last t =
    ended_at (automatic Busy k h bus) h y base w last shown t behind there (es.frozen i y base c) refl es.idle active last_is moved d in
    busy i y base k e.error_is below c p e.done_at
over_shown C P Q word size most last h bus w b shown t behind es active last_is moved (met_fault i y base k before below c p q d) =
    let m : Memory = (passed before base).board.memory in
    let there : Held h w (accessed m (passed before base)) = held_behind h w base before m (es.held i y base c) in
    let e : Ended 3 (automatic Exception k h bus) h y (accessed m (passed before base)) last t =
    ended_at (automatic Exception k h bus) h y (accessed m (passed before base)) w last shown t behind there (es.frozen i y base c) refl es.idle active
    last_is moved d in
    exception i y base k before e.error_is below c p q e.done_at

pub run_polled : (C : ℕ → Hart → Site → Type 0) (P : ℕ → Hart → Memory → Hart → Memory → Type 0) (Q : ℕ → Memory → Type 0) (word : ℕ) (size : Size)
    (most : ℕ) (words : List ℕ) (last h : ℕ) (bus : BusUnit) (w : Hart) (b : ℕ) (s t : Site) → Elements C P Q word size most h bus w → b ≤ most
    → RunAt C P Q word size h bus b s → SiteActs (map poll_act words ++ poll_act last ∷ []) s t → shows_busy last ≡ false
    → RunEnd C Q word size last h bus b t
run_polled C P Q word size most words last h bus w b s t es within r acts not_busy =
    let cut : Split (map poll_act words) (poll_act last ∷ []) s t = site_acts-split (map poll_act words) (poll_act last ∷ []) s t acts in
    let polled : RanAlone s cut.mid = polls_ran words s cut.mid cut.first in
    let look : OneOperation (Read abstractcs_address) cut.rest.1.result cut.mid cut.rest.0 = cut.rest.1.one in
    let shown : Site = ran look.before cut.mid in
    let at_look : RunAt C P Q word size h bus b shown =
    run_ran C P Q word size most h bus w b look.before cut.mid shown es within refl
    (run_ran C P Q word size most h bus w b polled.deeds s cut.mid es within polled.is r) in
    let active : shown.unit.active ≡ true = run_active C P Q word size h bus b shown at_look in
    let last_is : last ≡ value_of (result_of abstractcs_address shown) = cut.rest.1.value_is ∙ ap value_of look.result_is in
    let moved : t ≡ ran look.behind shown = cut.rest.2 ∙ look.is ∙ ap (ran look.behind) (read_status shown) in
    over_shown C P Q word size most last h bus w b shown t look.behind es active last_is moved
    (run_over C P Q word size most h bus w b shown es within (shown_idle shown last active last_is not_busy) at_look)

-- ---- the error is cleared, and autoexec is off again

one_done : (a v : ℕ) (n n' : DebugModule) (h : ℕ) (y : Hart) (base : Site) (w : Hart) (s t : Site) → Held h w base → Frozen y → n.commands.steps ≡ []
    → n.bus.pending ≡ None → n'.commands.steps ≡ [] → n'.bus.pending ≡ None → ((z : Site) → operated (Write a v) (aside n h y z) ≡ aside n' h y z)
    → SiteActs (Put a v ∷ []) s t → DoneAt n h y base s → DoneAt n' h y base t
one_done a v n n' h y base w s t held fy none idle none' idle' changes acts d =
    let o : OpAt (Write a v) v n h y base acts.0 = op_at (Write a v) v n h y base w s acts.0 held fy none idle d acts.1 in
    subst (λ u. DoneAt n' h y base u) (sym acts.2) (op_done (Write a v) v n n' h y base w acts.0 held fy none' idle' o (changes (passed o.harts base)))

error_gone : (e : Cmderr) (k : Kept) (h : ℕ) (bus : BusUnit) (y : Hart) (z : Site)
    → operated (Write abstractcs_address clears_cmderr) (aside (automatic e k h bus) h y z) ≡ aside (automatic Fine k h bus) h y z
unfolding register_at
error_gone Fine k h bus y z = refl
error_gone Busy k h bus y z = refl
error_gone NotSupported k h bus y z = refl
error_gone Exception k h bus y z = refl
error_gone HaltResume k h bus y z = refl

pub auto_cleared : (e : Cmderr) (k : Kept) (h : ℕ) (bus : BusUnit) (y : Hart) (base : Site) (w : Hart) (s t : Site) → Held h w base → Frozen y
    → bus.pending ≡ None → SiteActs (Put abstractcs_address clears_cmderr ∷ []) s t → DoneAt (automatic e k h bus) h y base s
    → DoneAt (automatic Fine k h bus) h y base t
auto_cleared e k h bus y base w s t held fy idle acts d =
    one_done abstractcs_address clears_cmderr (automatic e k h bus) (automatic Fine k h bus) h y base w s t held fy refl idle refl idle
    (error_gone e k h bus y) acts d

switched_off : (k : Kept) (h : ℕ) (bus : BusUnit) (y : Hart) (z : Site)
    → operated (Write abstractauto_address 0) (aside (automatic Fine k h bus) h y z) ≡ aside (unit_of (begun k) h bus) h y z
unfolding register_at
switched_off k h bus y z = refl

pub auto_off : (k : Kept) (h : ℕ) (bus : BusUnit) (y : Hart) (base : Site) (w : Hart) (s t : Site) → Held h w base → Frozen y → bus.pending ≡ None
    → SiteActs (Put abstractauto_address 0 ∷ []) s t → DoneAt (automatic Fine k h bus) h y base s → Stood h bus y base w (begun k) t
auto_off k h bus y base w s t held fy idle acts d = record {
  held = held;
  frozen = fy;
  idle = idle;
  at = one_done abstractauto_address 0 (automatic Fine k h bus) (unit_of (begun k) h bus) h y base w s t held fy refl idle refl idle
      (switched_off k h bus y) acts d;
}
