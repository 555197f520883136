-- What is saved in front of a block and put back behind it: from what stands inside, with x8 and x9 changed, to what is left of the whole.
use Rattle.std.proofs.Common.{◌≡◌, ℕ, length, Option, None}
use Rattle.rv_model.specs.Board.{Hart}
use Rattle.rv_model.specs.Core.{x_of}
use Rattle.debug_model.specs.Module.{Site}
use Rattle.debug_model.specs.SystemBus.{BusUnit}
use Rattle.debug_model.specs.Told.{Far}
use Rattle.probe_access.specs.declared.fault.AccessFault.{AccessFault}
use Rattle.probe_access.specs.declared.fault.AccessFault.TheVariants as access_fault
use Rattle.probe_run.specs.Acts.{Tells}
use Rattle.probe_access.specs.Cuts.{IfCut}
use Rattle.probe_access.specs.MemoryRuns.{Around, AroundFailed, PutBack, PutBackFailed, Recovers, SavedFailed}
use Rattle.probe_access.specs.MemoryRuns.AroundFailed.{behind, in_restore, in_restore_behind, in_save, inside}
use Rattle.probe_access.proofs.AccessEnd.{saved_untold}
use Rattle.probe_access.proofs.AccessTold.{SavedTold, back_told, saved_told}
use Rattle.probe_access.proofs.AroundTold.{Clean, put_back_clean, save_clean}
use Rattle.probe_access.proofs.AroundUntold.{PlainMemory, put_back_plain, save_plain}
use Rattle.probe_access.proofs.CutHarts.{PutBack as PutBackHart, back_hung, save_hung}
use Rattle.probe_access.proofs.CutHung.{Hung}
use Rattle.probe_access.proofs.CutSites.{if_cut, recovers_uncut}
use Rattle.probe_access.proofs.LoadClauses.{Fits}
use Rattle.probe_access.proofs.RegAnswers.{StoodTold}
use Rattle.probe_access.proofs.ScratchLemmas.{scratched}

-- ---- by the fault

-- behind a fault of memory this holds of its address, and else only a fault of the link or too many polls can have come
abbrev pub OnlyAt : (ℕ → Type 0) → AccessFault → Type 0
OnlyAt G (access_fault.Dmi why) = Unit {0}
OnlyAt G (access_fault.Memory at) = G at
OnlyAt G (access_fault.Register number) = ⊥
OnlyAt G access_fault.StillBusy = Unit {0}
OnlyAt G (access_fault.Run why) = ⊥
OnlyAt G (access_fault.Odd shown) = ⊥

pub clean_at : (G : ℕ → Type 0) (e : AccessFault) → Clean e → OnlyAt G e
clean_at G (access_fault.Dmi why) c = tt
clean_at G (access_fault.Memory at) c = absurd c
clean_at G (access_fault.Register number) c = absurd c
clean_at G access_fault.StillBusy c = tt
clean_at G (access_fault.Run why) c = absurd c
clean_at G (access_fault.Odd shown) c = absurd c

pub only_at_map : (G H : ℕ → Type 0) (e : AccessFault) → ((at : ℕ) → G at → H at) → OnlyAt G e → OnlyAt H e
only_at_map G H (access_fault.Dmi why) f p = tt
only_at_map G H (access_fault.Memory at) f p = f at p
only_at_map G H (access_fault.Register number) f p = p
only_at_map G H access_fault.StillBusy f p = tt
only_at_map G H (access_fault.Run why) f p = p
only_at_map G H (access_fault.Odd shown) f p = p

lost_at : (G H : ℕ → Type 0) (e : AccessFault) → (Recovers e → ⊥) → OnlyAt G e → OnlyAt H e
lost_at G H (access_fault.Dmi why) loses p = tt
lost_at G H (access_fault.Memory at) loses p = absurd (loses tt)
lost_at G H (access_fault.Register number) loses p = p
lost_at G H access_fault.StillBusy loses p = tt
lost_at G H (access_fault.Run why) loses p = p
lost_at G H (access_fault.Odd shown) loses p = p

record AnyAt (G : ℕ → Type 0) : Type 0 where
  at : ℕ
  is : G at

recovered_at : (G : ℕ → Type 0) (e : AccessFault) → Recovers e → OnlyAt G e → AnyAt G
recovered_at G (access_fault.Dmi why) r p = absurd r
recovered_at G (access_fault.Memory at) r p = record { at = at; is = p }
recovered_at G (access_fault.Register number) r p = absurd p
recovered_at G access_fault.StillBusy r p = absurd r
recovered_at G (access_fault.Run why) r p = absurd r
recovered_at G (access_fault.Odd shown) r p = absurd r

-- ---- what stands inside, and what is left

-- the hart that makes the accesses has any x8 and x9
pub record LeftWith (C : Site → Type 0) (h : ℕ) (bus : BusUnit) (x : Hart) (told : Option Far) : Type 0 where
  pub p : ℕ
  pub q : ℕ
  pub base : Site
  pub content : C base
  pub then : StoodTold h bus (scratched p q x) base x told

-- it is whole again
pub record BackWith (C : Site → Type 0) (h : ℕ) (bus : BusUnit) (x : Hart) (told : Option Far) : Type 0 where
  pub base : Site
  pub content : C base
  pub then : StoodTold h bus x base x told

back_with : (C : Site → Type 0) (x8 x9 h : ℕ) (bus : BusUnit) (x : Hart) (last new : Tells) → length x.core.x ≡ 32 → x8 ≡ x_of x.core 8 → x9 ≡ x_of x.core 9
    → LeftWith C h bus x last.far → PutBack x8 x9 last new → BackWith C h bus x new.far
back_with C x8 x9 h bus x last new all is8 is9 l p =
    record { base = l.base; content = l.content; then = back_told x8 x9 l.p l.q h bus x l.base x last new all is8 is9 l.then p }

-- what it is made of: its calls and faults, and what they leave
pub record BlockInside (R : Tells → Tells → Type 0) (F : ℕ → ℕ → Tells → Tells → AccessFault → Type 0) (C : Site → Type 0) (E : ℕ → Site → Type 0) (h : ℕ)
    (bus : BusUnit) (x : Hart) (base : Site) : Type 0 where
  pub well : (first last : Tells) → StoodTold h bus x base x first.far → R first last → LeftWith C h bus x last.far
  pub badly : (old_count new_count : ℕ) (first last : Tells) (e : AccessFault) → StoodTold h bus x base x first.far → F old_count new_count first last e
      → OnlyAt (λ at. LeftWith (E at) h bus x last.far) e

pub around_ok : (R : Tells → Tells → Type 0) (F : ℕ → ℕ → Tells → Tells → AccessFault → Type 0) (C : Site → Type 0) (E : ℕ → Site → Type 0) (h : ℕ)
    (bus : BusUnit) (x : Hart) (base : Site) (old new : Tells) → Fits x → BlockInside R F C E h bus x base → StoodTold h bus x base x old.far
    → Around R old new → BackWith C h bus x new.far
around_ok R F C E h bus x base old new fits i st r =
    let sv : SavedTold r.x8 r.x9 h bus x base x r.first.far = saved_told r.x8 r.x9 h bus x base x old r.first st r.saved in
    back_with C r.x8 r.x9 h bus x r.last new fits.all (sv.x8_is fits.x8) (sv.x9_is fits.x9) (i.well r.first r.last sv.then r.inside) r.put_back

restore_clean : (C : Site → Type 0) (x8 x9 h : ℕ) (bus : BusUnit) (x : Hart) (old_count new_count : ℕ) (last new : Tells) (e : AccessFault)
    → LeftWith C h bus x last.far → PutBackFailed x8 x9 old_count new_count last new e → Clean e
restore_clean C x8 x9 h bus x old_count new_count last new e l f =
    put_back_clean x8 x9 h bus (scratched l.p l.q x) l.base x old_count new_count last new e l.then f

pub around_at : (R : Tells → Tells → Type 0) (F : ℕ → ℕ → Tells → Tells → AccessFault → Type 0) (C : Site → Type 0) (E : ℕ → Site → Type 0) (h : ℕ)
    (bus : BusUnit) (x : Hart) (base : Site) (old_count new_count : ℕ) (old new : Tells) (e : AccessFault) → Fits x → BlockInside R F C E h bus x base
    → StoodTold h bus x base x old.far → AroundFailed R F old_count new_count old new e
    → OnlyAt (λ at. BackWith (E at) h bus x new.far) e
around_at R F C E h bus x base old_count new_count old new e fits i st (in_save f) =
    clean_at (λ at. BackWith (E at) h bus x new.far) e (save_clean h bus x base x old_count new_count old new e st f)
around_at R F C E h bus x base old_count new_count old new e fits i st (inside x8 x9 first saved f loses) =
    let sv : SavedTold x8 x9 h bus x base x first.far = saved_told x8 x9 h bus x base x old first st saved in
    lost_at (λ at. LeftWith (E at) h bus x new.far) (λ at. BackWith (E at) h bus x new.far) e loses (i.badly old_count new_count first new e sv.then f)
around_at R F C E h bus x base old_count new_count old new e fits i st (behind x8 x9 first last was_count is_count saved f recovers back) =
    let sv : SavedTold x8 x9 h bus x base x first.far = saved_told x8 x9 h bus x base x old first st saved in
    only_at_map (λ at. LeftWith (E at) h bus x last.far) (λ at. BackWith (E at) h bus x new.far) e
    (λ at g. back_with (E at) x8 x9 h bus x last new fits.all (sv.x8_is fits.x8) (sv.x9_is fits.x9) g back)
    (i.badly was_count is_count first last e sv.then f)
around_at R F C E h bus x base old_count new_count old new e fits i st (in_restore x8 x9 first last saved r f) =
    let sv : SavedTold x8 x9 h bus x base x first.far = saved_told x8 x9 h bus x base x old first st saved in
    clean_at (λ at. BackWith (E at) h bus x new.far) e
    (restore_clean C x8 x9 h bus x old_count new_count last new e (i.well first last sv.then r) f)
around_at R F C E h bus x base old_count new_count old new e fits i st
    (in_restore_behind x8 x9 first last was_count is_count was saved f recovers back) =
    let sv : SavedTold x8 x9 h bus x base x first.far = saved_told x8 x9 h bus x base x old first st saved in
    let g : AnyAt (λ at. LeftWith (E at) h bus x last.far) =
    recovered_at (λ at. LeftWith (E at) h bus x last.far) was recovers (i.badly was_count is_count first last was sv.then f) in
    clean_at (λ at. BackWith (E at) h bus x new.far) e (restore_clean (E g.at) x8 x9 h bus x old_count new_count last new e g.is back)

-- ---- where it broke off

-- what stays true of where it was, by what it leaves to be put back
pub record BlockCutInside (R : Tells → Tells → Type 0) (F : ℕ → ℕ → Tells → Tells → AccessFault → Type 0) (C : Site → Type 0) (E : ℕ → Site → Type 0)
    (K : Option Far → Type 0) (h : ℕ) (bus : BusUnit) (x : Hart) (base : Site) : Type 0 where
  pub inside : BlockInside R F C E h bus x base
  pub cut : (old_count new_count : ℕ) (first last : Tells) (e : AccessFault) → StoodTold h bus x base x first.far → F old_count new_count first last e
      → IfCut (K last.far) e
  pub saving : (told : Option Far) → Hung (λ z. z ≡ x) h bus base told → K told
  pub restoring : (p q x8 x9 : ℕ) (b : Site) (told : Option Far) → C b → Hung (PutBackHart x8 x9 (scratched p q x)) h bus b told → K told
  pub restoring_behind : (at p q x8 x9 : ℕ) (b : Site) (told : Option Far) → E at b → Hung (PutBackHart x8 x9 (scratched p q x)) h bus b told → K told

pub around_cut : (R : Tells → Tells → Type 0) (F : ℕ → ℕ → Tells → Tells → AccessFault → Type 0) (C : Site → Type 0) (E : ℕ → Site → Type 0)
    (K : Option Far → Type 0) (h : ℕ) (bus : BusUnit) (x : Hart) (base : Site) (old_count new_count : ℕ) (old new : Tells) (e : AccessFault)
    → BlockCutInside R F C E K h bus x base → StoodTold h bus x base x old.far → AroundFailed R F old_count new_count old new e
    → IfCut (K new.far) e
around_cut R F C E K h bus x base old_count new_count old new e i st (in_save f) =
    if_cut (Hung (λ z. z ≡ x) h bus base new.far) (K new.far) e (i.saving new.far) (save_hung h bus x base x old_count new_count old new e st f)
around_cut R F C E K h bus x base old_count new_count old new e i st (inside x8 x9 first saved f loses) =
    let sv : SavedTold x8 x9 h bus x base x first.far = saved_told x8 x9 h bus x base x old first st saved in i.cut old_count new_count first new e sv.then f
around_cut R F C E K h bus x base old_count new_count old new e i st (behind x8 x9 first last was_count is_count saved f recovers back) =
    recovers_uncut (K new.far) e recovers
around_cut R F C E K h bus x base old_count new_count old new e i st (in_restore x8 x9 first last saved r f) =
    let sv : SavedTold x8 x9 h bus x base x first.far = saved_told x8 x9 h bus x base x old first st saved in
    let l : LeftWith C h bus x last.far = i.inside.well first last sv.then r in
    if_cut (Hung (PutBackHart x8 x9 (scratched l.p l.q x)) h bus l.base new.far) (K new.far) e (i.restoring l.p l.q x8 x9 l.base new.far l.content)
    (back_hung x8 x9 h bus (scratched l.p l.q x) l.base x old_count new_count last new e l.then f)
around_cut R F C E K h bus x base old_count new_count old new e i st
    (in_restore_behind x8 x9 first last was_count is_count was saved f recovers back) =
    let sv : SavedTold x8 x9 h bus x base x first.far = saved_told x8 x9 h bus x base x old first st saved in
    let g : AnyAt (λ at. LeftWith (E at) h bus x last.far) =
    recovered_at (λ at. LeftWith (E at) h bus x last.far) was recovers (i.inside.badly was_count is_count first last was sv.then f) in
    let l : LeftWith (E g.at) h bus x last.far = g.is in
    if_cut (Hung (PutBackHart x8 x9 (scratched l.p l.q x)) h bus l.base new.far) (K new.far) e
    (i.restoring_behind g.at l.p l.q x8 x9 l.base new.far l.content)
    (back_hung x8 x9 h bus (scratched l.p l.q x) l.base x old_count new_count last new e l.then back)

-- the same behind the saving
pub saved_cut : (R : Tells → Tells → Type 0) (F : ℕ → ℕ → Tells → Tells → AccessFault → Type 0) (C : Site → Type 0) (E : ℕ → Site → Type 0)
    (K : Option Far → Type 0) (x8 x9 h : ℕ) (bus : BusUnit) (x : Hart) (base : Site) (old_count new_count : ℕ) (first new : Tells) (e : AccessFault)
    → BlockInside R F C E h bus x base
    → ((oc nc : ℕ) (a b : Tells) (f : AccessFault) → StoodTold h bus x base x a.far → F oc nc a b f → IfCut (K b.far) f)
    → ((p q : ℕ) (b : Site) (told : Option Far) → C b → Hung (PutBackHart x8 x9 (scratched p q x)) h bus b told → K told)
    → ((at p q : ℕ) (b : Site) (told : Option Far) → E at b → Hung (PutBackHart x8 x9 (scratched p q x)) h bus b told → K told)
    → StoodTold h bus x base x first.far → SavedFailed R F x8 x9 old_count new_count first new e
    → IfCut (K new.far) e
saved_cut R F C E K x8 x9 h bus x base old_count new_count first new e i cut restoring restoring_behind st (SavedFailed.inside f loses) =
    cut old_count new_count first new e st f
saved_cut R F C E K x8 x9 h bus x base old_count new_count first new e i cut restoring restoring_behind st
    (SavedFailed.behind last was_count is_count f recovers back) =
    recovers_uncut (K new.far) e recovers
saved_cut R F C E K x8 x9 h bus x base old_count new_count first new e i cut restoring restoring_behind st (SavedFailed.in_restore last r f) =
    let l : LeftWith C h bus x last.far = i.well first last st r in
    if_cut (Hung (PutBackHart x8 x9 (scratched l.p l.q x)) h bus l.base new.far) (K new.far) e (restoring l.p l.q l.base new.far l.content)
    (back_hung x8 x9 h bus (scratched l.p l.q x) l.base x old_count new_count last new e l.then f)
saved_cut R F C E K x8 x9 h bus x base old_count new_count first new e i cut restoring restoring_behind st
    (SavedFailed.in_restore_behind last was_count is_count was f recovers back) =
    let g : AnyAt (λ at. LeftWith (E at) h bus x last.far) =
    recovered_at (λ at. LeftWith (E at) h bus x last.far) was recovers (i.badly was_count is_count first last was st f) in
    let l : LeftWith (E g.at) h bus x last.far = g.is in
    if_cut (Hung (PutBackHart x8 x9 (scratched l.p l.q x)) h bus l.base new.far) (K new.far) e (restoring_behind g.at l.p l.q l.base new.far l.content)
    (back_hung x8 x9 h bus (scratched l.p l.q x) l.base x old_count new_count last new e l.then back)

-- ---- of an untold chip

abbrev pub PlainAt : (ℕ → Type 0) → AccessFault → Type 0
PlainAt G (access_fault.Dmi why) = Unit {0}
PlainAt G (access_fault.Memory at) = G at
PlainAt G (access_fault.Register number) = Unit {0}
PlainAt G access_fault.StillBusy = Unit {0}
PlainAt G (access_fault.Run why) = ⊥
PlainAt G (access_fault.Odd shown) = Unit {0}

-- with no fault of memory
pub plain_at : (G : ℕ → Type 0) (e : AccessFault) → PlainMemory 0 ⊥ e → PlainAt G e
plain_at G (access_fault.Dmi why) p = tt
plain_at G (access_fault.Memory at) p = absurd p.1
plain_at G (access_fault.Register number) p = tt
plain_at G access_fault.StillBusy p = tt
plain_at G (access_fault.Run why) p = p
plain_at G (access_fault.Odd shown) p = tt

pub plain_at_map : (G H : ℕ → Type 0) (e : AccessFault) → ((at : ℕ) → G at → H at) → PlainAt G e → PlainAt H e
plain_at_map G H (access_fault.Dmi why) f p = tt
plain_at_map G H (access_fault.Memory at) f p = f at p
plain_at_map G H (access_fault.Register number) f p = tt
plain_at_map G H access_fault.StillBusy f p = tt
plain_at_map G H (access_fault.Run why) f p = p
plain_at_map G H (access_fault.Odd shown) f p = tt

pub around_untold : (R : Tells → Tells → Type 0) (F : ℕ → ℕ → Tells → Tells → AccessFault → Type 0) (G : ℕ → Tells → Type 0) (old_count new_count : ℕ)
    (old new : Tells) (e : AccessFault)
    → ((oc nc : ℕ) (first last : Tells) (f : AccessFault) → first.far ≡ None → F oc nc first last f → PlainAt (λ at. G at last) f)
    → ((at x8 x9 : ℕ) (last back : Tells) → PutBack x8 x9 last back → G at last → G at back)
    → old.far ≡ None → AroundFailed R F old_count new_count old new e → PlainAt (λ at. G at new) e
around_untold R F G old_count new_count old new e badly on none (in_save f) =
    plain_at (λ at. G at new) e (save_plain 0 ⊥ old_count new_count old new e f)
around_untold R F G old_count new_count old new e badly on none (inside x8 x9 first saved f loses) =
    badly old_count new_count first new e (saved_untold x8 x9 old first saved none) f
around_untold R F G old_count new_count old new e badly on none (behind x8 x9 first last was_count is_count saved f recovers back) =
    plain_at_map (λ at. G at last) (λ at. G at new) e (λ at g. on at x8 x9 last new back g)
    (badly was_count is_count first last e (saved_untold x8 x9 old first saved none) f)
around_untold R F G old_count new_count old new e badly on none (in_restore x8 x9 first last saved r f) =
    plain_at (λ at. G at new) e (put_back_plain x8 x9 0 ⊥ old_count new_count last new e f)
around_untold R F G old_count new_count old new e badly on none (in_restore_behind x8 x9 first last was_count is_count was saved f recovers back) =
    plain_at (λ at. G at new) e (put_back_plain x8 x9 0 ⊥ old_count new_count last new e back)
