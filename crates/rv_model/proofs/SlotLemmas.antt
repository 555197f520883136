-- The counts of a list of slots: what is done to a slot leaves each below its limit.
use Rattle.std.proofs.Common.{ℕ, zero, suc, ◌-◌, ◌<◌, Bool, true, false, cond, ◌&&◌, ltb, eqb, List, [], ◌∷◌, get_or, map, set, replicate, refl, subst, arith}
use Rattle.std.proofs.lemmas.Option.{none-some, same_Some}
use Rattle.rv_model.specs.declared.slot.Icount.{Icount}
use Rattle.rv_model.specs.declared.slot.Slot.{Slot}
use Rattle.rv_model.specs.declared.slot.Trigger.{Trigger}
use Rattle.rv_model.specs.declared.slot.Trigger.TheVariants as kind
use Rattle.rv_model.specs.declared.touch.Touch.{Touch}
use Rattle.rv_model.specs.declared.version.Version.{Version}
use Rattle.rv_model.specs.Board.{free_slot}
use Rattle.rv_model.specs.Fields.{field}
use Rattle.rv_model.specs.Triggers.{count_limit, CountFits, CountsFit, slot_fires, trigger_hit, slot_marked, trigger_counted, slot_counted}
use Rattle.rv_model.specs.TriggerWords.{address_type, trigger_of}

-- ---- one slot

hit_fits : (t : Trigger) → CountFits t → CountFits (trigger_hit t)
hit_fits (kind.Mcontrol6 t) fits = fits
hit_fits (kind.Icount t) fits = fits
hit_fits kind.Disabled fits = fits

marked_if : (fires : Bool) (s : Slot) → CountFits s.trigger → CountFits (cond fires (record s { trigger = trigger_hit s.trigger }) s).trigger
marked_if true s fits = hit_fits s.trigger fits
marked_if false s fits = fits

pub marked_fits : (touch : Touch) (s : Slot) → CountFits s.trigger → CountFits (slot_marked touch s).trigger
marked_fits touch s fits = marked_if (slot_fires touch s) s fits

counted_if : (counts pending : Bool) (t : Icount) → t.count < count_limit
    → (cond counts (record t { count = t.count - 1; pending = pending }) t).count < count_limit
counted_if true pending t fits = omega arith
counted_if false pending t fits = fits

trigger_counted_fits : (t : Trigger) → CountFits t → CountFits (trigger_counted t)
trigger_counted_fits (kind.Mcontrol6 t) fits = fits
trigger_counted_fits (kind.Icount t) fits = counted_if (t.m && ltb 0 t.count) _ t fits
trigger_counted_fits kind.Disabled fits = fits

pub counted_fits : (s : Slot) → CountFits s.trigger → CountFits (slot_counted s).trigger
counted_fits s fits = trigger_counted_fits s.trigger fits

field_below : (w : ℕ) → field 10 14 w < count_limit
field_below w = omega arith

written_by : (is_address is_3 : Bool) (a b c : Trigger) → CountFits a → CountFits b → CountFits c → CountFits (cond is_address a (cond is_3 b c))
written_by true is_3 a b c p q r = p
written_by false true a b c p q r = q
written_by false false a b c p q r = r

-- what a write of tdata1 keeps
pub written_fits : (v : Version) (w : ℕ) → CountFits (trigger_of v w)
unfolding trigger_of
written_fits v w = written_by (eqb (field 60 4 w) (address_type v)) (eqb (field 60 4 w) 3) _ _ _ tt (field_below w) tt

-- ---- several

pub map_fits : (f : Slot → Slot) → ((s : Slot) → CountFits s.trigger → CountFits (f s).trigger) → (xs : List Slot) → CountsFit xs → CountsFit (map f xs)
map_fits f keeps [] fits k s is = absurd (none-some s is)
map_fits f keeps (x ∷ xs) fits zero s is =
    let P : Slot → Type 0 = λ y. CountFits y.trigger in
    subst P (same_Some (f x) s is) (keeps x (fits 0 x refl))
map_fits f keeps (x ∷ xs) fits (suc k) s is = map_fits f keeps xs (λ j y at. fits (suc j) y at) k s is

pub set_fits : (xs : List Slot) (i : ℕ) (y : Slot) → CountFits y.trigger → CountsFit xs → CountsFit (set xs i y)
set_fits [] i y here fits k s is = absurd (none-some s is)
set_fits (x ∷ xs) zero y here fits zero s is =
    let P : Slot → Type 0 = λ z. CountFits z.trigger in
    subst P (same_Some y s is) here
set_fits (x ∷ xs) zero y here fits (suc k) s is = fits (suc k) s is
set_fits (x ∷ xs) (suc i) y here fits zero s is = fits 0 s is
set_fits (x ∷ xs) (suc i) y here fits (suc k) s is = set_fits xs i y here (λ j z at. fits (suc j) z at) k s is

pub selected_fits : (xs : List Slot) (i : ℕ) → CountsFit xs → CountFits (get_or xs i free_slot).trigger
selected_fits [] i fits = tt
selected_fits (x ∷ xs) zero fits = fits 0 x refl
selected_fits (x ∷ xs) (suc i) fits = selected_fits xs i (λ j y at. fits (suc j) y at)

pub free_slots_fit : (n : ℕ) → CountsFit (replicate n free_slot)
free_slots_fit zero k s is = absurd (none-some s is)
free_slots_fit (suc n) zero s is =
    let P : Slot → Type 0 = λ z. CountFits z.trigger in
    subst P (same_Some free_slot s is) tt
free_slots_fit (suc n) (suc k) s is = free_slots_fit n k s is
