-- Lists of four slots: each of them by its place, and what an unarmed one neither does nor becomes.
use Rattle.std.proofs.Common.{◌≡◌, ℕ, Bool, true, false, ◌||◌, List, [], ◌∷◌, length, get_or, refl, ap, ◌∙◌, arith}
use Rattle.rv_model.specs.declared.slot.Trigger.{Trigger}
use Rattle.rv_model.specs.declared.slot.Trigger.TheVariants as kind
use Rattle.rv_model.specs.declared.slot.Slot.{Slot}
use Rattle.rv_model.specs.declared.touch.Touch.{Touch}
use Rattle.rv_model.specs.Triggers.{fires, slot_fires, trigger_fires, counted_down, slot_counted, trigger_counted}
use Rattle.trig_unit.specs.Armed.{slot_armed, trigger_armed, some_armed}
use Rattle.trig_unit.specs.Members.{some_member}

pub fires_four : (touch : Touch) (slots : List Slot) (d : Slot) → length slots ≡ 4 →
    slot_fires touch (get_or slots 0 d) ∷ slot_fires touch (get_or slots 1 d) ∷ slot_fires touch (get_or slots 2 d) ∷ slot_fires touch (get_or slots 3 d) ∷ []
    ≡ fires touch slots
fires_four touch [] d h = absurd (omega arith)
fires_four touch (a ∷ []) d h = absurd (omega arith)
fires_four touch (a ∷ b ∷ []) d h = absurd (omega arith)
fires_four touch (a ∷ b ∷ c ∷ []) d h = absurd (omega arith)
fires_four touch (a ∷ b ∷ c ∷ e ∷ []) d h = refl
fires_four touch (a ∷ b ∷ c ∷ e ∷ f ∷ slots) d h = absurd (omega arith)

-- ---- unarmed slots

quiet_trigger : (touch : Touch) (t : Trigger) (n : ℕ) → trigger_armed t ≡ false → trigger_fires t n touch ≡ false
quiet_trigger touch (kind.Mcontrol6 t) n h = rw h refl
quiet_trigger touch (kind.Icount t) n h = rw h refl
quiet_trigger touch kind.Disabled n h = refl

still_trigger : (t : Trigger) → trigger_armed t ≡ false → trigger_counted t ≡ t
still_trigger (kind.Mcontrol6 t) h = refl
still_trigger (kind.Icount t) h = rw h refl
still_trigger kind.Disabled h = refl

first_false : (a b : Bool) → (a || b) ≡ false → a ≡ false
first_false true b h = h
first_false false b h = refl

second_false : (a b : Bool) → (a || b) ≡ false → b ≡ false
second_false true b h = absurd (cc)
second_false false b h = h

pub unarmed_quiet : (touch : Touch) (slots : List Slot) → some_armed slots ≡ false → some_member (fires touch slots) ≡ false
unarmed_quiet touch [] h = refl
unarmed_quiet touch (s ∷ slots) h =
    rw (quiet_trigger touch s.trigger s.tdata2 (first_false (slot_armed s) (some_armed slots) h))
    (unarmed_quiet touch slots (second_false (slot_armed s) (some_armed slots) h))

pub unarmed_still : (slots : List Slot) → some_armed slots ≡ false → counted_down slots ≡ slots
unarmed_still [] h = refl
unarmed_still (s ∷ slots) h =
    let here : slot_counted s ≡ s = ap (λ t. record s { trigger = t }) (still_trigger s.trigger (first_false (slot_armed s) (some_armed slots) h)) in
    let rest : counted_down slots ≡ slots = unarmed_still slots (second_false (slot_armed s) (some_armed slots) h) in
    ap (λ x. x ∷ counted_down slots) here ∙ ap (λ xs. s ∷ xs) rest
