-- One slot, as its story says it is: when it fires, and what a stop, an execution and a debugger make of it.
use Rattle.std.proofs.Common.{◌≡◌, ◌∙◌, ◌≤◌, ◌<◌, ◌+◌, ◌-◌, ℕ, Bool, true, false, not, ◌&&◌, ◌||◌, Option, Some, None, option_map, refl, sym, ap}
use Rattle.std.proofs.Common.{if◌then◌else◌, inl, inr, arith}
use Rattle.std.specs.Prelude.{◌==◌, nat_lt}
use Rattle.std.proofs.lemmas.Bool.{cases_eq, cases_lt, eq-eqb, ne_eqb, eqb-true, lt-ltb, false≢true, or_from, false_from_ne_true}
use Rattle.std.proofs.Math.Bool.{and-false, or-false}
use Rattle.rv_model.specs.declared.slot.Comparison.TheVariants.{Equal}
use Rattle.rv_model.specs.declared.slot.Slot.{Slot}
use Rattle.rv_model.specs.declared.slot.Trigger.{Trigger}
use Rattle.rv_model.specs.declared.slot.Trigger.TheVariants as kind
use Rattle.rv_model.specs.declared.touch.Touch.{Touch}
use Rattle.rv_model.specs.Core.{Core}
use Rattle.rv_model.specs.Memory.{Memory}
use Rattle.rv_model.specs.Touch.{touch_of}
use Rattle.rv_model.specs.Triggers.{access_compares, slot_counted, slot_fires, slot_marked, trigger_counted, trigger_fires, trigger_hit}
use Rattle.rv_model.proofs.TouchLemmas.{touch_of-pc}
use Rattle.debug_model.specs.declared.command.WatchKind.TheVariants.{Load, Store, Access}
use Rattle.abstract_debugger.specs.FirstMatch.{armed_matches, has_here, matches}
use Rattle.abstract_debugger.specs.Slots.{armed_for, freed, trigger_back, trigger_forgotten, trigger_has_hit, trigger_held, with_trigger}
use Rattle.abstract_debugger.specs.Trace.{What}
use Rattle.abstract_debugger.specs.Trace.What.{Break, Watch, Count}
use Rattle.abstract_debugger.specs.Ways.{HasRunDown, IsAt, IsSlotFor, Like, trigger_like}

-- ---- when it fires

trigger-fires : (c : Core) (mem : Memory) (m hit : Bool) (what : What) (n : ℕ) (st : Bool) (tdata2 : ℕ) → IsAt what tdata2
    → trigger_fires (trigger_like m hit what n st) tdata2 (touch_of c mem) ≡ (m && matches what c mem n st)
trigger-fires c mem m hit (Break a) n st tdata2 at =
    ap (λ b. m && b) (or-false ((touch_of c mem).pc == tdata2) ∙ ap (λ p. p == tdata2) (touch_of-pc c mem) ∙ ap (λ t. c.pc == t) at)
trigger-fires c mem m hit (Watch Load a) n st tdata2 at =
    ap (λ b. m && b) (or-false (access_compares Equal tdata2 (touch_of c mem).load) ∙ ap (λ t. access_compares Equal t (touch_of c mem).load) at)
trigger-fires c mem m hit (Watch Store a) n st tdata2 at = ap (λ t. m && access_compares Equal t (touch_of c mem).store) at
trigger-fires c mem m hit (Watch Access a) n st tdata2 at =
    ap (λ t. m && (access_compares Equal t (touch_of c mem).load || access_compares Equal t (touch_of c mem).store)) at
trigger-fires c mem m hit (Count turns) n st tdata2 at = refl

abbrev pub fires_here : Touch → Option Slot → Bool
fires_here t o = has_here (option_map (slot_fires t) o)

-- it fires exactly where it is on and matches
pub slot-fires : (c : Core) (mem : Memory) (o : Option Slot) (a : Option What) (m hit : Bool) (n : ℕ) (st : Bool) → IsSlotFor o a m hit n st
    → fires_here (touch_of c mem) o ≡ (m && armed_matches a c mem n st)
slot-fires c mem None None m hit n st is = sym (and-false m)
slot-fires c mem None (Some what) m hit n st is = absurd is
slot-fires c mem (Some s) None m hit n st is = ap (λ t. trigger_fires t s.tdata2 (touch_of c mem)) is.0 ∙ sym (and-false m)
slot-fires c mem (Some s) (Some what) m hit n st is =
    ap (λ t. trigger_fires t s.tdata2 (touch_of c mem)) is.trigger ∙ trigger-fires c mem m hit what n st s.tdata2 is.at

-- ---- counts

pending-same : (hit m : Bool) (n n' : ℕ) (p p' : Bool) → n ≡ n' → p ≡ p'
    → kind.Icount (record { hit = hit; count = n; m = m; pending = p }) ≡ kind.Icount (record { hit = hit; count = n'; m = m; pending = p' })
pending-same hit m n n' p p' en ep = λ i. kind.Icount (record { hit = hit; count = en i; m = m; pending = ep i })

abbrev pends : ℕ → ℕ → Bool → Bool
pends n turns st = n == turns && not st

pends_not : (n turns : ℕ) (st : Bool) → (n ≡ turns → ⊥) → pends n turns st ≡ false
pends_not n turns st other = ap (λ b. b && not st) (ne_eqb n turns other)

pends_stopped : (n turns : ℕ) (st : Bool) → st ≡ true → pends n turns st ≡ false
pends_stopped n turns st is = ap (λ s. n == turns && not s) is ∙ and-false (n == turns)

pends_now : (n turns : ℕ) (st : Bool) → n ≡ turns → st ≡ false → pends n turns st ≡ true
pends_now n turns st here is = ap (λ s. n == turns && not s) is ∙ ap (λ b. b && true) (eq-eqb n turns here)

abbrev icount : Bool → ℕ → Bool → Bool → Trigger
icount hit count m p = kind.Icount (record { hit = hit; count = count; m = m; pending = p })

not_stopped : (turns n : ℕ) (st : Bool) → (st ≡ true → turns ≤ n) → n < turns → st ≡ false
not_stopped turns n st run_down low = false_from_ne_true st (λ t. absurd (let h : turns ≤ n = run_down t in omega arith))

count-low : (hit : Bool) (turns n : ℕ) (st : Bool) → n < turns → st ≡ false
    → trigger_counted (icount hit (turns - n) true (pends n turns st)) ≡ icount hit (turns - (n + 1)) true (pends (n + 1) turns st)
count-low hit turns n st low not_yet =
    ap (λ b. kind.Icount (if b then (record { hit = hit; count = turns - n - 1; m = true; pending = if turns - n == 1 then true else pends n turns st })
    else (record { hit = hit; count = turns - n; m = true; pending = pends n turns st }))) (lt-ltb 0 (turns - n) (omega arith))
    ∙ pending-same hit true (turns - n - 1) (turns - (n + 1)) (if turns - n == 1 then true else pends n turns st) (pends (n + 1) turns st) (omega arith)
    (elim (cases_eq (turns - n) 1) [
      | inl last ↦ ap (λ b. if b then true else pends n turns st) (eq-eqb (turns - n) 1 last) ∙ sym (pends_now (n + 1) turns st (omega arith) not_yet)
      | inr more ↦
          ap (λ b. if b then true else pends n turns st) (ne_eqb (turns - n) 1 more) ∙ pends_not n turns st (λ e. absurd (omega arith))
          ∙ sym (pends_not (n + 1) turns st (λ e. more (omega arith)))
    ])

count-high : (hit : Bool) (turns n : ℕ) (st : Bool) → turns ≤ n → pends n turns st ≡ false
    → trigger_counted (icount hit (turns - n) true (pends n turns st)) ≡ icount hit (turns - (n + 1)) true (pends (n + 1) turns st)
count-high hit turns n st high not_pending =
    let none : turns - n ≡ 0 = omega arith in
    ap (λ b. kind.Icount (if b then (record { hit = hit; count = turns - n - 1; m = true; pending = if turns - n == 1 then true else pends n turns st })
    else (record { hit = hit; count = turns - n; m = true; pending = pends n turns st }))) (ap (λ c. nat_lt 0 c) none)
    ∙ pending-same hit true (turns - n) (turns - (n + 1)) (pends n turns st) (pends (n + 1) turns st) (omega arith)
    (not_pending ∙ sym (pends_not (n + 1) turns st (λ e. absurd (omega arith))))

count-off : (hit : Bool) (turns n : ℕ) (st : Bool) → turns ≤ n → st ≡ true
    → trigger_counted (icount hit (turns - n) false (pends n turns st)) ≡ icount hit (turns - (n + 1)) false (pends (n + 1) turns st)
count-off hit turns n st high stopped =
    pending-same hit false (turns - n) (turns - (n + 1)) (pends n turns st) (pends (n + 1) turns st) (omega arith)
    (pends_stopped n turns st stopped ∙ sym (pends_stopped (n + 1) turns st stopped))

count-next : (m hit : Bool) (turns n : ℕ) (st : Bool) → (m && pends n turns st) ≡ false → (st ≡ true → turns ≤ n) → (m ≡ false → st ≡ true)
    → trigger_counted (icount hit (turns - n) m (pends n turns st)) ≡ icount hit (turns - (n + 1)) m (pends (n + 1) turns st)
count-next false hit turns n st calm run_down off = count-off hit turns n st (run_down (off refl)) (off refl)
count-next true hit turns n st calm run_down off = elim (cases_lt n turns) [
  | inl low ↦ count-low hit turns n st low (not_stopped turns n st run_down low)
  | inr high ↦ count-high hit turns n st high calm
]

-- ---- an execution at which it does not fire

trigger-counted : (what : What) (c : Core) (mem : Memory) (m hit : Bool) (n : ℕ) (st : Bool) → (m && matches what c mem n st) ≡ false
    → (st ≡ true → HasRunDown what n) → (m ≡ false → st ≡ true)
    → trigger_counted (trigger_like m hit what n st) ≡ trigger_like m hit what (n + 1) st
trigger-counted (Break a) c mem m hit n st calm run_down off = refl
trigger-counted (Watch Load a) c mem m hit n st calm run_down off = refl
trigger-counted (Watch Store a) c mem m hit n st calm run_down off = refl
trigger-counted (Watch Access a) c mem m hit n st calm run_down off = refl
trigger-counted (Count turns) c mem m hit n st calm run_down off = count-next m hit turns n st calm run_down off

still_run_down : (what : What) (n : ℕ) → HasRunDown what n → HasRunDown what (n + 1)
still_run_down (Break a) n is = tt
still_run_down (Watch kind a) n is = tt
still_run_down (Count turns) n is = omega arith

pub slot-counted : (c : Core) (mem : Memory) (o : Option Slot) (a : Option What) (m hit : Bool) (n : ℕ) (st : Bool) → IsSlotFor o a m hit n st
    → (m && armed_matches a c mem n st) ≡ false → (m ≡ false → hit ≡ true) → IsSlotFor (option_map slot_counted o) a m hit (n + 1) st
slot-counted c mem None None m hit n st is calm off = is
slot-counted c mem None (Some what) m hit n st is calm off = is
slot-counted c mem (Some s) None m hit n st is calm off = (ap trigger_counted is.0, is.1)
slot-counted c mem (Some s) (Some what) m hit n st is calm off = record {
  trigger = ap trigger_counted is.trigger ∙ trigger-counted what c mem m hit n st calm is.run_down (λ e. is.hit_stopped (off e));
  at = is.at;
  run_down = λ t. still_run_down what n (is.run_down t);
  hit_stopped = is.hit_stopped;
}

-- ---- a stop at which it fires or not

trigger-hit : (what : What) (m hit : Bool) (n : ℕ) (st : Bool) → trigger_hit (trigger_like m hit what n st) ≡ trigger_like m true what n true
trigger-hit (Break a) m hit n st = refl
trigger-hit (Watch Load a) m hit n st = refl
trigger-hit (Watch Store a) m hit n st = refl
trigger-hit (Watch Access a) m hit n st = refl
trigger-hit (Count turns) m hit n st = pending-same true m (turns - n) (turns - n) false (pends n turns true) refl (sym (and-false (n == turns)))

left_true : (a b : Bool) → (a && b) ≡ true → a ≡ true
left_true true b is = refl
left_true false b is = absurd (false≢true is)

right_true : (a b : Bool) → (a && b) ≡ true → b ≡ true
right_true true b is = is
right_true false b is = absurd (false≢true is)

fired_run_down : (what : What) (c : Core) (mem : Memory) (m : Bool) (n : ℕ) (st : Bool) → (m && matches what c mem n st) ≡ true → HasRunDown what n
fired_run_down (Break a) c mem m n st is = tt
fired_run_down (Watch kind a) c mem m n st is = tt
fired_run_down (Count turns) c mem m n st is =
    let e : n ≡ turns = eqb-true n turns (left_true (n == turns) (not st) (right_true m (pends n turns st) is)) in
    omega arith

marked-like : (c : Core) (mem : Memory) (f m hit : Bool) (what : What) (n : ℕ) (st : Bool) (s : Slot) → (m && matches what c mem n st) ≡ f
    → Like m hit what n st s
    → Like m (f || hit) what n (f || st) (if f then record s { trigger = trigger_hit s.trigger } else s)
marked-like c mem false m hit what n st s fired is = is
marked-like c mem true m hit what n st s fired is = record {
  trigger = ap trigger_hit is.trigger ∙ trigger-hit what m hit n st;
  at = is.at;
  run_down = λ t. fired_run_down what c mem m n st fired;
  hit_stopped = λ t. refl;
}

marked-free : (f : Bool) (s : Slot) → s.trigger ≡ kind.Disabled → (if f then record s { trigger = trigger_hit s.trigger } else s).trigger ≡ kind.Disabled
marked-free false s is = is
marked-free true s is = ap trigger_hit is

pub slot-marked : (c : Core) (mem : Memory) (o : Option Slot) (a : Option What) (m hit : Bool) (n : ℕ) (st : Bool) → IsSlotFor o a m hit n st
    → IsSlotFor (option_map (slot_marked (touch_of c mem)) o) a m (fires_here (touch_of c mem) o || hit) n (fires_here (touch_of c mem) o || st)
slot-marked c mem None None m hit n st is = is
slot-marked c mem None (Some what) m hit n st is = is
slot-marked c mem (Some s) None m hit n st is = (
  marked-free (slot_fires (touch_of c mem) s) s is.0,
  or_from (slot_fires (touch_of c mem) s) hit
      (ap (λ t. trigger_fires t s.tdata2 (touch_of c mem)) is.0) is.1,
)
slot-marked c mem (Some s) (Some what) m hit n st is =
    marked-like c mem (slot_fires (touch_of c mem) s) m hit what n st s (sym (slot-fires c mem (Some s) (Some what) m hit n st is)) is

-- ---- what a debugger does with it

down : (a b : Bool) → (b ≡ true → a ≡ true) → a ≡ false → b ≡ false
down a true le is = absurd (false≢true (sym is ∙ le refl))
down a false le is = refl

-- a change of its trigger that leaves the story alone
lifted : (f : Trigger → Trigger) (o : Option Slot) (a : Option What) (m hit m' hit' : Bool) (n : ℕ) (st : Bool)
    → ((what : What) → f (trigger_like m hit what n st) ≡ trigger_like m' hit' what n st) → f kind.Disabled ≡ kind.Disabled → (hit' ≡ true → hit ≡ true)
    → IsSlotFor o a m hit n st → IsSlotFor (option_map (with_trigger f) o) a m' hit' n st
lifted f None None m hit m' hit' n st each free le is = down hit hit' le is
lifted f None (Some what) m hit m' hit' n st each free le is = is
lifted f (Some s) None m hit m' hit' n st each free le is = (ap f is.0 ∙ free, down hit hit' le is.1)
lifted f (Some s) (Some what) m hit m' hit' n st each free le is = record {
  trigger = ap f is.trigger ∙ each what;
  at = is.at;
  run_down = is.run_down;
  hit_stopped = λ t. is.hit_stopped (le t);
}

trigger-held : (m hit : Bool) (n : ℕ) (st : Bool) (what : What) → trigger_held (trigger_like m hit what n st) ≡ trigger_like (m && not hit) hit what n st
trigger-held m hit n st (Break a) = refl
trigger-held m hit n st (Watch Load a) = refl
trigger-held m hit n st (Watch Store a) = refl
trigger-held m hit n st (Watch Access a) = refl
trigger-held m hit n st (Count turns) = refl

trigger-back : (m hit : Bool) (n : ℕ) (st : Bool) (what : What) → trigger_back (trigger_like m hit what n st) ≡ trigger_like (m || hit) hit what n st
trigger-back m hit n st (Break a) = refl
trigger-back m hit n st (Watch Load a) = refl
trigger-back m hit n st (Watch Store a) = refl
trigger-back m hit n st (Watch Access a) = refl
trigger-back m hit n st (Count turns) = refl

trigger-forgotten : (m hit : Bool) (n : ℕ) (st : Bool) (what : What) → trigger_forgotten (trigger_like m hit what n st) ≡ trigger_like m false what n st
trigger-forgotten m hit n st (Break a) = refl
trigger-forgotten m hit n st (Watch Load a) = refl
trigger-forgotten m hit n st (Watch Store a) = refl
trigger-forgotten m hit n st (Watch Access a) = refl
trigger-forgotten m hit n st (Count turns) = refl

pub slot-held : (o : Option Slot) (a : Option What) (m hit : Bool) (n : ℕ) (st : Bool) → IsSlotFor o a m hit n st
    → IsSlotFor (option_map (with_trigger trigger_held) o) a (m && not hit) hit n st
slot-held o a m hit n st is = lifted trigger_held o a m hit (m && not hit) hit n st (trigger-held m hit n st) refl (λ t. t) is

pub slot-back : (o : Option Slot) (a : Option What) (m hit : Bool) (n : ℕ) (st : Bool) → IsSlotFor o a m hit n st
    → IsSlotFor (option_map (with_trigger trigger_back) o) a (m || hit) hit n st
slot-back o a m hit n st is = lifted trigger_back o a m hit (m || hit) hit n st (trigger-back m hit n st) refl (λ t. t) is

pub slot-forgotten : (o : Option Slot) (a : Option What) (m hit : Bool) (n : ℕ) (st : Bool) → IsSlotFor o a m hit n st
    → IsSlotFor (option_map (with_trigger trigger_forgotten) o) a m false n st
slot-forgotten o a m hit n st is = lifted trigger_forgotten o a m hit m false n st (trigger-forgotten m hit n st) refl (λ t. absurd (false≢true t)) is

trigger-hit_is : (what : What) (m hit : Bool) (n : ℕ) (st : Bool) → trigger_has_hit (trigger_like m hit what n st) ≡ hit
trigger-hit_is (Break a) m hit n st = refl
trigger-hit_is (Watch Load a) m hit n st = refl
trigger-hit_is (Watch Store a) m hit n st = refl
trigger-hit_is (Watch Access a) m hit n st = refl
trigger-hit_is (Count turns) m hit n st = refl

-- what a slot shows as its hit
pub slot-hit : (o : Option Slot) (a : Option What) (m hit : Bool) (n : ℕ) (st : Bool) → IsSlotFor o a m hit n st
    → has_here (option_map (λ (s : Slot). trigger_has_hit s.trigger) o) ≡ hit
slot-hit None None m hit n st is = sym is
slot-hit None (Some what) m hit n st is = absurd is
slot-hit (Some s) None m hit n st is = ap trigger_has_hit is.0 ∙ sym is.1
slot-hit (Some s) (Some what) m hit n st is = ap trigger_has_hit is.trigger ∙ trigger-hit_is what m hit n st

-- a count counts at least one turn
abbrev pub CanArm : What → Type 0
CanArm (Break a) = Unit {0}
CanArm (Watch watched a) = Unit {0}
CanArm (Count turns) = 1 ≤ turns

armed-trigger : (what : What) (s : Slot) → CanArm what → (armed_for what s).trigger ≡ trigger_like true false what 0 false
armed-trigger (Break a) s can = refl
armed-trigger (Watch Load a) s can = refl
armed-trigger (Watch Store a) s can = refl
armed-trigger (Watch Access a) s can = refl
armed-trigger (Count turns) s can = pending-same false true turns (turns - 0) false (pends 0 turns false) (omega arith)
    (sym (pends_not 0 turns false (λ e. absurd (omega arith))))

armed-at : (what : What) (s : Slot) → IsAt what (armed_for what s).tdata2
armed-at (Break a) s = refl
armed-at (Watch watched a) s = refl
armed-at (Count turns) s = tt

pub slot-armed : (what : What) (s : Slot) → CanArm what → IsSlotFor (Some (armed_for what s)) (Some what) true false 0 false
slot-armed what s can = record {
  trigger = armed-trigger what s can;
  at = armed-at what s;
  run_down = λ t. absurd (false≢true t);
  hit_stopped = λ t. absurd (false≢true t);
}

pub slot-freed : (s : Slot) (m : Bool) → IsSlotFor (Some (freed s)) None m false 0 false
slot-freed s m = (refl, refl)
