-- What is known of a world, hart by hart: where one hart is changed, where more is known of the selected hart, and where a session begins.
use Rattle.std.proofs.Common.{◌≡◌, ◌∙◌, ℕ, Bool, true, false, List, [], Option, Some, None, slice_get, option_map, refl, sym, ap, subst}
use Rattle.std.proofs.Common.{if◌then◌else◌, inl, inr}
use Rattle.std.specs.Prelude.{◌==◌, slice_set}
use Rattle.std.proofs.lemmas.Bool.{cases_eq, ne_eqb}
use Rattle.std.proofs.lemmas.Option.{none-some, same_Some}
use Rattle.rv_model.specs.declared.cause.Cause.{Cause}
use Rattle.rv_model.specs.declared.slot.Slot.{Slot}
use Rattle.rv_model.specs.declared.slot.Trigger.TheVariants.{Disabled}
use Rattle.rv_model.specs.Board.{Board, DebugPart, Hart, Machine, machine_of}
use Rattle.rv_model.proofs.MapLemmas.{slice_get-set_other}
use Rattle.abstract_debugger.specs.FirstMatch.{FirstMatch}
use Rattle.abstract_debugger.specs.Known.{Erased, IsFresh, IsFreshPart, IsKnown, way_at}
use Rattle.abstract_debugger.specs.Lines.{Line}
use Rattle.abstract_debugger.specs.Own.{lived}
use Rattle.abstract_debugger.specs.Slots.{over}
use Rattle.abstract_debugger.specs.Trace.{Past}
use Rattle.abstract_debugger.specs.Transcript.{World, said, start}
use Rattle.abstract_debugger.specs.Ways.{Fits, IsSlotFor, Way}
use Rattle.abstract_debugger.specs.Ways.Starts.{runs}
use Rattle.abstract_debugger.specs.Ways.Way.{Idle}
use Rattle.abstract_debugger.proofs.OverLemmas.{slice_get-over_same, slice_get-over_other, slice_get-set_here}
use Rattle.abstract_debugger.proofs.StoryLemmas.{Alike, fits-alike, same_number}
use Rattle.abstract_debugger.proofs.Transparency.{fresh_unmasked}

-- ---- a list of harts that is changed at one place

pub record ChangedAt (h : ℕ) (g : Hart → Hart) (old new : List Hart) : Type 0 where
  pub here : slice_get new h ≡ option_map g (slice_get old h)
  pub others : (j : ℕ) → (j ≡ h → ⊥) → slice_get new j ≡ slice_get old j

pub changed-over : (h : ℕ) (g : Hart → Hart) (hs : List Hart) → ChangedAt h g hs (over h g hs)
changed-over h g hs = record { here = slice_get-over_same g h hs; others = λ j other. slice_get-over_other g h j hs other }

abbrev pub set_by : Option Hart → ℕ → (Hart → Hart) → List Hart → List Hart
set_by (Some x) h g hs = slice_set hs h (g x)
set_by None h g hs = hs

pub changed-set : (o : Option Hart) (h : ℕ) (g : Hart → Hart) (hs : List Hart) → slice_get hs h ≡ o → ChangedAt h g hs (set_by o h g hs)
changed-set (Some x) h g hs is = record {
  here = slice_get-set_here hs h x (g x) is
      ∙ sym (ap (option_map g) is);
  others = λ j other. slice_get-set_other hs h j (g x) other;
}
changed-set None h g hs is = record { here = is ∙ sym (ap (option_map g) is); others = λ j other. refl }

changed_same : (h : ℕ) (hs : List Hart) → ChangedAt h (λ x. x) hs hs
changed_same h hs = record { here = map_id (slice_get hs h); others = λ j other. refl }
  where
    map_id : (o : Option Hart) → o ≡ option_map (λ x. x) o
    map_id (Some x) = refl
    map_id None = refl

moved_here : (o : Option Hart) (h : ℕ) (g : Hart → Hart) (way way' : Way) (past past' : Past) (x : Hart) → option_map g o ≡ Some x
    → ((y : Hart) → o ≡ Some y → Fits way h past y.debug) → ((y : Hart) → o ≡ Some y → Fits way h past y.debug → Fits way' h past' (g y).debug)
    → Fits way' h past' x.debug
moved_here None h g way way' past past' x is fits moves = absurd (none-some x is)
moved_here (Some y) h g way way' past past' x is fits moves = subst (λ (z : Hart). Fits way' h past' z.debug) (same_Some (g y) x is)
    (moves y refl (fits y refl))

-- each hart of a board fits its way again
pub each-moved : (h : ℕ) (g : Hart → Hart) (old new : List Hart) (ways ways' : ℕ → Way) (past past' : Past) → ChangedAt h g old new
    → ((x : Hart) → slice_get old h ≡ Some x → Fits (ways h) h past x.debug → Fits (ways' h) h past' (g x).debug)
    → ((j : ℕ) → (j ≡ h → ⊥) → ways' j ≡ ways j) → ((j : ℕ) → (j ≡ h → ⊥) → Alike j past past')
    → ((j : ℕ) (x : Hart) → slice_get old j ≡ Some x → Fits (ways j) j past x.debug) → (j : ℕ) (x : Hart) → slice_get new j ≡ Some x
    → Fits (ways' j) j past' x.debug
each-moved h g old new ways ways' past past' at moves same alike each j x is = elim (cases_eq j h) [
  | inl e ↦ subst (λ n. slice_get new n ≡ Some x → Fits (ways' n) n past' x.debug) (sym e)
      (λ here. moved_here (slice_get old h) h g (ways h) (ways' h) past past' x (sym at.here ∙ here) (each h) moves) is
  | inr other ↦ fits-alike (ways' j) j past past' x.debug (alike j other)
      (subst (λ way. Fits way j past x.debug) (sym (same j other)) (each j x (sym (at.others j other) ∙ is)))
]

way_here : (sel : ℕ) (way : Way) → way_at sel way sel ≡ way
way_here sel way = ap (λ b. if b then way else Idle) (same_number sel)

way_there : (sel : ℕ) (way : Way) (j : ℕ) → (j ≡ sel → ⊥) → way_at sel way j ≡ Idle
way_there sel way j other = ap (λ b. if b then way else Idle) (ne_eqb j sel other)

-- ---- changes of the selected hart, or of no hart

pub known_selected : (m : Machine) (sel : ℕ) (way way' : Way) (w v : World) (g : Hart → Hart) → IsKnown m sel way w → Erased m v
    → FirstMatch m v.past
    → ChangedAt sel g w.board.harts v.board.harts → ((j : ℕ) → (j ≡ sel → ⊥) → Alike j w.past v.past)
    → ((x : Hart) → slice_get w.board.harts sel ≡ Some x → Fits way sel w.past x.debug → Fits way' sel v.past (g x).debug) → IsKnown m sel way' v
known_selected m sel way way' w v g k erased right at alike moves = record {
  erased = erased;
  right = right;
  each = each-moved sel g w.board.harts v.board.harts (way_at sel way) (way_at sel way') w.past v.past at
      (λ x is fits. subst (λ y. Fits y sel v.past (g x).debug) (sym (way_here sel way'))
      (moves x is (subst (λ y. Fits y sel w.past x.debug) (way_here sel way) fits)))
      (λ j other. way_there sel way' j other ∙ sym (way_there sel way j other)) alike k.each;
}

-- more is known of the selected hart
pub known_refined : (m : Machine) (sel : ℕ) (way way' : Way) (w : World) → IsKnown m sel way w
    → ((x : Hart) → slice_get w.board.harts sel ≡ Some x → Fits way sel w.past x.debug → Fits way' sel w.past x.debug) → IsKnown m sel way' w
known_refined m sel way way' w k moves = known_selected m sel way way' w w (λ x. x) k k.erased k.right (changed_same sel w.board.harts)
    (λ j other l. refl) moves

-- no hart is selected where all are idle
pub known_idle : (m : Machine) (sel sel' : ℕ) (w : World) → IsKnown m sel Idle w → IsKnown m sel' Idle w
known_idle m sel sel' w k = record {
  erased = k.erased;
  right = k.right;
  each = λ j x is. subst (λ way. Fits way j w.past x.debug) (either (j == sel) ∙ sym (either (j == sel'))) (k.each j x is);
}
  where
    either : (b : Bool) → (if b then Idle else Idle) ≡ Idle
    either true = refl
    either false = refl

pub known-said : (m : Machine) (sel : ℕ) (way : Way) (line : Line) (w : World) → IsKnown m sel way w → IsKnown m sel way (said line w)
known-said m sel way line w k = record { erased = record { machine = k.erased.machine; unmasked = k.erased.unmasked }; right = k.right; each = k.each }

-- ---- where a session begins

fresh_slot : (o : Option Slot) → ((s : Slot) → o ≡ Some s → s.trigger ≡ Disabled) → IsSlotFor o None true false 0 false
fresh_slot None unused = refl
fresh_slot (Some s) unused = (unused s refl, refl)

fresh_fits : (h : ℕ) (d : DebugPart) (halted : Option Cause) → d.halted ≡ halted → IsFreshPart d → Fits Idle h [] d
fresh_fits h d (Some why) is f = inl (record {
  why = why;
  is_halted = is;
  not_asked = f.not_asked;
  no_step = f.no_step;
  slots_are = λ k. fresh_slot (slice_get d.slots k) (f.unused k);
  whole = λ w k. refl;
})
fresh_fits h d None is f = inr (record {
  is_running = is;
  moves = record {
    starts = runs is f.not_asked;
    step_is = f.no_step;
    slots_are = λ k. fresh_slot (slice_get d.slots k) (f.unused k);
    unspent = λ w k. refl;
  };
})

pub known-start : (sel : ℕ) (board : Board) → IsFresh board → IsKnown (machine_of board) sel Idle (start board)
known-start sel board fresh = record {
  erased = record { machine = refl; unmasked = fresh_unmasked board fresh };
  right = tt;
  each = λ j x is. subst (λ way. Fits way j [] x.debug) (sym (either (j == sel))) (fresh_fits j x.debug x.debug.halted refl (fresh j x is));
}
  where
    either : (b : Bool) → (if b then Idle else Idle) ≡ Idle
    either true = refl
    either false = refl
