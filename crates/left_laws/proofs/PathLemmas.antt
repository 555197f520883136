-- Paths of a board: one behind another, turns, and what they keep of a hart that stands halted.
use Rattle.std.proofs.Common.{◌≡◌, ◌∙◌, ℕ, List, [], ◌∷◌, ◌++◌, true, false, Option, Some, None, option_map, slice_get, refl, sym, ap, subst}
use Rattle.std.proofs.Common.{inl, inr}
use Rattle.std.proofs.lemmas.Bool.{cases_eq}
use Rattle.std.proofs.lemmas.Option.{none-some, same_Some}
use Rattle.rv_model.specs.Board.{Board, DebugPart, Hart}
use Rattle.debug_model.specs.Journal.{after_point, debug_changed, halt_requested, resume_asked}
use Rattle.debug_model.specs.declared.point.Point.{Point}
use Rattle.debug_model.specs.declared.point.Point.TheVariants.{Turn, Look, HaltReq, HaltClear, ResumeReq, Access}
use Rattle.abstract_debugger.specs.Laws.{IsFrozen, IsFrozenAt}
use Rattle.abstract_debugger.specs.Plan.{hart_over, with_debug_part}
use Rattle.abstract_debugger.specs.Turns.{after_turns, turns}
use Rattle.abstract_debugger.proofs.FrozenLemmas.{stays_same}
use Rattle.abstract_debugger.proofs.OverLemmas.{slice_get-over_other, slice_get-over_same}
use Rattle.left_laws.specs.Left.{IsAmong, InScope, IsStored, LeavesRunning, Lives, Scope, bytes_put}
use Rattle.left_laws.specs.Left.Lives.{stays, takes, puts, changes}
use Rattle.left_laws.specs.LeftLaws.{HaltedStay, PathsAreJournals, StandsStill}
use Rattle.left_laws.proofs.BoardLemmas.{changed_over}

-- ---- one behind another

pub lives_then : (s : Scope) (b c d : Board) (ps qs : List Point) → Lives s b ps c → Lives s c qs d → Lives s b (ps ++ qs) d
lives_then s b c d ps qs (stays x) q = q
lives_then s b c d ps qs (takes p x points end ok rest) q = takes p x (points ++ qs) d ok (lives_then s (after_point p x) end d points qs rest q)
lives_then s b c d ps qs (puts a n v x points end ok rest) q =
    puts a n v x (points ++ qs) d ok (lives_then s (bytes_put a n v x) end d points qs rest q)
lives_then s b c d ps qs (changes f h x points end ok keeps rest) q =
    changes f h x (points ++ qs) d ok keeps (lives_then s (hart_over (with_debug_part f) h x) end d points qs rest q)

pub lives_turns : (s : Scope) (harts : List ℕ) (b : Board) → Lives s b (turns harts) (after_turns harts b)
lives_turns s [] b = stays b
lives_turns s (h ∷ harts) b = takes (Turn h) b (turns harts) (after_turns (h ∷ harts) b) tt (lives_turns s harts (after_point (Turn h) b))

-- ---- the journal's

cannot_store : (s : Scope) (a n v : ℕ) → s.stores ≡ [] → IsStored s.stores a n v → ⊥
cannot_store s a n v none is = none-some is.block (ap (λ l. slice_get l is.place) (sym none) ∙ is.listed)

pub paths_are_journals : PathsAreJournals
paths_are_journals s b points end no_change no_store (stays x) = refl
paths_are_journals s b points end no_change no_store (takes p x rest last ok then) =
    paths_are_journals s (after_point p x) rest last no_change no_store then
paths_are_journals s b points end no_change no_store (puts a n v x rest last ok then) = absurd (cannot_store s a n v no_store ok)
paths_are_journals s b points end no_change no_store (changes f h x rest last ok keeps then) = absurd (subst (IsAmong h) no_change ok)

-- ---- a hart that stands halted

-- a request of another hart
other_asked : (s : Scope) (h n : ℕ) (f : DebugPart → DebugPart) (b : Board) → (IsAmong h s.asks → ⊥) → IsAmong n s.asks
    → slice_get (debug_changed f n b).harts h ≡ slice_get b.harts h
other_asked s h n f b unasked is =
    ap (λ (c : Board). slice_get c.harts h) (changed_over f n b)
    ∙ slice_get-over_other (with_debug_part f) n h b.harts (λ e. unasked (subst (λ k. IsAmong k s.asks) (sym e) is))

pub point_stays : (s : Scope) (h : ℕ) (p : Point) (b : Board) → (IsAmong h s.asks → ⊥) → InScope s p → IsFrozenAt h b
    → slice_get (after_point p b).harts h ≡ slice_get b.harts h
point_stays s h (Turn g) b unasked ok frozen = stays_same h b (g ∷ []) frozen
point_stays s h (Look n) b unasked ok frozen = refl
point_stays s h (HaltReq n) b unasked ok frozen = other_asked s h n (halt_requested true) b unasked ok
point_stays s h (HaltClear n) b unasked ok frozen = other_asked s h n (halt_requested false) b unasked ok
point_stays s h (ResumeReq n) b unasked ok frozen = other_asked s h n resume_asked b unasked ok
point_stays s h Access b unasked ok frozen = refl

pub frozen_along : (h : ℕ) (old new : Board) → slice_get new.harts h ≡ slice_get old.harts h → IsFrozenAt h old → IsFrozenAt h new
frozen_along h old new same frozen x is = frozen x (sym same ∙ is)

-- its debug part is written
pub still_by : (h : ℕ) (f : DebugPart → DebugPart) (o : Option Hart) (b : Board) → slice_get b.harts h ≡ o → LeavesRunning f h b → IsFrozenAt h b
    → IsFrozenAt h (hart_over (with_debug_part f) h b)
still_by h f None b at keeps frozen x is =
    absurd (none-some x (sym (ap (option_map (with_debug_part f)) at) ∙ sym (slice_get-over_same (with_debug_part f) h b.harts) ∙ is))
still_by h f (Some y) b at keeps frozen x is =
    let k = keeps y at in
    let z : IsFrozen y.debug = frozen y at in
    subst (λ (w : Hart). IsFrozen w.debug)
    (same_Some (with_debug_part f y) x (sym (ap (option_map (with_debug_part f)) at) ∙ sym (slice_get-over_same (with_debug_part f) h b.harts) ∙ is))
    (record { why = z.why; halted = k.halted ∙ z.halted; not_asked = k.resume_request ∙ z.not_asked })

pub change_frozen : (h g : ℕ) (f : DebugPart → DebugPart) (b : Board) → LeavesRunning f g b → IsFrozenAt h b → IsFrozenAt h (hart_over (with_debug_part f) g b)
change_frozen h g f b keeps frozen = elim (cases_eq h g) [
  | inl e ↦ subst (λ n. IsFrozenAt h (hart_over (with_debug_part f) n b)) e
      (still_by h f (slice_get b.harts h) b refl (subst (λ n. LeavesRunning f n b) (sym e) keeps) frozen)
  | inr other ↦ frozen_along h b (hart_over (with_debug_part f) g b) (slice_get-over_other (with_debug_part f) g h b.harts other) frozen
]

-- so it is the same but for its debug part
change_stands : (h g : ℕ) (f : DebugPart → DebugPart) (x : Hart) (b : Board) → LeavesRunning f g b → slice_get b.harts h ≡ Some x
    → StandsStill h x (hart_over (with_debug_part f) g b)
change_stands h g f x b keeps here = elim (cases_eq h g) [
  | inl e ↦ record {
    hart = with_debug_part f x;
    here = ap (λ n. slice_get (hart_over (with_debug_part f) n b).harts h) (sym e) ∙ slice_get-over_same (with_debug_part f) h b.harts
        ∙ ap (option_map (with_debug_part f)) here;
    core = refl;
    halted = (keeps x (ap (slice_get b.harts) (sym e) ∙ here)).halted;
  }
  | inr other ↦ record { hart = x; here = slice_get-over_other (with_debug_part f) g h b.harts other ∙ here; core = refl; halted = refl }
]

pub halted_stay : HaltedStay
halted_stay s h x b points end (stays y) frozen unasked here = record { hart = x; here = here; core = refl; halted = refl }
halted_stay s h x b points end (takes p y rest last ok then) frozen unasked here =
    let same : slice_get (after_point p y).harts h ≡ slice_get y.harts h = point_stays s h p y unasked ok frozen in
    halted_stay s h x (after_point p y) rest last then (frozen_along h y (after_point p y) same frozen) unasked (same ∙ here)
halted_stay s h x b points end (puts a n v y rest last ok then) frozen unasked here = halted_stay s h x (bytes_put a n v y) rest last then frozen unasked here
halted_stay s h x b points end (changes f g y rest last ok keeps then) frozen unasked here =
    let k : StandsStill h x (hart_over (with_debug_part f) g y) = change_stands h g f x y keeps here in
    let r : StandsStill h k.hart last =
    halted_stay s h k.hart (hart_over (with_debug_part f) g y) rest last then (change_frozen h g f y keeps frozen) unasked k.here in
    record { hart = r.hart; here = r.here; core = r.core ∙ k.core; halted = r.halted ∙ k.halted }
