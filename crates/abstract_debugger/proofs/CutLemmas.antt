-- The board of a replay where no point follows, while its plan changes one frozen hart.
use Rattle.std.proofs.Common.{◌≡◌, ◌∙◌, ℕ, zero, suc, List, [], ◌∷◌, Option, Some, None, option_map, slice_get, refl, sym, ap, subst, inl, inr}
use Rattle.std.proofs.lemmas.Option.{none-some, same_Some}
use Rattle.rv_model.specs.Board.{Board, Hart}
use Rattle.rv_model.specs.Core.{Core}
use Rattle.rv_model.specs.Registers.{reg_written}
use Rattle.abstract_debugger.specs.Laws.{CutBoards, IsChangeOf, IsFrozen, IsFrozenAt, IsWritten, WritesOnly}
use Rattle.abstract_debugger.specs.Plan.{Change, Plan, changed_board, hart_over}
use Rattle.abstract_debugger.specs.Plan.Change.{WriteReg, WriteMem, ArmSlot, FreeSlot, StepOver, StepDone, EbreakHalts, Patch}
use Rattle.abstract_debugger.specs.Plan.Plan.{take, on_path, see, change, say, stop}
use Rattle.abstract_debugger.specs.Slots.{over}
use Rattle.abstract_debugger.specs.Transcript.{World, changed, replay, said}
use Rattle.abstract_debugger.specs.Turns.{after_turns, turns}
use Rattle.abstract_debugger.proofs.FrozenLemmas.{changed_hart, hart_change, hart_change-frozen, may_wait}
use Rattle.abstract_debugger.proofs.OverLemmas.{over_twice, slice_get-over_same}
use Rattle.abstract_debugger.proofs.QuietLemmas.{finish-board, taking-board}

-- a replay that stands at a board that is f over another one, and what it ends at
record Ends (n : Option ℕ) (h : ℕ) (b : Board) (harts : List ℕ) (end : Board) : Type 0 where
  f : Hart → Hart
  written : (x : Hart) → IsWritten n x.core (f x).core
  is : end ≡ hart_over f h (after_turns harts b)

over_id : (h : ℕ) (hs : List Hart) → over h (λ x. x) hs ≡ hs
over_id h [] = refl
over_id zero (x ∷ xs) = refl
over_id (suc h) (x ∷ xs) = ap (λ (l : List Hart). x ∷ l) (over_id h xs)

with_harts : Board → List Hart → Board
with_harts b hs = record b { harts = hs }

same : (n : Option ℕ) (c : Core) → IsWritten n c c
same None c = refl
same (Some r) c = inl refl

nothing : (n : Option ℕ) (h : ℕ) (b : Board) (harts : List ℕ) (end : Board) → end ≡ after_turns harts b → Ends n h b harts end
unfolding with_harts
nothing n h b harts end is = record {
  f = λ x. x;
  written = λ x. same n x.core;
  is = is
      ∙ ap (with_harts (after_turns harts b)) (sym (over_id h (after_turns harts b).harts));
}

moved_hart : (o : Option Hart) (g : Hart → Hart) (x : Hart) → ((y : Hart) → o ≡ Some y → IsFrozen y.debug)
    → ((y : Hart) → IsFrozen y.debug → IsFrozen (g y).debug) → option_map g o ≡ Some x → IsFrozen x.debug
moved_hart None g x frozen keeps is = absurd (none-some x is)
moved_hart (Some y) g x frozen keeps is = subst (λ (z : Hart). IsFrozen z.debug) (same_Some (g y) x is) (keeps y (frozen y refl))

-- behind a change of the hart it is frozen still
moved_frozen : (g : Hart → Hart) (h : ℕ) (b : Board) → ((y : Hart) → IsFrozen y.debug → IsFrozen (g y).debug) → IsFrozenAt h b → IsFrozenAt h (hart_over g h b)
moved_frozen g h b keeps frozen x is = moved_hart (slice_get b.harts h) g x frozen keeps (sym (slice_get-over_same g h b.harts) ∙ is)

-- a change in front of what follows
changed_ends : (n k : Option ℕ) (h : ℕ) (c : Change) (b : Board) (harts : List ℕ) (end : Board) → IsChangeOf h c → IsFrozenAt h b
    → ((x : Hart) (d : Core) → IsWritten k (hart_change c x).core d → IsWritten n x.core d) → Ends k h (changed_board c b) harts end → Ends n h b harts end
unfolding with_harts
changed_ends n k h c b harts end of_h frozen writes e = record {
  f = λ x. e.f (hart_change c x);
  written = λ x. writes x (e.f (hart_change c x)).core (e.written (hart_change c x));
  is = e.is ∙ ap (hart_over e.f h) (ap (after_turns harts) (changed_hart c h b of_h) ∙ may_wait (hart_change c) h b harts frozen (hart_change-frozen c))
      ∙ ap (with_harts (after_turns harts b)) (over_twice (hart_change c) e.f h (after_turns harts b).harts);
}

changed_frozen : (c : Change) (h : ℕ) (b : Board) → IsChangeOf h c → IsFrozenAt h b → IsFrozenAt h (changed_board c b)
changed_frozen c h b of_h frozen = subst (IsFrozenAt h) (sym (changed_hart c h b of_h)) (moved_frozen (hart_change c) h b (hart_change-frozen c) frozen)

write_is : (n : Option ℕ) (r v : ℕ) (c d : Core) → n ≡ Some r → d ≡ reg_written c r v → IsWritten n c d
write_is n r v c d is e = subst (λ m. IsWritten m c d) (sym is) (inr (v, e))

ends : (plan : Plan) (w : World) (h : ℕ) (n : Option ℕ) (harts : List ℕ) → WritesOnly h n plan → IsFrozenAt h w.board
    → Ends n h w.board harts (replay plan w (turns harts)).world.board
unfolding replay
ends (take point next) w h n harts only frozen = nothing n h w.board harts _ (taking-board point (replay next) w harts)
ends (on_path path next) w h n harts only frozen = ends next w h n harts only frozen
ends (see next) w h n harts only frozen = ends (next w.board) w h n harts (only w.board) frozen
ends (change (WriteReg j r v) next) w h n harts only frozen =
    changed_ends n None h (WriteReg j r v) w.board harts _ only.0 frozen (λ x d e. write_is n r v x.core d only.1 e)
    (ends next (changed (WriteReg j r v) w) h None harts only.2 (changed_frozen (WriteReg j r v) h w.board only.0 frozen))
ends (change (WriteMem a count v) next) w h n harts only frozen = absurd only
ends (change (ArmSlot j slot what) next) w h n harts only frozen =
    changed_ends n n h (ArmSlot j slot what) w.board harts _ only.0 frozen (λ x d e. e)
    (ends next (changed (ArmSlot j slot what) w) h n harts only.1 (changed_frozen (ArmSlot j slot what) h w.board only.0 frozen))
ends (change (FreeSlot j slot) next) w h n harts only frozen =
    changed_ends n n h (FreeSlot j slot) w.board harts _ only.0 frozen (λ x d e. e)
    (ends next (changed (FreeSlot j slot) w) h n harts only.1 (changed_frozen (FreeSlot j slot) h w.board only.0 frozen))
ends (change (StepOver j) next) w h n harts only frozen =
    changed_ends n n h (StepOver j) w.board harts _ only.0 frozen (λ x d e. e)
    (ends next (changed (StepOver j) w) h n harts only.1 (changed_frozen (StepOver j) h w.board only.0 frozen))
ends (change (StepDone j) next) w h n harts only frozen =
    changed_ends n n h (StepDone j) w.board harts _ only.0 frozen (λ x d e. e)
    (ends next (changed (StepDone j) w) h n harts only.1 (changed_frozen (StepDone j) h w.board only.0 frozen))
ends (change (EbreakHalts j on) next) w h n harts only frozen =
    changed_ends n n h (EbreakHalts j on) w.board harts _ only.0 frozen (λ x d e. e)
    (ends next (changed (EbreakHalts j on) w) h n harts only.1 (changed_frozen (EbreakHalts j on) h w.board only.0 frozen))
ends (change (Patch a original covers) next) w h n harts only frozen = absurd only
ends (say line next) w h n harts only frozen = ends next (said line w) h n harts only frozen
ends (stop e) w h n harts only frozen = nothing n h w.board harts _ (finish-board e w harts)

pub cut_boards : CutBoards
cut_boards plan w h n harts only frozen =
    let e : Ends n h w.board harts (replay plan w (turns harts)).world.board = ends plan w h n harts only frozen in
    (e.f, e.written, e.is)
