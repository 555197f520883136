-- Facts about the switch of ebreaks of every hart: points and most changes leave it as it was.
use Rattle.std.proofs.Common.{◌≡◌, ◌∙◌, ℕ, Bool, true, false, List, Option, Some, None, slice_get, option_map, refl, sym, subst, inl, inr, if◌then◌else◌}
use Rattle.std.proofs.lemmas.Bool.{cases_eq}
use Rattle.std.proofs.lemmas.Option.{none-some, same_Some}
use Rattle.std.specs.Prelude.{◌==◌}
use Rattle.rv_model.specs.declared.cause.Cause.{Cause}
use Rattle.rv_model.specs.declared.touch.Touch.{Touch}
use Rattle.rv_model.specs.Board.{Board, DebugPart, Hart}
use Rattle.rv_model.specs.Effects.{Outcome}
use Rattle.rv_model.specs.Memory.{Memory}
use Rattle.rv_model.specs.Registers.{pc_number}
use Rattle.rv_model.specs.Turn.{place_by, turn_outcome}
use Rattle.debug_model.specs.Journal.{debug_changed_by, halt_requested, resume_asked, resume_asked_by, with_debug}
use Rattle.debug_model.specs.declared.point.Point.{Point}
use Rattle.debug_model.specs.declared.point.Point.TheVariants.{Turn, Look, HaltReq, HaltClear, ResumeReq, Access}
use Rattle.abstract_debugger.specs.Plan.{Change, changed_board, ebreak_halts, register_set, slot_changed, slot_freed, step_begun, step_ended, with_debug_part}
use Rattle.abstract_debugger.specs.Plan.Change.{WriteReg, WriteMem, ArmSlot, FreeSlot, StepOver, StepDone, EbreakHalts, Patch}
use Rattle.abstract_debugger.specs.Slots.{hits_forgotten, with_slots}
use Rattle.abstract_debugger.specs.Transcript.{World}
use Rattle.abstract_debugger.proofs.KnownHarts.{ChangedAt, changed-over, changed-set}
use Rattle.soft_laws.specs.SoftBreaks.{covered}
use Rattle.soft_laws.specs.SoftReplay.{soft_passed}
use Rattle.soft_laws.specs.SoftTurns.{soft_fires, soft_place, soft_stops, soft_touch, soft_turn_by}

-- of each hart, by its number and whether it halts at an ebreak
abbrev pub Each : (ℕ → Bool → Type 0) → List Hart → Type 0
Each F harts = (h : ℕ) (x : Hart) → slice_get harts h ≡ Some x → F h x.debug.ebreakm

moved_here : (F : ℕ → Bool → Type 0) (h : ℕ) (g : Hart → Hart) (o : Option Hart) (x : Hart) → option_map g o ≡ Some x
    → ((y : Hart) → o ≡ Some y → F h y.debug.ebreakm) → ((y : Hart) → F h y.debug.ebreakm → F h (g y).debug.ebreakm) → F h x.debug.ebreakm
moved_here F h g None x is each moves = absurd (none-some x is)
moved_here F h g (Some y) x is each moves = subst (λ (z : Hart). F h z.debug.ebreakm) (same_Some (g y) x is) (moves y (each y refl))

pub each-changed_at : (F : ℕ → Bool → Type 0) (h : ℕ) (g : Hart → Hart) (old new : List Hart) → ChangedAt h g old new
    → ((y : Hart) → F h y.debug.ebreakm → F h (g y).debug.ebreakm) → Each F old → Each F new
each-changed_at F h g old new at moves each j x is = elim (cases_eq j h) [
  | inl e ↦ subst (λ n. slice_get new n ≡ Some x → F n x.debug.ebreakm) (sym e)
      (λ here. moved_here F h g (slice_get old h) x (sym at.here ∙ here) (each h) moves) is
  | inr other ↦ each j x (sym (at.others j other) ∙ is)
]

-- a change that leaves the switch
abbrev Leaves : (Hart → Hart) → Type 0
Leaves g = (y : Hart) → (g y).debug.ebreakm ≡ y.debug.ebreakm

left : (F : ℕ → Bool → Type 0) (h : ℕ) (g : Hart → Hart) → Leaves g → (y : Hart) → F h y.debug.ebreakm → F h (g y).debug.ebreakm
left F h g leaves y is = subst (F h) (sym (leaves y)) is

-- ---- a turn

stepped_leaves : (b : Bool) (d e : DebugPart) → d.ebreakm ≡ e.ebreakm → (if b then d else e).ebreakm ≡ e.ebreakm
stepped_leaves true d e same = same
stepped_leaves false d e same = refl

place_leaves : (halted : Option Cause) (resume request fired at_ebreak : Bool) (t : Touch) (o : Outcome) (x : Hart)
    → (place_by halted resume request fired at_ebreak t o x).hart.debug.ebreakm ≡ x.debug.ebreakm
place_leaves (Some why) true request fired at_ebreak t o x = refl
place_leaves (Some why) false request fired at_ebreak t o x = refl
place_leaves None resume true fired at_ebreak t o x = refl
place_leaves None resume false true at_ebreak t o x = refl
place_leaves None resume false false true t o x = refl
place_leaves None resume false false false t o x = stepped_leaves x.debug.step _ _ refl

soft_place_leaves : (cs : List ℕ) (m : Memory) → Leaves (λ y. (soft_place cs y m).hart)
unfolding soft_place
soft_place_leaves cs m y =
    place_leaves y.debug.halted y.debug.resume_request y.debug.halt_request (soft_fires cs y m) (soft_stops cs y m) (soft_touch cs y.core m)
    (turn_outcome y m) y

turned_each : (F : ℕ → Bool → Type 0) (cs : List ℕ) (o : Option Hart) (h : ℕ) (b : Board) → slice_get b.harts h ≡ o → Each F b.harts
    → Each F (soft_turn_by cs o h b).harts
turned_each F cs None h b is each = each
turned_each F cs (Some x) h b is each =
    each-changed_at F h (λ y. (soft_place cs y b.memory).hart) b.harts _ (changed-set (Some x) h (λ y. (soft_place cs y b.memory).hart) b.harts is)
    (left F h (λ y. (soft_place cs y b.memory).hart) (soft_place_leaves cs b.memory)) each

asked_each : (F : ℕ → Bool → Type 0) (f : DebugPart → DebugPart) → ((d : DebugPart) → (f d).ebreakm ≡ d.ebreakm) → (o : Option Hart) (h : ℕ) (b : Board)
    → slice_get b.harts h ≡ o → Each F b.harts → Each F (debug_changed_by o f h b).harts
asked_each F f leaves None h b is each = each
asked_each F f leaves (Some x) h b is each =
    each-changed_at F h (with_debug f) b.harts _ (changed-set (Some x) h (with_debug f) b.harts is) (left F h (with_debug f) (λ y. leaves y.debug)) each

resume_leaves : (o : Option Cause) (d : DebugPart) → (resume_asked_by o d).ebreakm ≡ d.ebreakm
resume_leaves (Some why) d = refl
resume_leaves None d = refl

pub each-passed : (F : ℕ → Bool → Type 0) (q : Point) (w : World) → Each F w.board.harts → Each F (soft_passed q w).board.harts
each-passed F (Turn h) w each = turned_each F (covered w.past) (slice_get w.board.harts h) h w.board refl each
each-passed F (Look n) w each = each
each-passed F (HaltReq h) w each = asked_each F (halt_requested true) (λ d. refl) (slice_get w.board.harts h) h w.board refl each
each-passed F (HaltClear h) w each = asked_each F (halt_requested false) (λ d. refl) (slice_get w.board.harts h) h w.board refl each
each-passed F (ResumeReq h) w each = asked_each F resume_asked (λ d. resume_leaves d.halted d) (slice_get w.board.harts h) h w.board refl each
each-passed F Access w each = each

-- ---- a change

written_leaves : (b : Bool) (d : DebugPart) → (if b then with_slots hits_forgotten d else d).ebreakm ≡ d.ebreakm
written_leaves true d = refl
written_leaves false d = refl

-- what the switch that a change sets has to keep, if it sets one
abbrev pub Switches : (ℕ → Bool → Type 0) → Change → Type 0
Switches F (EbreakHalts h on) = (before : Bool) → F h before → F h on
Switches F (WriteReg h r v) = Unit {0}
Switches F (WriteMem a count v) = Unit {0}
Switches F (ArmSlot h slot what) = Unit {0}
Switches F (FreeSlot h slot) = Unit {0}
Switches F (StepOver h) = Unit {0}
Switches F (StepDone h) = Unit {0}
Switches F (Patch a original covers) = Unit {0}

pub each-changed : (F : ℕ → Bool → Type 0) (c : Change) (b : Board) → Switches F c → Each F b.harts → Each F (changed_board c b).harts
each-changed F (WriteReg h r v) b sw each =
    each-changed_at F h (register_set r v) b.harts _ (changed-over h (register_set r v) b.harts)
    (left F h (register_set r v) (λ y. written_leaves (r == pc_number) y.debug)) each
each-changed F (WriteMem a count v) b sw each = each
each-changed F (ArmSlot h slot what) b sw each =
    each-changed_at F h (with_debug_part (slot_changed slot what)) b.harts _ (changed-over h (with_debug_part (slot_changed slot what)) b.harts)
    (left F h (with_debug_part (slot_changed slot what)) (λ y. refl)) each
each-changed F (FreeSlot h slot) b sw each =
    each-changed_at F h (with_debug_part (slot_freed slot)) b.harts _ (changed-over h (with_debug_part (slot_freed slot)) b.harts)
    (left F h (with_debug_part (slot_freed slot)) (λ y. refl)) each
each-changed F (StepOver h) b sw each =
    each-changed_at F h (with_debug_part step_begun) b.harts _ (changed-over h (with_debug_part step_begun) b.harts)
    (left F h (with_debug_part step_begun) (λ y. refl)) each
each-changed F (StepDone h) b sw each =
    each-changed_at F h (with_debug_part step_ended) b.harts _ (changed-over h (with_debug_part step_ended) b.harts)
    (left F h (with_debug_part step_ended) (λ y. refl)) each
each-changed F (EbreakHalts h on) b sw each =
    each-changed_at F h (with_debug_part (ebreak_halts on)) b.harts _ (changed-over h (with_debug_part (ebreak_halts on)) b.harts)
    (λ y is. sw y.debug.ebreakm is) each
each-changed F (Patch a original covers) b sw each = each

-- the switch of one hart, where other things are known behind it
pub each-switched : (F G : ℕ → Bool → Type 0) (h : ℕ) (on : Bool) (b : Board) → G h on → ((j : ℕ) (e : Bool) → (j ≡ h → ⊥) → F j e → G j e) → Each F b.harts
    → Each G (changed_board (EbreakHalts h on) b).harts
each-switched F G h on b here others each j x is = elim (cases_eq j h) [
  | inl e ↦ subst (λ n. slice_get (changed_board (EbreakHalts h on) b).harts n ≡ Some x → G n x.debug.ebreakm) (sym e)
      (λ at. by (slice_get b.harts h) (sym (changed-over h (with_debug_part (ebreak_halts on)) b.harts).here ∙ at)) is
  | inr other ↦ others j x.debug.ebreakm other (each j x (sym ((changed-over h (with_debug_part (ebreak_halts on)) b.harts).others j other) ∙ is))
]
  where
    by : (o : Option Hart) → option_map (with_debug_part (ebreak_halts on)) o ≡ Some x → G h x.debug.ebreakm
    by None at = absurd (none-some x at)
    by (Some y) at = subst (λ (z : Hart). G h z.debug.ebreakm) (same_Some (with_debug_part (ebreak_halts on) y) x at) here
