-- What is known of a world behind each change that a debugger makes.
use Rattle.std.proofs.Common.{◌≡◌, ◌∙◌, ℕ, Bool, true, false, not, ◌&&◌, ◌||◌, List, ◌∷◌, map, Some, slice_get, option_map, refl, sym, ap, subst}
use Rattle.std.proofs.Common.{if◌then◌else◌, inl, inr}
use Rattle.std.specs.Prelude.{◌==◌}
use Rattle.std.proofs.lemmas.Bool.{cases_eq, eq-eqb, ne_eqb}
use Rattle.std.proofs.lemmas.Option.{slice_get-map}
use Rattle.rv_model.specs.declared.slot.Slot.{Slot}
use Rattle.rv_model.specs.Board.{DebugPart, Hart, Machine}
use Rattle.rv_model.specs.Registers.{pc_number}
use Rattle.rv_model.specs.Undebugged.{SetMem, SetReg}
use Rattle.abstract_debugger.specs.FirstMatch.{FirstMatch, Story, newly_armed, story, unarmed}
use Rattle.abstract_debugger.specs.Known.{IsKnown, way_at}
use Rattle.abstract_debugger.specs.Plan.{Change, ebreak_halts, is_step, register_set, slot_changed, slot_freed, step_begun, step_ended, with_debug_part}
use Rattle.abstract_debugger.specs.Plan.Change.{WriteReg, WriteMem, ArmSlot, FreeSlot, StepOver, StepDone, EbreakHalts}
use Rattle.abstract_debugger.specs.Slots.{armed_for, freed, hits_forgotten, over, slots_back, trigger_back, trigger_forgotten, trigger_held}
use Rattle.abstract_debugger.specs.Slots.{with_slots, with_trigger}
use Rattle.abstract_debugger.specs.Trace.{Note, Past, What}
use Rattle.abstract_debugger.specs.Trace.Note.{Did, Arm, Free}
use Rattle.abstract_debugger.specs.Transcript.{World, changed}
use Rattle.abstract_debugger.specs.Ways.{Fits, IsSlot, IsSlotFor, IsSteppedSlot, Way}
use Rattle.abstract_debugger.specs.Ways.Way.{Still, Holding, Over}
use Rattle.abstract_debugger.proofs.OverLemmas.{slice_get-over_same, slice_get-over_other}
use Rattle.abstract_debugger.proofs.SlotLemmas.{CanArm, slot-armed, slot-back, slot-forgotten, slot-freed, slot-held}
use Rattle.abstract_debugger.proofs.StoryLemmas.{Alike, fits-alike, same_number, story-here, story-there}
use Rattle.abstract_debugger.proofs.Transparency.{erased-keeps}
use Rattle.abstract_debugger.proofs.KnownHarts.{ChangedAt, changed-over, known_selected}

known_changed : (m : Machine) (sel : ℕ) (way way' : Way) (c : Change) (w : World) (g : Hart → Hart) → ChangedAt sel g w.board.harts (changed c w).board.harts
    → FirstMatch m (changed c w).past → ((j : ℕ) → (j ≡ sel → ⊥) → Alike j w.past (changed c w).past)
    → ((x : Hart) → slice_get w.board.harts sel ≡ Some x → Fits way sel w.past x.debug → Fits way' sel (changed c w).past (g x).debug) → IsKnown m sel way w
    → IsKnown m sel way' (changed c w)
known_changed m sel way way' c w g at right alike moves k =
    known_selected m sel way way' w (changed c w) g k ((erased-keeps m).changes c w k.erased) right at alike moves

lift_slot : (f : Slot → Slot) (slots : List Slot) (k : ℕ) (on hit : Bool) (v : Story)
    → IsSlotFor (option_map f (slice_get slots k)) v.armed on hit v.execs v.stopped
    → IsSlotFor (slice_get (map f slots) k) v.armed on hit v.execs v.stopped
lift_slot f slots k on hit v is = subst (λ o. IsSlotFor o v.armed on hit v.execs v.stopped) (sym (slice_get-map f slots k)) is

begun_step : (h : ℕ) (past : Past) (d : DebugPart) → Fits Still h past d → Fits Holding h past (step_begun d)
begun_step h past d r = record {
  why = r.why;
  is_halted = r.is_halted;
  not_asked = r.not_asked;
  step_is = refl;
  slots_are = λ k. lift_slot (with_trigger trigger_held) d.slots k (not (story h k past).spent) (story h k past).spent (story h k past)
      (slot-held (slice_get d.slots k) (story h k past).armed true (story h k past).spent (story h k past).execs (story h k past).stopped (r.slots_are k));
}

pub known-step_over : (m : Machine) (sel : ℕ) (w : World) → IsKnown m sel Still w → IsKnown m sel Holding (changed (StepOver sel) w)
known-step_over m sel w k =
    known_changed m sel Still Holding (StepOver sel) w (with_debug_part step_begun) (changed-over sel (with_debug_part step_begun) w.board.harts) k.right
    (λ j other l. refl)
    (λ x is. begun_step sel w.past x.debug) k

on_or_hit : (m hit : Bool) → (m ≡ false → hit ≡ true) → (m || hit) ≡ true
on_or_hit true hit off = refl
on_or_hit false hit off = off refl

back_slot : (d : DebugPart) (k : ℕ) (whole : Bool) (v : Story) (s : IsSteppedSlot (slice_get d.slots k) whole v)
    → IsSlotFor (slice_get (slots_back d.slots) k) v.armed true s.hit v.execs v.stopped
back_slot d k whole v s =
    subst (λ b. IsSlotFor (slice_get (slots_back d.slots) k) v.armed b s.hit v.execs v.stopped) (on_or_hit s.m s.hit s.off)
    (lift_slot (with_trigger trigger_back) d.slots k (s.m || s.hit) s.hit v (slot-back (slice_get d.slots k) v.armed s.m s.hit v.execs v.stopped s.is))

ended_slot : (d : DebugPart) (k : ℕ) (whole : Bool) (v : Story) → IsSteppedSlot (slice_get d.slots k) whole v
    → IsSlot (slice_get (if whole then hits_forgotten (slots_back d.slots) else slots_back d.slots) k) true v.spent v
ended_slot d k true v s =
    subst (λ b. IsSlotFor (slice_get (hits_forgotten (slots_back d.slots)) k) v.armed true b v.execs v.stopped) (sym s.spent_is)
    (lift_slot (with_trigger trigger_forgotten) (slots_back d.slots) k true false v
    (slot-forgotten (slice_get (slots_back d.slots) k) v.armed true s.hit v.execs v.stopped (back_slot d k true v s)))
ended_slot d k false v s =
    subst (λ b. IsSlotFor (slice_get (slots_back d.slots) k) v.armed true b v.execs v.stopped) (sym s.spent_is) (back_slot d k false v s)

ended_step : (h : ℕ) (past : Past) (d : DebugPart) → Fits Over h past d → Fits Still h past (step_ended d)
ended_step h past d r = record {
  why = r.why;
  is_halted = r.is_halted;
  not_asked = r.not_asked;
  no_step = refl;
  slots_are = λ k. ended_slot d k (is_step d.halted) (story h k past) (r.slots_are k);
  whole = λ w k.
      let s : IsSteppedSlot (slice_get d.slots k) (is_step d.halted) (story h k past) = r.slots_are k in
      s.spent_is ∙ ap (λ b. not b && s.hit) w;
}

pub known-step_done : (m : Machine) (sel : ℕ) (w : World) → IsKnown m sel Over w → IsKnown m sel Still (changed (StepDone sel) w)
known-step_done m sel w k =
    known_changed m sel Over Still (StepDone sel) w (with_debug_part step_ended) (changed-over sel (with_debug_part step_ended) w.board.harts) k.right
    (λ j other l. refl)
    (λ x is. ended_step sel w.past x.debug) k

ebreak_fits : (h : ℕ) (past : Past) (on : Bool) (d : DebugPart) → Fits Still h past d → Fits Still h past (ebreak_halts on d)
ebreak_fits h past on d r = r

pub known-ebreak : (m : Machine) (sel : ℕ) (on : Bool) (w : World) → IsKnown m sel Still w → IsKnown m sel Still (changed (EbreakHalts sel on) w)
known-ebreak m sel on w k =
    known_changed m sel Still Still (EbreakHalts sel on) w (with_debug_part (ebreak_halts on))
    (changed-over sel (with_debug_part (ebreak_halts on)) w.board.harts) k.right (λ j other l. refl)
    (λ x is. ebreak_fits sel w.past on x.debug) k

pub known-write_mem : (m : Machine) (sel : ℕ) (way : Way) (a count v : ℕ) (w : World) → IsKnown m sel way w → IsKnown m sel way (changed (WriteMem a count v) w)
known-write_mem m sel way a count v w k = record {
  erased = (erased-keeps m).changes (WriteMem a count v) w k.erased;
  right = (tt, k.right);
  each = λ j x is. fits-alike (way_at sel way j) j w.past (Did (SetMem a count v) ∷ w.past) x.debug (λ l. refl) (k.each j x is);
}

-- a register

abbrev written_part : Bool → DebugPart → DebugPart
written_part is_pc d = if is_pc then with_slots hits_forgotten d else d

abbrev written_story : Bool → Story → Story
written_story is_pc v = record v { spent = if is_pc then false else v.spent }

written_slot : (is_pc : Bool) (d : DebugPart) (k : ℕ) (v : Story) → IsSlot (slice_get d.slots k) true v.spent v
    → IsSlot (slice_get (written_part is_pc d).slots k) true (written_story is_pc v).spent (written_story is_pc v)
written_slot true d k v is = lift_slot (with_trigger trigger_forgotten) d.slots k true false v
    (slot-forgotten (slice_get d.slots k) v.armed true v.spent v.execs v.stopped is)
written_slot false d k v is = is

written_spent : (is_pc : Bool) (v : Story) → v.spent ≡ false → (written_story is_pc v).spent ≡ false
written_spent true v is = refl
written_spent false v is = is

written_same : (is_pc : Bool) (d : DebugPart) (P : DebugPart → Type 0) → P (with_slots hits_forgotten d) → P d → P (written_part is_pc d)
written_same true d P forgotten same = forgotten
written_same false d P forgotten same = same

written_fits : (h r v : ℕ) (past : Past) (d : DebugPart) → Fits Still h past d → Fits Still h (Did (SetReg h r v) ∷ past) (written_part (r == pc_number) d)
written_fits h r v past d rests = record {
  why = rests.why;
  is_halted = written_same (r == pc_number) d (λ x. x.halted ≡ Some rests.why) rests.is_halted rests.is_halted;
  not_asked = written_same (r == pc_number) d (λ x. x.resume_request ≡ false) rests.not_asked rests.not_asked;
  no_step = written_same (r == pc_number) d (λ x. x.step ≡ false) rests.no_step rests.no_step;
  slots_are = λ k. subst (λ (u : Story). IsSlot (slice_get (written_part (r == pc_number) d).slots k) true u.spent u)
      (sym (story-here h k (Did (SetReg h r v)) past (same_number h))) (written_slot (r == pc_number) d k (story h k past) (rests.slots_are k));
  whole = λ w k. ap (λ (u : Story). u.spent) (story-here h k (Did (SetReg h r v)) past (same_number h))
      ∙ written_spent (r == pc_number) (story h k past) (rests.whole (written_same (r == pc_number) d (λ x. is_step x.halted ≡ true → is_step d.halted ≡ true)
      (λ e. e) (λ e. e) w) k);
}

pub known-write_reg : (m : Machine) (sel r v : ℕ) (w : World) → IsKnown m sel Still w → IsKnown m sel Still (changed (WriteReg sel r v) w)
known-write_reg m sel r v w k =
    known_changed m sel Still Still (WriteReg sel r v) w (register_set r v) (changed-over sel (register_set r v) w.board.harts) (tt, k.right)
    (λ j other l. story-there j l (Did (SetReg sel r v)) w.past (ne_eqb j sel other)) (λ x is. written_fits sel r v w.past x.debug) k

-- a slot

told_at : (k slot : ℕ) (new old : Story) → k ≡ slot → (if k == slot then new else old) ≡ new
told_at k slot new old is = ap (λ b. if b then new else old) (eq-eqb k slot is)

told_other : (k slot : ℕ) (new old : Story) → (k ≡ slot → ⊥) → (if k == slot then new else old) ≡ old
told_other k slot new old other = ap (λ b. if b then new else old) (ne_eqb k slot other)

-- one slot of a hart that rests, and its story, are new
slot_fits : (h slot : ℕ) (past : Past) (n : Note) (new : Story) (f : Slot → Slot) (d : DebugPart) (s : Slot) → slice_get d.slots slot ≡ Some s
    → ((k : ℕ) → story h k (n ∷ past) ≡ (if k == slot then new else story h k past)) → new.spent ≡ false → IsSlot (Some (f s)) true new.spent new
    → Fits Still h past d → Fits Still h (n ∷ past) (with_slots (over slot f) d)
slot_fits h slot past n new f d s there tells unspent is rests = record {
  why = rests.why;
  is_halted = rests.is_halted;
  not_asked = rests.not_asked;
  no_step = rests.no_step;
  slots_are = λ k. subst (λ (u : Story). IsSlot (slice_get (over slot f d.slots) k) true u.spent u) (sym (tells k)) (elim (cases_eq k slot) [
    | inl e ↦ subst (λ (u : Story). IsSlot (slice_get (over slot f d.slots) k) true u.spent u) (sym (told_at k slot new (story h k past) e))
        (subst (λ o. IsSlot o true new.spent new) (sym (ap (slice_get (over slot f d.slots)) e ∙ slice_get-over_same f slot d.slots
        ∙ ap (option_map f) there)) is)
    | inr other ↦ subst (λ (u : Story). IsSlot (slice_get (over slot f d.slots) k) true u.spent u) (sym (told_other k slot new (story h k past) other))
        (subst (λ o. IsSlot o true (story h k past).spent (story h k past)) (sym (slice_get-over_other f slot k d.slots other)) (rests.slots_are k))
  ]);
  whole = λ w k. ap (λ (u : Story). u.spent) (tells k) ∙ either (k == slot) new.spent (story h k past).spent new (story h k past) unspent (rests.whole w k);
}
  where
    either : (b : Bool) (x y : Bool) (u v : Story) → u.spent ≡ false → v.spent ≡ false → (if b then u else v).spent ≡ false
    either true x y u v e e' = e
    either false x y u v e e' = e'

abbrev pub HasSlot : ℕ → ℕ → World → Type 0
HasSlot h slot w = (x : Hart) → slice_get w.board.harts h ≡ Some x → (s : Slot) × (slice_get x.debug.slots slot ≡ Some s)

pub known-arm : (m : Machine) (sel slot : ℕ) (what : What) (w : World) → CanArm what → HasSlot sel slot w → IsKnown m sel Still w
    → IsKnown m sel Still (changed (ArmSlot sel slot what) w)
known-arm m sel slot what w can there k =
    known_changed m sel Still Still (ArmSlot sel slot what) w (with_debug_part (slot_changed slot what))
    (changed-over sel (with_debug_part (slot_changed slot what)) w.board.harts) (tt, k.right)
    (λ j other l. story-there j l (Arm sel slot what) w.past (ne_eqb j sel other))
    (λ x is. slot_fits sel slot w.past (Arm sel slot what) (newly_armed what) (armed_for what) x.debug (there x is).0 (there x is).1
    (λ l. story-here sel l (Arm sel slot what) w.past (same_number sel)) refl (slot-armed what (there x is).0 can)) k

pub known-free : (m : Machine) (sel slot : ℕ) (w : World) → HasSlot sel slot w → IsKnown m sel Still w → IsKnown m sel Still (changed (FreeSlot sel slot) w)
known-free m sel slot w there k =
    known_changed m sel Still Still (FreeSlot sel slot) w (with_debug_part (slot_freed slot))
    (changed-over sel (with_debug_part (slot_freed slot)) w.board.harts) (tt, k.right)
    (λ j other l. story-there j l (Free sel slot) w.past (ne_eqb j sel other))
    (λ x is. slot_fits sel slot w.past (Free sel slot) unarmed freed x.debug (there x is).0 (there x is).1
    (λ l. story-here sel l (Free sel slot) w.past (same_number sel)) refl (slot-freed (there x is).0 true)) k
