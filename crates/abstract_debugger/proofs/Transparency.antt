-- The machine of a replay's board is the undebugged run of its own entries, whatever the plan, the journal and the end: no change of a plan lets a step mask
-- its interrupts.
use Rattle.std.proofs.Common.{◌≡◌, ◌∙◌, ℕ, zero, suc, List, [], ◌∷◌, ◌++◌, Bool, true, false, Option, Some, None, slice_get, slice_set, refl, sym, ap}
use Rattle.std.proofs.Common.{not, ◌&&◌, ◌==◌, subst, if◌then◌else◌}
use Rattle.std.proofs.lemmas.Option.{same_Some}
use Rattle.rv_model.specs.declared.cause.Cause.{Cause}
use Rattle.rv_model.specs.Board.{Board, DebugPart, Hart, Machine, cores, execute, machine_of}
use Rattle.rv_model.specs.Core.{Core}
use Rattle.rv_model.specs.Memory.{Memory}
use Rattle.rv_model.specs.Registers.{pc_number, reg_written}
use Rattle.rv_model.specs.Touch.{touch_of}
use Rattle.rv_model.specs.Triggers.{fires}
use Rattle.rv_model.specs.Turn.{executes, executes_by, executes_here, masks_interrupts, some_fires, stops_at_ebreak}
use Rattle.rv_model.specs.TurnLaws.{StepsUnmasked}
use Rattle.rv_model.specs.Undebugged.{Entry, SetReg, SetMem, entered, undebugged, with_reg}
use Rattle.rv_model.proofs.BoardLemmas.{undebugged-append}
use Rattle.debug_model.specs.Journal.{machine_after_point}
use Rattle.debug_model.specs.declared.point.Point.{Point}
use Rattle.debug_model.specs.declared.point.Point.TheVariants.{Turn, Look, HaltReq, HaltClear, ResumeReq, Access}
use Rattle.debug_model.proofs.JournalLemmas.{points_forget_debugging, points_keep_unmasked}
use Rattle.abstract_debugger.specs.Known.{Erased}
use Rattle.abstract_debugger.specs.Laws.{FreshBoardsAreUnmasked, PastsAreUndebugged, ReplaysKeepUnmasked, Transparent}
use Rattle.abstract_debugger.specs.Own.{lived, own}
use Rattle.abstract_debugger.specs.Plan.{Change, Plan, changed_board, changed_past, ebreak_halts, hart_over, register_set, slot_changed, slot_freed}
use Rattle.abstract_debugger.specs.Plan.{patch_bytes, step_begun, step_ended, with_debug_part}
use Rattle.abstract_debugger.specs.Plan.Change.{WriteReg, WriteMem, ArmSlot, FreeSlot, StepOver, StepDone, EbreakHalts, Patch}
use Rattle.abstract_debugger.specs.Slots.{hits_forgotten, over, with_slots}
use Rattle.abstract_debugger.specs.Trace.{Note, Past, noted, noted_by, noted_here, trace_of}
use Rattle.abstract_debugger.specs.Trace.Note.{Did, Stop, Arm, Free, Patched}
use Rattle.abstract_debugger.specs.Transcript.{World, replay, start}
use Rattle.abstract_debugger.proofs.Keeps.{Keeps, replay-keeps}

-- ---- entries in order, and a past

own-append : (xs ys : List Note) → own (xs ++ ys) ≡ own xs ++ own ys
own-append [] ys = refl
own-append (Did entry ∷ xs) ys = ap (λ (es : List Entry). entry ∷ es) (own-append xs ys)
own-append (Stop h why slots ∷ xs) ys = own-append xs ys
own-append (Arm h slot what ∷ xs) ys = own-append xs ys
own-append (Free h slot ∷ xs) ys = own-append xs ys
own-append (Patched a covers ∷ xs) ys = own-append xs ys

own_last : (m : Machine) (past : Past) (n : Note) → undebugged m (own (trace_of past ++ n ∷ [])) ≡ undebugged
    (undebugged m (own (trace_of past))) (own (n ∷ []))
own_last m past n = ap (undebugged m) (own-append (trace_of past) (n ∷ [])) ∙ undebugged-append m (own (trace_of past)) (own (n ∷ []))

pub pasts_are_undebugged : PastsAreUndebugged
pasts_are_undebugged m [] = refl
pasts_are_undebugged m (Did entry ∷ past) = own_last m past (Did entry) ∙ ap (entered entry) (pasts_are_undebugged m past)
pasts_are_undebugged m (Stop h why slots ∷ past) = own_last m past (Stop h why slots) ∙ pasts_are_undebugged m past
pasts_are_undebugged m (Arm h slot what ∷ past) = own_last m past (Arm h slot what) ∙ pasts_are_undebugged m past
pasts_are_undebugged m (Free h slot ∷ past) = own_last m past (Free h slot) ∙ pasts_are_undebugged m past
pasts_are_undebugged m (Patched a covers ∷ past) = own_last m past (Patched a covers) ∙ pasts_are_undebugged m past

-- ---- a point

pub noted_by-lived : (halted : Option Cause) (resume request fired at_ebreak step : Bool) (h : ℕ) (slots : List Bool) (past : Past) (m now : Machine)
    → now ≡ lived m past → (if executes_by halted resume request fired at_ebreak then execute h now else now) ≡ lived m
    (noted_by halted request fired at_ebreak step h slots past)
noted_by-lived (Some why) true request fired at_ebreak step h slots past m now is = is
noted_by-lived (Some why) false request fired at_ebreak step h slots past m now is = is
noted_by-lived None resume true fired at_ebreak step h slots past m now is = is
noted_by-lived None resume false true at_ebreak step h slots past m now is = is
noted_by-lived None resume false false true step h slots past m now is = is
noted_by-lived None resume false false false true h slots past m now is = ap (execute h) is
noted_by-lived None resume false false false false h slots past m now is = ap (execute h) is

noted_here-lived : (o : Option Hart) (h : ℕ) (memory : Memory) (past : Past) (m now : Machine)
    → now ≡ lived m past → (if executes_here o memory then execute h now else now) ≡ lived m (noted_here o h memory past)
unfolding executes
noted_here-lived None h memory past m now is = is
noted_here-lived (Some hart) h memory past m now is =
    noted_by-lived hart.debug.halted hart.debug.resume_request hart.debug.halt_request (some_fires (touch_of hart.core memory) hart)
    (stops_at_ebreak hart memory) hart.debug.step
    h (fires (touch_of hart.core memory) hart.debug.slots) past m now is

pub point-lived : (q : Point) (b : Board) (past : Past) (m : Machine) → machine_of b ≡ lived m past → machine_after_point q b ≡ lived m (noted q b past)
point-lived (Turn h) b past m is = noted_here-lived (slice_get b.harts h) h b.memory past m (machine_of b) is
point-lived (Look n) b past m is = is
point-lived (HaltReq h) b past m is = is
point-lived (HaltClear h) b past m is = is
point-lived (ResumeReq h) b past m is = is
point-lived Access b past m is = is

-- ---- a change

abbrev with_cores : Memory → List Core → Machine
with_cores memory cs = record { cores = cs; memory = memory }

over-debug : (f : DebugPart → DebugPart) (h : ℕ) (hs : List Hart) → cores (over h (with_debug_part f) hs) ≡ cores hs
over-debug f h [] = refl
over-debug f zero (x ∷ xs) = refl
over-debug f (suc h) (x ∷ xs) = ap (λ (cs : List Core). x.core ∷ cs) (over-debug f h xs)

debug-lived : (f : DebugPart → DebugPart) (h : ℕ) (b : Board) → machine_of (hart_over (with_debug_part f) h b) ≡ machine_of b
debug-lived f h b = ap (with_cores b.memory) (over-debug f h b.harts)

abbrev cores_written : Option Core → ℕ → ℕ → ℕ → List Core → List Core
cores_written (Some c) h r v cs = slice_set cs h (reg_written c r v)
cores_written None h r v cs = cs

written-suc : (o : Option Core) (h r v : ℕ) (c : Core) (cs : List Core) → c ∷ cores_written o h r v cs ≡ cores_written o (suc h) r v (c ∷ cs)
written-suc (Some x) h r v c cs = refl
written-suc None h r v c cs = refl

over-written : (h r v : ℕ) (hs : List Hart) → cores (over h (register_set r v) hs) ≡ cores_written (slice_get (cores hs) h) h r v (cores hs)
over-written h r v [] = refl
over-written zero r v (x ∷ xs) = refl
over-written (suc h) r v (x ∷ xs) = ap (λ (cs : List Core). x.core ∷ cs) (over-written h r v xs) ∙ written-suc (slice_get (cores xs) h) h r v x.core (cores xs)

entered-written : (o : Option Core) (h r v : ℕ) (m : Machine) → with_cores m.memory (cores_written o h r v m.cores) ≡ with_reg o h r v m
entered-written (Some x) h r v m = refl
entered-written None h r v m = refl

register-lived : (h r v : ℕ) (b : Board) → machine_of (hart_over (register_set r v) h b) ≡ entered (SetReg h r v) (machine_of b)
register-lived h r v b =
    ap (with_cores b.memory) (over-written h r v b.harts) ∙ entered-written (slice_get (cores b.harts) h) h r v (machine_of b)

pub change-lived : (c : Change) (b : Board) (past : Past) (m : Machine) → machine_of b ≡ lived m past
    → machine_of (changed_board c b) ≡ lived m (changed_past c past)
change-lived (WriteReg h r v) b past m is = register-lived h r v b ∙ ap (entered (SetReg h r v)) is
change-lived (WriteMem a count v) b past m is = ap (entered (SetMem a count v)) is
change-lived (ArmSlot h slot what) b past m is = debug-lived (slot_changed slot what) h b ∙ is
change-lived (FreeSlot h slot) b past m is = debug-lived (slot_freed slot) h b ∙ is
change-lived (StepOver h) b past m is = debug-lived step_begun h b ∙ is
change-lived (StepDone h) b past m is = debug-lived step_ended h b ∙ is
change-lived (EbreakHalts h on) b past m is = debug-lived (ebreak_halts on) h b ∙ is
change-lived (Patch a original covers) b past m is = ap (entered (SetMem a patch_bytes original)) is

-- ---- no change lets a step mask its interrupts

unmasked-over : (f : Hart → Hart) (h : ℕ) (hs : List Hart) → ((x : Hart) → masks_interrupts x.debug ≡ false → masks_interrupts (f x).debug ≡ false)
    → ((j : ℕ) (x : Hart) → slice_get hs j ≡ Some x → masks_interrupts x.debug ≡ false) → (j : ℕ) (x : Hart) → slice_get (over h f hs) j ≡ Some x
    → masks_interrupts x.debug ≡ false
unmasked-over f h [] goes each j x is = each j x is
unmasked-over f zero (y ∷ ys) goes each zero x is =
    subst (λ (z : Hart). masks_interrupts z.debug ≡ false) (same_Some (f y) x is) (goes y (each zero y refl))
unmasked-over f zero (y ∷ ys) goes each (suc j) x is = each (suc j) x is
unmasked-over f (suc h) (y ∷ ys) goes each zero x is = each zero x is
unmasked-over f (suc h) (y ∷ ys) goes each (suc j) x is = unmasked-over f h ys goes (λ k. each (suc k)) j x is

written_masks : (is_pc : Bool) (d : DebugPart) → masks_interrupts (if is_pc then with_slots hits_forgotten d else d) ≡ masks_interrupts d
written_masks true d = refl
written_masks false d = refl

change-unmasked : (c : Change) (b : Board) → StepsUnmasked b → StepsUnmasked (changed_board c b)
change-unmasked (WriteReg h r v) b each =
    unmasked-over (register_set r v) h b.harts (λ x is. written_masks (r == pc_number) x.debug ∙ is) each
change-unmasked (WriteMem a count v) b each = each
change-unmasked (ArmSlot h slot what) b each = unmasked-over (with_debug_part (slot_changed slot what)) h b.harts (λ x is. is) each
change-unmasked (FreeSlot h slot) b each = unmasked-over (with_debug_part (slot_freed slot)) h b.harts (λ x is. is) each
change-unmasked (StepOver h) b each = unmasked-over (with_debug_part step_begun) h b.harts (λ x is. refl) each
change-unmasked (StepDone h) b each = unmasked-over (with_debug_part step_ended) h b.harts (λ x is. refl) each
change-unmasked (EbreakHalts h on) b each = unmasked-over (with_debug_part (ebreak_halts on)) h b.harts (λ x is. is) each
change-unmasked (Patch a original covers) b each = each

-- ---- a replay

pub erased-keeps : (m : Machine) → Keeps (Erased m)
erased-keeps m = record {
  passes = λ q w is. record {
    machine = points_forget_debugging q w.board is.unmasked ∙ point-lived q w.board w.past m is.machine;
    unmasked = points_keep_unmasked q w.board is.unmasked;
  };
  changes = λ c w is. record { machine = change-lived c w.board w.past m is.machine; unmasked = change-unmasked c w.board is.unmasked };
  says = λ line w is. record { machine = is.machine; unmasked = is.unmasked };
}

pub start-erased : (board : Board) → StepsUnmasked board → Erased (machine_of board) (start board)
start-erased board unmasked = record { machine = refl; unmasked = unmasked }

ends-erased : (plan : Plan) (board : Board) (journal : List Point) → StepsUnmasked board
    → Erased (machine_of board) (replay plan (start board) journal).world
ends-erased plan board journal unmasked =
    replay-keeps (Erased (machine_of board)) (erased-keeps (machine_of board)) plan (start board) journal (start-erased board unmasked)

pub transparent : Transparent
transparent plan board journal unmasked =
    (ends-erased plan board journal unmasked).machine
    ∙ sym (pasts_are_undebugged (machine_of board) (replay plan (start board) journal).world.past)

pub replays_keep_unmasked : ReplaysKeepUnmasked
replays_keep_unmasked plan board journal unmasked = (ends-erased plan board journal unmasked).unmasked

no_step : (step : Bool) (stepie : Bool) → step ≡ false → (step && not stepie) ≡ false
no_step true stepie e = absurd (cc)
no_step false stepie e = refl

pub fresh_unmasked : FreshBoardsAreUnmasked
fresh_unmasked board fresh h hart is = no_step hart.debug.step hart.debug.stepie (fresh h hart is).no_step
