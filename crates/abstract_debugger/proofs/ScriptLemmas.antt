-- Each command keeps to first match, and so does a session.
use Rattle.std.proofs.Common.{◌≡◌, ◌∙◌, ℕ, zero, suc, Bool, true, false, List, [], ◌∷◌, Option, Some, None}
use Rattle.std.proofs.Common.{slice_get, option_map, refl, sym, ap, if◌then◌else◌}
use Rattle.std.specs.Prelude.{All, replicate}
use Rattle.std.proofs.lemmas.Bool.{false≢true}
use Rattle.std.proofs.lemmas.List.Elements.{All-head, All-tail}
use Rattle.std.proofs.lemmas.Option.{none-some, same_Some}
use Rattle.rv_model.specs.declared.slot.Slot.{Slot}
use Rattle.rv_model.specs.declared.slot.Trigger.TheVariants.{Disabled}
use Rattle.rv_model.specs.Board.{Board, Hart, Machine, free_slot, machine_of, slot_count}
use Rattle.debug_model.specs.Command.{IsWithinRanges}
use Rattle.debug_model.specs.declared.command.Command.{Command}
use Rattle.debug_model.specs.declared.point.Point.{Point}
use Rattle.debug_model.specs.declared.point.Point.TheVariants.{Turn, Look, HaltReq, HaltClear, ResumeReq, Access}
use Rattle.abstract_debugger.specs.Debugger.{State, arming, arming_at, commands, first_state, freeing, is_free_slot}
use Rattle.abstract_debugger.specs.FirstMatch.{FirstMatch}
use Rattle.abstract_debugger.specs.Known.{IsKnown}
use Rattle.abstract_debugger.specs.Laws.{EachNoteIsRight, FirstMatchHolds, ResetIsFresh}
use Rattle.abstract_debugger.specs.Lines.{Line}
use Rattle.abstract_debugger.specs.Plan.{Plan}
use Rattle.abstract_debugger.specs.Plan.Change.{WriteReg, WriteMem, ArmSlot, FreeSlot, StepOver, StepDone, EbreakHalts}
use Rattle.abstract_debugger.specs.Plan.Plan.{take, change, say}
use Rattle.abstract_debugger.specs.Plan.PlanEnd.{Done}
use Rattle.abstract_debugger.specs.Slots.{first_free, is_free, slots_at, slots_here}
use Rattle.abstract_debugger.specs.Slots.Use.{Armed, Unused}
use Rattle.abstract_debugger.specs.Trace.{What}
use Rattle.abstract_debugger.specs.Transcript.{World, changed, replay, start}
use Rattle.abstract_debugger.specs.Ways.{Way}
use Rattle.abstract_debugger.specs.Ways.Way.{Idle, Still, Ready, Going, Holding, Asked, Over}
use Rattle.abstract_debugger.proofs.GoodLemmas.{Fine, Good, chosen, good-change, good-on_path, good-say, good-see, good-stop, good-take, good-weaker}
use Rattle.abstract_debugger.proofs.GoodLemmas.{still_ready}
use Rattle.abstract_debugger.proofs.SlotLemmas.{CanArm}
use Rattle.abstract_debugger.proofs.KnownChanges.{HasSlot, known-arm, known-ebreak, known-free, known-step_done, known-step_over, known-write_mem}
use Rattle.abstract_debugger.proofs.KnownChanges.{known-write_reg}
use Rattle.abstract_debugger.proofs.KnownHarts.{known-start, known_idle}
use Rattle.abstract_debugger.proofs.KnownPoints.{known-asked, known-going, known-halt_clear, known-halt_req, known-rests}
use Rattle.abstract_debugger.proofs.WayCommands.{way-act}
use Rattle.abstract_debugger.proofs.WayWalks.{IsCalm, Learns, WayWalks, way-look}

-- ---- slots

free_there : (b : Bool) (s : Slot) (slots : List Slot) (slot : ℕ) → ((k : ℕ) → first_free slots ≡ Some k → (t : Slot) × (slice_get slots k ≡ Some t))
    → (if b then Some 0 else option_map suc (first_free slots)) ≡ Some slot → (t : Slot) × (slice_get (s ∷ slots) slot ≡ Some t)
free_there true s slots slot there is = (s, ap (slice_get (s ∷ slots)) (sym (same_Some 0 slot is)))
free_there false s slots slot there is = later (first_free slots) refl is
  where
    later : (o : Option ℕ) → first_free slots ≡ o → option_map suc o ≡ Some slot → (t : Slot) × (slice_get (s ∷ slots) slot ≡ Some t)
    later None e at = absurd (none-some slot at)
    later (Some k) e at = ((there k e).0, ap (slice_get (s ∷ slots)) (sym (same_Some (suc k) slot at)) ∙ (there k e).1)

pub first_free-there : (slots : List Slot) (slot : ℕ) → first_free slots ≡ Some slot → (t : Slot) × (slice_get slots slot ≡ Some t)
first_free-there [] slot is = absurd (none-some slot is)
first_free-there (s ∷ slots) slot is = free_there (is_free s.trigger) s slots slot (first_free-there slots) is

has_slot_from : (h slot : ℕ) (w : World) → (t : Slot) × (slice_get (slots_at h w.board) slot ≡ Some t) → HasSlot h slot w
has_slot_from h slot w there x is = (there.0, sym (ap (λ o. slice_get (slots_here o) slot) is) ∙ there.1)

arming_at-good : (m : Machine) (h : ℕ) (what : What) (next : Plan) → CanArm what → Good m h Still next → (w : World) → IsKnown m h Still w → (j : List Point)
    → (o : Option ℕ) → first_free (slots_at h w.board) ≡ o → FirstMatch m (replay (arming_at o h what next) w j).world.past
unfolding replay
arming_at-good m h what next can g w k j None is = (good-say m h Still Line.NoFreeSlot next g).goes w k j
arming_at-good m h what next can g w k j (Some slot) is =
    (good-say m h Still (Line.Slot slot (Armed what) false) next g).goes (changed (ArmSlot h slot what) w)
    (known-arm m h slot what w can (has_slot_from h slot w (first_free-there (slots_at h w.board) slot is)) k) j

pub arming-good : (m : Machine) (h : ℕ) (what : What) (next : Plan) → CanArm what → Good m h Still next → Good m h Still (arming h what next)
arming-good m h what next can g =
    good-see m h Still (λ b. arming_at (first_free (slots_at h b)) h what next)
    (λ w k j. arming_at-good m h what next can g w k j (first_free (slots_at h w.board)) refl)

pub used_there : (o : Option Slot) → is_free_slot o ≡ false → (t : Slot) × (o ≡ Some t)
used_there (Some t) is = (t, refl)
used_there None is = absurd (false≢true (sym is))

freed-good : (m : Machine) (h slot : ℕ) (next : Plan) → Good m h Still next → (w : World) → IsKnown m h Still w → (j : List Point)
    → is_free_slot (slice_get (slots_at h w.board) slot) ≡ false → FirstMatch m
    (replay (change (FreeSlot h slot) (say (Line.Slot slot Unused false) next)) w j).world.past
unfolding replay
freed-good m h slot next g w k j is =
    (good-say m h Still (Line.Slot slot Unused false) next g).goes (changed (FreeSlot h slot) w)
    (known-free m h slot w (has_slot_from h slot w (used_there (slice_get (slots_at h w.board) slot) is)) k) j

pub freeing-good : (m : Machine) (h slot : ℕ) (next : Plan) → Good m h Still next → Good m h Still (freeing h slot next)
freeing-good m h slot next g =
    good-see m h Still (λ b. if is_free_slot (slice_get (slots_at h b) slot) then say (Line.SlotNotInUse slot) next else change (FreeSlot h slot)
    (say (Line.Slot slot Unused false) next))
    (λ w k j. chosen m (is_free_slot (slice_get (slots_at h w.board) slot)) (say (Line.SlotNotInUse slot) next)
    (change (FreeSlot h slot) (say (Line.Slot slot Unused false) next)) w j
    (λ e. (good-say m h Still (Line.SlotNotInUse slot) next g).goes w k j) (λ e. freed-good m h slot next g w k j e))

-- ---- the walk

calm-good : (m : Machine) (sel : ℕ) (way : Way) (q : Point) → IsCalm q → (next : Plan) → Good m sel way next → Good m sel way (take q next)
calm-good m sel way (Turn h) calm next g = absurd calm
calm-good m sel way (Look n) calm next g = good-take m sel way way (Look n) next (λ w k. k) g
calm-good m sel way (HaltReq h) calm next g = good-take m sel way way (HaltReq h) next (known-halt_req m sel way h) g
calm-good m sel way (HaltClear h) calm next g = good-take m sel way way (HaltClear h) next (known-halt_clear m sel way h) g
calm-good m sel way (ResumeReq h) calm next g = absurd calm
calm-good m sel way Access calm next g = good-take m sel way way Access next (λ w k. k) g

learnt-good : (m : Machine) (test : List Hart → Bool) (sel : ℕ) (way way' : Way) (next : Board → Plan) → Learns test sel way way'
    → ((b : Board) → test b.harts ≡ true → Good m sel way' (next b)) → ((b : Board) → test b.harts ≡ false → Good m sel way (next b))
    → (w : World) → IsKnown m sel way w → (j : List Point) → (c : Bool) → test w.board.harts ≡ c → FirstMatch m (replay (next w.board) w j).world.past
learnt-good m test sel way way' next learns gy gn w k j true is = (gy w.board is).goes w (learns m w is k) j
learnt-good m test sel way way' next learns gy gn w k j false is = (gn w.board is).goes w k j

-- plans keep to first match however they are put together
pub good-walks : (m : Machine) → WayWalks (Good m)
good-walks m = record {
  rests = λ h p g. good-weaker m h Still Idle p (known-rests m h) g;
  unspent = λ h p g. still_ready m h p g;
  moved = λ h i p g. record { goes = λ w k j. g.goes w (known_idle m i h w k) j };
  takes = calm-good m;
  goes = λ h next g. good-take m h Ready Going (ResumeReq h) next (known-going m h) g;
  asks = λ h next g. good-take m h Holding Asked (ResumeReq h) next (known-asked m h) g;
  paths = λ sel way path next g. good-on_path m sel way path next g;
  sees = λ sel way next g. good-see m sel way next (λ w k j. (g w.board).goes w k j);
  learns = λ test sel way way' next learns gy gn. good-see m sel way next
      (λ w k j. learnt-good m test sel way way' next learns gy gn w k j (test w.board.harts) refl);
  writes_reg = λ h r v next g. good-change m h Still Still (WriteReg h r v) next (known-write_reg m h r v) g;
  writes_mem = λ sel way a count v next g. good-change m sel way way (WriteMem a count v) next (known-write_mem m sel way a count v) g;
  step_over = λ h next g. good-change m h Still Holding (StepOver h) next (known-step_over m h) g;
  step_done = λ h next g. good-change m h Over Still (StepDone h) next (known-step_done m h) g;
  ebreaks = λ h on next g. good-change m h Still Still (EbreakHalts h on) next (known-ebreak m h on) g;
  arms = arming-good m;
  frees = freeing-good m;
  says = λ sel way line next g. good-say m sel way line next g;
  stops = λ sel way end. good-stop m sel way end;
}

-- ---- sessions

commands-fine : (m : Machine) (script : List Command) → All IsWithinRanges script → (s : State) → Fine m (commands script s)
commands-fine m [] within s = good-stop m 0 Idle Done
commands-fine m (c ∷ cs) within s = way-act (good-walks m) c s (commands cs) (All-head IsWithinRanges c cs within)
    (commands-fine m cs (All-tail IsWithinRanges c cs within))

pub first_match : FirstMatchHolds
first_match board script journal within fresh =
    (way-look (good-walks (machine_of board)) 0 Idle 0 (λ seen. commands script first_state) (λ seen. commands-fine
    (machine_of board) script within first_state)).goes
    (start board) (known-start 0 board fresh) journal

-- ---- a reset

all_free : (n k : ℕ) (s : Slot) → slice_get (replicate n free_slot) k ≡ Some s → s.trigger ≡ Disabled
all_free zero k s is = absurd (none-some s is)
all_free (suc n) zero s is = ap (λ (t : Slot). t.trigger) (sym (same_Some free_slot s is))
all_free (suc n) (suc k) s is = all_free n k s is

pub reset_is_fresh : ResetIsFresh
reset_is_fresh version halted = record { not_asked = refl; no_step = refl; unused = all_free slot_count }

-- ---- any place of a past

pub each_note_is_right : EachNoteIsRight
each_note_is_right m [] note earlier right = right.0
each_note_is_right m (n ∷ later) note earlier right = each_note_is_right m later note earlier right.1
