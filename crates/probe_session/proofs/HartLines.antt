-- What a halted hart's lines come from.
use Rattle.std.proofs.Common.{◌≡◌, ◌≢◌, ◌≤◌, ℕ, Bool, true, false, List, [], subst, sym, ap, refl, cond, if◌then◌else◌}
use Rattle.std.proofs.lemmas.Bool.{eq-eqb, ne_eqb}
use Rattle.rv_model.specs.DebugRegisters.{dcsr_number}
use Rattle.rv_model.specs.Registers.{mip_number, pc_number}
use Rattle.abstract_debugger.specs.Debugger.{register_line, showing_mip}
use Rattle.abstract_debugger.specs.Lines.{Line}
use Rattle.abstract_debugger.specs.Plan.{Plan}
use Rattle.abstract_debugger.specs.Plan.Plan.{say, see}
use Rattle.abstract_debugger.specs.Slots.Use.{Armed, Unused}
use Rattle.abstract_debugger.proofs.SlotLemmas.{CanArm}
use Rattle.probe_run.specs.Acts.{Tells}
use Rattle.probe_trig.specs.declared.change.Change.TheVariants.{Forget}
use Rattle.debug_model.specs.declared.slot_use.SlotUse.{SlotUse}
use Rattle.debug_model.specs.declared.slot_use.SlotUse.TheVariants as slot_use
use Rattle.probe_trig.specs.declared.slot_view.SlotView.{SlotView}
use Rattle.probe_trig.specs.Runs.{ArmsAny, ChangesAny, FreesAny, ReadsAny}
use Rattle.probe_trig.specs.SlotRegisters as trig
use Rattle.probe_session.specs.declared.fault.Failure.{Failure}
use Rattle.probe_access.specs.Pending.{is_mip}
use Rattle.probe_session.specs.Calls.{GotPending, PendingFell, PendingNone}
use Rattle.probe_session.specs.Calls.{AskFell, FoundStop, Gave, GaveNone, GiveFell, Got, GotNone, HitsForgotten, IsOfCores, IsOfHarts, NoneFree}
use Rattle.probe_session.specs.Calls.{NotUsed, ReadFell, SlotFreed, SlotTaken, SlotsFell, StopFell, Viewed, WriteFell}
use Rattle.probe_session.specs.Commands.{at_arming, at_ebreak, at_freeing, at_register, at_stop_line, at_written_register, ends_with, shown}
use Rattle.probe_session.specs.Goes.{Falls, Went}
use Rattle.probe_session.specs.Goes.{Fault}
use Rattle.probe_session.specs.Goes.{Goes}
use Rattle.probe_session.specs.Goes.Goes.{step}
use Rattle.probe_session.specs.Goes.Passing.{found}
use Rattle.probe_session.specs.Places.{Place, wants_call, spot, still}
use Rattle.abstract_debugger.specs.Ways.Way.{Idle, Still}
use Rattle.abstract_debugger.specs.SlotUses.{hits_in, use_named}
use Rattle.probe_session.specs.Said.{shown_beside}
use Rattle.probe_session.specs.Slots.{what_of}
use Rattle.probe_session.specs.Steps.{Step, trigger_cause, with_ebreakm}
use Rattle.probe_session.specs.Steps.Step.{arms, arms_none, frees, frees_none, reads, reads_no_pending, reads_none, reads_pending, rests, same, sets_ebreakm, stands, stands_by_trigger}
use Rattle.probe_session.specs.Steps.Step.{writes, writes_none, writes_pc}
use Rattle.probe_session.proofs.WentLemmas.{falls_at, one, went_one, went_then}

-- a step behind which the hart is left to itself
rested : {h : ℕ} {line : Line} {heard : Bool} {from : Plan → Place} {t u : Tells}
    → ((next : Plan) → Step (from next) t [] (spot heard Still h (say line next)) u) → wants_call line ≡ heard → Went from (ends_with line) [] t u
rested {h} {line} {heard} {from} {t} {u} s same_heard = record {
  goes = λ next. subst (λ b. Goes (from next) t [] (spot b Idle 0 (say line next)) u) (sym same_heard) (step (one (s next)) rests);
}

-- ---- the stop line

hits_hidden : (cause : ℕ) (hits : List Bool) → cause ≢ trigger_cause → shown_beside cause hits ≡ []
hits_hidden cause hits other = ap (λ (x : Bool). if x then hits else []) (ne_eqb cause trigger_cause other)

plain_line : (h pc cause : ℕ) (hits shown : List Bool) {t u : Tells} → shown ≡ [] → FoundStop h pc cause t u → cause ≢ trigger_cause
    → Went (at_stop_line h) (ends_with (Line.Halted pc cause shown)) [] t u
plain_line h pc cause hits shown {t} {u} is at other =
    subst (λ l. Went (at_stop_line h) (ends_with (Line.Halted pc cause l)) [] t u) (sym is) (rested (λ next. stands next at other) refl)

pub stop_plain : (h pc cause : ℕ) (hits : List Bool) {t u : Tells} → FoundStop h pc cause t u → cause ≢ trigger_cause
    → Went (at_stop_line h) (ends_with (Line.Halted pc cause (shown_beside cause hits))) [] t u
stop_plain h pc cause hits at other = plain_line h pc cause hits (shown_beside cause hits) (hits_hidden cause hits other) at other

pub stop_trigger : (h pc cause : ℕ) (view : SlotView) {t u v : Tells} → FoundStop h pc cause t u → cause ≡ trigger_cause → Viewed h view u v
    → Went (at_stop_line h) (ends_with (Line.Halted pc cause (shown_beside cause (hits_in view.hits)))) [] t v
stop_trigger h pc cause view {t} {u} {v} at is viewed =
    subst (λ n. Went (at_stop_line h) (ends_with (Line.Halted pc n (shown_beside n (hits_in view.hits)))) [] t v) (sym is)
    (rested (λ next. stands_by_trigger next (subst (λ n. FoundStop h pc n t u) is at) viewed) refl)

pub stop_falls : (h : ℕ) {old_count new_count : ℕ} {t u : Tells} {f : Failure} → StopFell h old_count new_count t u f
    → Falls (at_stop_line h) [] old_count new_count t u f
stop_falls h fell = falls_at (λ next. Fault.stopping fell)

pub stop_view_falls : (h pc cause : ℕ) {old_count count new_count : ℕ} {t u v : Tells} {f : Failure} → FoundStop h pc cause t u → old_count ≤ count
    → SlotsFell ReadsAny h count new_count u v f
    → Falls (at_stop_line h) [] old_count new_count t v f
stop_view_falls h pc cause at le fell = falls_at (λ next. Fault.behind (found at) le (Fault.viewing fell))

-- ---- registers

-- one that the hart itself holds is shown as it stands there
held_plan : (b : Bool) (mip held : Plan) → b ≡ false → cond b mip held ≡ held
held_plan true mip held is = let none : ⊥ = cc in absurd none
held_plan false mip held is = refl

at_held : (h number : ℕ) (line : Line) {t u : Tells} → is_mip number ≡ false
    → Went (λ next. still h (see (λ b. say (register_line h b number) next))) (ends_with line) [] t u → Went (at_register h number) (ends_with line) [] t u
at_held h number line other w =
    went_then (went_one (λ next. same (held_plan (is_mip number) (showing_mip h next) (see (λ b. say (register_line h b number) next)) other))) w

pub register_shown : (h number value : ℕ) {t u : Tells} → is_mip number ≡ false → IsOfCores number → Got h number value t u
    → Went (at_register h number) (ends_with (Line.Register number value)) [] t u
register_shown h number value other of at =
    at_held h number (Line.Register number value) other (rested (λ next. reads (λ v. say (Line.Register number v) next) at of) refl)

pub register_refused : (h number : ℕ) {t u : Tells} → is_mip number ≡ false → IsOfCores number → GotNone h number t u
    → Went (at_register h number) (ends_with (Line.RegisterRefused number)) [] t u
register_refused h number other of at = at_held h number (Line.RegisterRefused number) other (rested (λ next. reads_none next at of) refl)

pub pending_shown : (h value : ℕ) {t u : Tells} → GotPending h value t u
    → Went (at_register h mip_number) (ends_with (Line.Register mip_number value)) [] t u
pending_shown h value at = rested (λ next. reads_pending next at) refl

pub pending_refused : (h : ℕ) {t u : Tells} → PendingNone h t u → Went (at_register h mip_number) (ends_with (Line.RegisterRefused mip_number)) [] t u
pending_refused h at = rested (λ next. reads_no_pending next at) refl

pub pending_falls : (h : ℕ) {old_count new_count : ℕ} {t u : Tells} {f : Failure} → PendingFell h old_count new_count t u f
    → Falls (at_register h mip_number) [] old_count new_count t u f
pending_falls h fell = falls_at (λ next. Fault.asking_pending next fell)

pub register_falls : (h number : ℕ) {old_count new_count : ℕ} {t u : Tells} {f : Failure} → AskFell h number old_count new_count t u f
    → Falls (at_register h number) [] old_count new_count t u f
register_falls h number fell = falls_at (λ next. Fault.asking fell)

pub write_refused : (h number value : ℕ) {t u : Tells} → IsOfCores number → GaveNone h number value t u
    → Went (at_written_register h number value) (ends_with (Line.RegisterRefused number)) [] t u
write_refused h number value of at =
    rested (λ next. writes_none (say (Line.RegisterRefused number) next) _ at of) (sym (eq-eqb number number refl))

pub written : (h number value : ℕ) {t u : Tells} → IsOfCores number → number ≢ pc_number → Gave h number value t u
    → Went (at_written_register h number value) (at_register h number) [] t u
written h number value of other at = went_one (λ next. writes _ _ at of other)

pub written_pc : (h number value : ℕ) {t u v : Tells} → number ≡ pc_number → Gave h number value t u → HitsForgotten h u v
    → Went (at_written_register h number value) (at_register h number) [] t v
written_pc h number value {t} {u} {v} is at forgot =
    subst (λ n. Went (at_written_register h n value) (at_register h n) [] t v) (sym is)
    (went_one (λ next. writes_pc _ _ (subst (λ n. Gave h n value t u) is at) forgot))

pub write_falls : (h number value : ℕ) {old_count new_count : ℕ} {t u : Tells} {f : Failure} → GiveFell h number value old_count new_count t u f
    → Falls (at_written_register h number value) [] old_count new_count t u f
write_falls h number value fell = falls_at (λ next. Fault.giving _ _ fell)

pub forget_falls : (h number value : ℕ) {old_count count new_count : ℕ} {t u v : Tells} {f : Failure} → number ≡ pc_number → Gave h number value t u
    → old_count ≤ count → SlotsFell (ChangesAny Forget) h count new_count u v f
    → Falls (at_written_register h number value) [] old_count new_count t v f
forget_falls h number value {old_count} {count} {new_count} {t} {u} {v} {f} is at le fell =
    subst (λ n. Falls (at_written_register h n value) [] old_count new_count t v f) (sym is)
    (falls_at (λ next. Fault.forgetting_behind _ _ (subst (λ n. Gave h n value t u) is at) le fell))

-- ---- dcsr

pub ebreak_said : (h word written : ℕ) (on : Bool) {t u v : Tells} → Got h dcsr_number word t u → written ≡ with_ebreakm on word
    → Gave h dcsr_number written u v → Went (at_ebreak h on) (ends_with (Line.Ebreak on)) [] t v
ebreak_said h word written on {t} {u} {v} at is gives = rested (λ next. sets_ebreakm (say (Line.Ebreak on) next) at
    (subst (λ n. Gave h dcsr_number n u v) is gives)) refl

pub ebreak_falls : (h : ℕ) (on : Bool) {old_count new_count : ℕ} {t u : Tells} {f : Failure} → IsOfHarts dcsr_number
    → ReadFell h dcsr_number old_count new_count t u f → Falls (at_ebreak h on) [] old_count new_count t u f
ebreak_falls h on of fell = falls_at (λ next. Fault.reading fell of)

pub ebreak_set_falls : (h word written : ℕ) (on : Bool) {old_count count new_count : ℕ} {t u v : Tells} {f : Failure} → written ≡ with_ebreakm on word
    → Got h dcsr_number word t u → old_count ≤ count
    → WriteFell h dcsr_number written count new_count u v f → Falls (at_ebreak h on) [] old_count new_count t v f
ebreak_set_falls h word written on {old_count} {count} {new_count} {t} {u} {v} {f} is at le fell =
    falls_at (λ next. Fault.writing (say (Line.Ebreak on) next) at le (subst (λ n. WriteFell h dcsr_number n count new_count u v f) is fell))

-- ---- slots

armable : (meant : SlotUse) → trig.CanArm meant → (use_named meant ≡ Armed (what_of meant)) × CanArm (what_of meant)
armable slot_use.Free can = absurd can
armable (slot_use.Break address) can = (refl, tt)
armable (slot_use.Watch kind address) can = (refl, tt)
armable (slot_use.Count turns) can = (refl, can.0)
armable (slot_use.Other tdata1) can = absurd can

pub slot_armed : (h slot : ℕ) (meant : SlotUse) {t u : Tells} → trig.CanArm meant → SlotTaken h meant slot t u
    → Went (at_arming h (what_of meant)) (ends_with (Line.Slot slot (use_named meant) false)) [] t u
slot_armed h slot meant {t} {u} can at =
    let a = armable meant can in
    subst (λ x. Went (at_arming h (what_of meant)) (ends_with (Line.Slot slot x false)) [] t u) (sym a.0)
    (rested (λ next. arms (what_of meant) next at a.0 a.1) refl)

pub none_free : (h : ℕ) (meant : SlotUse) {t u : Tells} → NoneFree h meant t u → Went (at_arming h (what_of meant)) (ends_with Line.NoFreeSlot) [] t u
none_free h meant at = rested (λ next. arms_none (what_of meant) next at) refl

pub arm_falls : (h : ℕ) (meant : SlotUse) {old_count new_count : ℕ} {t u : Tells} {f : Failure} → SlotsFell (ArmsAny meant) h old_count new_count t u f
    → Falls (at_arming h (what_of meant)) [] old_count new_count t u f
arm_falls h meant fell = falls_at (λ next. Fault.arming fell)

pub slot_freed : (h slot : ℕ) {t u : Tells} → SlotFreed h slot t u → Went (at_freeing h slot) (ends_with (Line.Slot slot Unused false)) [] t u
slot_freed h slot at = rested (λ next. frees next at) refl

pub not_used : (h slot : ℕ) {t u : Tells} → NotUsed h slot t u → Went (at_freeing h slot) (ends_with (Line.SlotNotInUse slot)) [] t u
not_used h slot at = rested (λ next. frees_none next at) refl

pub free_falls : (h slot : ℕ) {old_count new_count : ℕ} {t u : Tells} {f : Failure} → SlotsFell (FreesAny slot) h old_count new_count t u f
    → Falls (at_freeing h slot) [] old_count new_count t u f
free_falls h slot fell = falls_at (λ next. Fault.freeing fell)
