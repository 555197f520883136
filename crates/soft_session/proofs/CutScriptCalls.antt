-- `soft` and `unsoft` where one of their calls failed, over a told chip.
use Rattle.std.proofs.Common.{◌≡◌, ℕ, true, false, length, Err, ap, if◌then◌else◌}
use Rattle.std.specs.Prelude.{◌==◌}
use Rattle.rv_model.specs.declared.size.Size.TheVariants.{B4}
use Rattle.debug_model.specs.Kept.{DmiSeen}
use Rattle.debug_model.specs.declared.soft_command.SoftCommand.TheVariants.{Soft, Unsoft}
use Rattle.abstract_debugger.specs.Lines.{Line}
use Rattle.abstract_debugger.specs.Plan.{Plan}
use Rattle.abstract_debugger.specs.Plan.Plan.{say}
use Rattle.abstract_debugger.specs.Ways.Way.{Idle}
use Rattle.probe_access.specs.Accesses.{AccessLeft, BusStoreRefused}
use Rattle.probe_access.specs.Cuts.{BusLeftOff, IfCut, Leaves, StoreLeaves}
use Rattle.probe_run.specs.Acts.{Tells}
use Rattle.probe_run.specs.Told.{told}
use Rattle.probe_session.specs.declared.fault.Failure.{Failure}
use Rattle.probe_session.specs.Going.{Branches}
use Rattle.soft_laws.specs.Lowered.{Table, lower}
use Rattle.soft_laws.specs.SoftBreaks.{is_listed, without}
use Rattle.soft_laws.specs.SoftDebugger.{SoftState, lifting, most_planted, planting, put_in}
use Rattle.soft_break.specs.declared.fault.SoftFault.{SoftFault}
use Rattle.soft_break.specs.declared.preparing.Prepared.TheVariants as prepared_as
use Rattle.soft_break.specs.Calls.{IfAccess, SoftBehind}
use Rattle.soft_break.specs.Patches.{original_of}
use Rattle.soft_session.specs.declared.session.SoftSession.{SoftSession}
use Rattle.soft_session.specs.Cuts.{Cuts, CutsOf, at_command, at_planting, at_prepared}
use Rattle.soft_session.specs.Led.{at_plan, soft_state}
use Rattle.soft_session.specs.Setting.{PreparedLed, failure_of_soft}
use Rattle.soft_session.proofs.CutCalls.{unplant_cut}
use Rattle.soft_session.proofs.CutSteps.{cut_then}
use Rattle.soft_session.proofs.LedLemmas.{led_same}
use Rattle.soft_session.proofs.SettingSteps.{set_from}

pub clear_cut : (A : Type 0) (a : ℕ) (from : SoftSession) (old new : DmiSeen) (why : SoftFault) (f : Failure) → f ≡ failure_of_soft why
    → is_listed from.table.addresses a ≡ true → IfAccess (AccessLeft (BusStoreRefused B4 a) a old.far new.far) why
    → IfAccess (IfCut (Leaves (BusLeftOff (StoreLeaves B4 a (original_of a from.table))) old.far new.far)) why → SoftBehind {A = A} old new (Err why)
    → CutsOf from.table (at_command (Unsoft a) (soft_state from)) (told old) (told new) f
clear_cut A a from old new why f is set left cut behind next t holds =
    let s : SoftState = soft_state from in
    let rest : ℕ → Plan = λ original. say (Line.SoftClear a) (next (record s { planted = without a s.planted })) in
    cut_then (at_command (Unsoft a) s next t) (at_plan (lifting a rest) t) (told old) (told old) (told new) f
    (led_same Idle 0 _ (lower (lifting a rest) t) (told old) (ap (λ b. lower (if b then lifting a rest else say (Line.SoftNotSet a) (next s)) t) set))
    (unplant_cut A a (original_of a from.table) rest t old new why f is left cut behind)

-- what follows the Looks in front of the first one
abbrev branches : ℕ → SoftState → (SoftState → Plan) → Branches
branches a s next = record { whole = planting a (next s) (next (record s { planted = put_in a s.planted })); other = next s }

pub prepare_set_cut : (a : ℕ) (from : SoftSession) (old new : Tells) (f : Failure) → is_listed from.table.addresses a ≡ false
    → (length from.table.addresses == most_planted) ≡ false → ((b : Branches) (t : Table) → Cuts (at_prepared from.table.addresses b t) old f new)
    → CutsOf from.table (at_command (Soft a) (soft_state from)) old new f
prepare_set_cut a from old new f free room cuts next t holds =
    cut_then (at_command (Soft a) (soft_state from) next t) (at_prepared from.table.addresses (branches a (soft_state from) next) t) old old new f
    (set_from a from old next t free room) (cuts (branches a (soft_state from) next) t)

pub plant_set_cut : (a : ℕ) (from : SoftSession) (old mid new : Tells) (f : Failure) → is_listed from.table.addresses a ≡ false
    → (length from.table.addresses == most_planted) ≡ false → PreparedLed from.table.addresses old mid prepared_as.Ready
    → CutsOf from.table (at_planting a) mid new f → CutsOf from.table (at_command (Soft a) (soft_state from)) old new f
plant_set_cut a from old mid new f free room looks cuts next t holds =
    let s : SoftState = soft_state from in
    let set : Plan = next (record s { planted = put_in a s.planted }) in
    cut_then (at_command (Soft a) s next t) (at_prepared from.table.addresses (branches a s next) t) old old new f (set_from a from old next t free room)
    (cut_then (at_prepared from.table.addresses (branches a s next) t) (at_planting a (record { whole = set; other = next s }) t) old mid new f
    (looks (next s) (planting a (next s) set) t) (cuts (record { whole = set; other = next s }) t holds))
