-- The steps of a session that sets software breakpoints and takes them out, over a told chip.
-- It is this project's own.
use Rattle.std.specs.Prelude.{ℕ, Bool, true, false, List, []}
use Rattle.abstract_debugger.specs.Lines.{Line}
use Rattle.abstract_debugger.specs.Plan.{Plan}
use Rattle.abstract_debugger.specs.Plan.Plan.{say}
use Rattle.probe_access.specs.declared.fault.AccessFault.{AccessFault}
use Rattle.probe_access.specs.declared.fault.AccessFault.TheVariants as access_fault
use Rattle.probe_run.specs.Acts.{Tells}
use Rattle.probe_session.specs.declared.fault.Failure.{Failure}
use Rattle.probe_session.specs.declared.fault.Failure.TheVariants as failure
use Rattle.probe_session.specs.declared.fault.LostCause.TheVariants as lost
use Rattle.probe_session.specs.declared.odd.Odd.TheVariants as odd
use Rattle.probe_session.specs.Failures.{failure_of_access}
use Rattle.probe_session.specs.Led.{Leads}
use Rattle.soft_laws.specs.Lowered.{Table}
use Rattle.soft_laws.specs.SoftDebugger.{closing, planting, prepared, put_in}
use Rattle.soft_break.specs.declared.fault.SoftFault.{SoftFault}
use Rattle.soft_break.specs.declared.fault.SoftFault.TheVariants as soft_fault
use Rattle.soft_break.specs.declared.preparing.Prepared.{Prepared}
use Rattle.soft_break.specs.declared.preparing.Prepared.TheVariants as prepared_as
use Rattle.soft_break.specs.Patches.{Patches}
use Rattle.soft_session.specs.Led.{Onto, at_plan}
use Rattle.soft_session.specs.Tables.{Holds}

-- what a fault of a call on the table makes of a session where none of memory is its answer
abbrev pub failure_of_soft : SoftFault → Failure
failure_of_soft (soft_fault.Access why) = failure_of_access why
failure_of_soft soft_fault.Full = failure.Lost (lost.Odd odd.Refusal)
failure_of_soft soft_fault.Set = failure.Lost (lost.Odd odd.Refusal)
failure_of_soft soft_fault.NotSet = failure.Lost (lost.Odd odd.Refusal)

abbrev pub is_refused : AccessFault → Bool
is_refused (access_fault.Memory at) = true
is_refused _ = false

-- memory has refused an access
abbrev pub is_refusal : SoftFault → Bool
is_refusal (soft_fault.Access why) = is_refused why
is_refusal _ = false

-- what follows the Looks of every hart
abbrev pub behind_looks : Prepared → (next ready : Plan) → Plan
behind_looks prepared_as.Ready next ready = ready
behind_looks (prepared_as.Running h) next ready = say (Line.IsRunning h) next

abbrev pub PreparedLed : List ℕ → (old new : Tells) → Prepared → Type 0
PreparedLed planted old new r =
    (next ready : Plan) (t : Table) → Leads (at_plan (prepared planted next ready) t) old [] (at_plan (behind_looks r next ready) t) new

-- what follows the word's place, where memory held one or not
abbrev pub behind_planting : ℕ → Bool → (next set : Plan) → Plan
behind_planting a true next set = say (Line.SoftSet a) set
behind_planting a false next set = say (Line.MemoryFault a) next

abbrev pub planted_list : ℕ → Bool → List ℕ → List ℕ
planted_list a true ps = put_in a ps
planted_list a false ps = ps

abbrev pub PlantedLed : ℕ → (from to : Patches) → (old new : Tells) → Bool → Type 0
PlantedLed a from to old new held =
    (next set : Plan) (t : Table) → Holds from t → Onto to (λ u. Leads (at_plan (planting a next set) t) old [] (at_plan
    (behind_planting a held next set) u) new)

-- each breakpoint is taken out
abbrev pub ClosedLed : (from to : Patches) → (old new : Tells) → Type 0
ClosedLed from to old new =
    (next : Plan) (t : Table) → Holds from t
    → Onto to (λ u. Leads (at_plan (closing from.addresses next) t) old [] (at_plan (closing to.addresses next) u) new)
