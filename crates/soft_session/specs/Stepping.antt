-- A hart that goes on in a session with software breakpoints, over a told chip: where it stands at one, the word is put back for a step alone.
-- It is this project's own.
use Rattle.std.specs.Prelude.{◌≡◌, ℕ, Bool, true, false, List, [], Option, Some, None}
use Rattle.rv_model.specs.Registers.{pc_number}
use Rattle.abstract_debugger.specs.Debugger.{going, stop_line}
use Rattle.abstract_debugger.specs.Lines.{Line}
use Rattle.abstract_debugger.specs.Plan.{Plan}
use Rattle.abstract_debugger.specs.Plan.Plan.{say, see}
use Rattle.printed_lines.specs.declared.line.Line.{Line as PrintedLine}
use Rattle.probe_run.specs.Acts.{Tells}
use Rattle.probe_session.specs.Calls.{Got, Viewed}
use Rattle.probe_session.specs.Going.{Branches, at_one}
use Rattle.probe_session.specs.Led.{Leads}
use Rattle.probe_session.specs.Places.{Place, idle, ready, still}
use Rattle.probe_session.specs.Said.{said_by}
use Rattle.probe_session.specs.Steps.{any_in}
use Rattle.probe_trig.specs.declared.slot_view.SlotView.{SlotView}
use Rattle.soft_laws.specs.Lowered.{Table, lower}
use Rattle.soft_laws.specs.SoftBreaks.{is_listed}
use Rattle.soft_laws.specs.SoftDebugger.{one_by, soft_one, soft_resuming, soft_stepping}
use Rattle.soft_break.specs.Patches.{Patches}
use Rattle.soft_session.specs.Led.{Onto, at_plan}
use Rattle.soft_session.specs.Tables.{Holds}

-- the breakpoint that hart h stands at: its pc was read where some is set
pub data PcRead (h : ℕ) (planted : List ℕ) (old new : Tells) : Option ℕ → Type 0 where
  none_set : planted ≡ [] → new ≡ old → PcRead h planted old new None
  elsewhere : {pc : ℕ} → Got h pc_number pc old new → is_listed planted pc ≡ false → PcRead h planted old new None
  there : {pc : ℕ} → Got h pc_number pc old new → is_listed planted pc ≡ true → PcRead h planted old new (Some pc)

-- behind a step that was a whole one no slot has a hit
abbrev pub behind_whole : Bool → ℕ → (whole other : Plan) → Place
behind_whole true h whole other = ready h whole
behind_whole false h whole other = still h other

abbrev pub StepLed : ℕ → (old new : Tells) → Bool → Type 0
StepLed h old new is_whole = (b : Branches) → Leads (at_one h b) old [] (behind_whole is_whole h b.whole b.other) new

-- from a plan with such branches
abbrev pub OntoBranches : (from : Plan → Plan → Plan) → ℕ → Patches → (old new : Tells) → Bool → Type 0
OntoBranches from h p old new is_whole =
    (stepped other : Plan) (t : Table) → Holds p t
    → Onto p (λ u. Leads (still h (lower (from stepped other) t)) old [] (behind_whole is_whole h (lower stepped u) (lower other u)) new)

abbrev pub OverLed : ℕ → ℕ → Patches → (old new : Tells) → Bool → Type 0
OverLed at h p old new is_whole = OntoBranches (one_by true at h) h p old new is_whole

abbrev pub OneLed : ℕ → Patches → (old new : Tells) → Bool → Type 0
OneLed h p old new is_whole = OntoBranches (soft_one p.addresses h) h p old new is_whole

-- up to the line that says where it stands, or that it goes
abbrev pub StepsLed : ℕ → ℕ → Patches → (old new : Tells) → PrintedLine → Type 0
StepsLed count h p old new line =
    (next : Plan) (t : Table) → Holds p t
    → Onto p (λ u. Leads (still h (lower (soft_stepping count p.addresses h (stop_line h next)) t)) old [] (at_plan (say (said_by line) next) u) new)

abbrev pub GoingLed : ℕ → Patches → (old new : Tells) → PrintedLine → Type 0
GoingLed h p old new line =
    (next : Plan) (t : Table) → Holds p t
    → Onto p (λ u. Leads (still h (lower (see (soft_resuming p.addresses h next)) t)) old [] (at_plan (say (said_by line) next) u) new)

-- behind a step, by whether it was a whole one
abbrev pub GoneLed : ℕ → Bool → (old new : Tells) → PrintedLine → Type 0
GoneLed h is_whole old new line =
    (next : Plan) → Leads (behind_whole is_whole h (going h (say Line.Resumed next)) (stop_line h next)) old [] (idle (say (said_by line) next)) new

-- the slots were seen, and some have a hit, or none
pub record HitSeen (h : ℕ) (old new : Tells) (some : Bool) : Type 0 where
  pub view : SlotView
  pub viewed : Viewed h view old new
  pub is : any_in view ≡ some
