-- The places of a session that makes a halted hart go on: in front of a single step, and behind one; and what it finds of the hart there.
-- It is this project's own.
use Rattle.std.specs.Prelude.{◌≡◌, ℕ, Bool, true}
use Rattle.rv_model.specs.DebugRegisters.{dcsr_number}
use Rattle.probe_run.specs.Acts.{Tells}
use Rattle.probe_trig.specs.Stepping.{shows_step}
use Rattle.abstract_debugger.specs.Debugger.{one, stop_line}
use Rattle.abstract_debugger.specs.Plan.{Plan}
use Rattle.probe_session.specs.Calls.{Got}
use Rattle.probe_session.specs.Known.{IsWhole}
use Rattle.probe_session.specs.Places.{Place, still}
use Rattle.probe_session.specs.Reach.{stepped}
use Rattle.probe_session.specs.Steps.{behind_step}

-- what follows a single step, by whether it was a whole one
pub record Branches : Type 0 where
  pub whole : Plan
  pub other : Plan

abbrev pub at_one : ℕ → Branches → Place
at_one h b = still h (one h b.whole b.other)

abbrev pub behind_one : ℕ → Branches → Place
behind_one h b = still h (behind_step h b.whole b.other)

-- behind a step that up to so many more follow, until one stops for another cause
abbrev pub behind_first : ℕ → ℕ → Plan → Place
behind_first more h next = still h (behind_step h (stepped more h next) (stop_line h next))

-- hart h stands behind a whole step, or not: dcsr was read, or it was known
pub data StepSeen (h : ℕ) (old new : Tells) (whole : Bool) : Type 0 where
  read : {word : ℕ} → Got h dcsr_number word old new → shows_step word ≡ whole → StepSeen h old new whole
  known : IsWhole h old.far → new ≡ old → whole ≡ true → StepSeen h old new whole
