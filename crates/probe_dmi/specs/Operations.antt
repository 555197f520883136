-- What is seen of a link over scans, and what a call on a transport's registers leaves.
use Rattle.std.specs.Prelude.{◌≡◌, ℕ, ◌++◌, List, [], ◌∷◌, Bool, true, false, Option, Result, Ok, Err, option_map}
use Rattle.debug_model.specs.declared.asked.Asked.{Asked}
use Rattle.debug_model.specs.declared.asked.Asked.TheVariants.{Reset}
use Rattle.debug_model.specs.Asked.{Asking}
use Rattle.debug_model.specs.Dmi.{Scans}
use Rattle.debug_model.specs.Kept.{DmiSeen, ScanSeen}
use Rattle.debug_model.specs.Rises.{BusyOnce, RisesByBusy, Within}
use Rattle.probe_dmi.specs.declared.state.State.{State}
use Rattle.probe_dmi.specs.declared.state.State.TheVariants.{New, Idle, Dead}

-- the results behind a scan that was no ignored one: it fetched one where an operation was in flight
abbrev pub kept : Bool → ℕ → List ℕ → List ℕ
kept false value results = results
kept true value results = results ++ value ∷ []

-- what a reset asks for where a link was not left in Run-Test/Idle
abbrev pub reset_first : State → List Asked
reset_first New = Reset ∷ []
reset_first Idle = []
reset_first Dead = Reset ∷ []

abbrev pub is_alive_as : State → Bool
is_alive_as New = true
is_alive_as Idle = true
is_alive_as Dead = false

-- by what a call on a transport's registers answered
abbrev pub LeavesState : {A E : Type 0} → State → Result A E → Type 0
LeavesState state (Ok value) = state ≡ Idle
LeavesState state (Err fault) = state ≡ Dead

-- with an address of so many bits
abbrev pub asking : ℕ → Option (List Asked) → Option Asking
asking abits asked = option_map (λ acts. record { acts = acts; abits = abits }) asked

-- what is seen of a link over scans
abbrev pub link_seen : ScanSeen → State → ℕ → DmiSeen
link_seen s state abits = record {
  far = s.far;
  coming = option_map Scans s.coming;
  asked = asking abits s.asked;
  is_alive = is_alive_as state;
  fault_count = s.fault_count;
  fixed = s.fixed;
}

-- how often a call of so many operations lets TCK rise, and how often it finds the transport busy
pub record Bounded (operations : ℕ) (old new : DmiSeen) : Type 0 where
  pub by_busy : RisesByBusy operations old new
  pub once : BusyOnce operations old new
  pub rises : Within operations old new
