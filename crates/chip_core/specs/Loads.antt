-- What a load puts onto the bench, and the numbers of its refusals. The checks are made in the order of the numbers 3, 2, 1, 4.
-- How a program comes into the chip is this project's own choice.
use Rattle.std.specs.Prelude.{◌≡◌, ℕ, ◌≤◌, List, length, All}
use Rattle.rv_model.specs.declared.version.Version.{Version}
use Rattle.rv_model.specs.declared.version.Version.TheVariants.{V10}
use Rattle.debug_model.specs.declared.event.Event.{Event}
use Rattle.debug_model.specs.Chip.{Live}
use Rattle.debug_model.specs.Loaded.{live, loaded_board, loaded_chip, usual_points}
use Rattle.debug_model.specs.Schedule.{RoundPlan}
use Rattle.hart_debug.specs.Changes.{start_cause}
use Rattle.hart_debug.specs.declared.start.Start.{Start}
use Rattle.chip_core.specs.declared.load_fault.LoadFault.{LoadFault}
use Rattle.chip_core.specs.declared.load_fault.LoadFault.TheVariants.{BadHarts, BadSize, TooLong, NoMemory}

-- a chip of this release with this limit of points
abbrev pub loaded_as : Version → List ℕ → ℕ → ℕ → Start → RoundPlan → ℕ → Live
loaded_as version image harts ram start plan most_points =
    live (loaded_chip version (loaded_board version image harts ram (start_cause start)) plan most_points)

-- of release 1.0
abbrev pub loaded_with : List ℕ → ℕ → ℕ → Start → RoundPlan → ℕ → Live
loaded_with image harts ram start plan most_points = loaded_as V10 image harts ram start plan most_points

-- with the usual limit
abbrev pub loaded : List ℕ → ℕ → ℕ → Start → RoundPlan → Live
loaded image harts ram start plan = loaded_with image harts ram start plan usual_points

-- a schedule that has given no round yet
pub record IsFirst (plan : RoundPlan) : Type 0 where
  pub rounds : All (λ (r : List Event). length r ≤ 8) plan.rounds
  pub place : plan.place ≡ 0

abbrev pub load_fault_number : LoadFault → ℕ
load_fault_number TooLong = 1
load_fault_number BadSize = 2
load_fault_number BadHarts = 3
load_fault_number NoMemory = 4
