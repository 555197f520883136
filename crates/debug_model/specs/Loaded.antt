-- The chip as it is loaded: an image in memory, harts as a reset leaves them, an empty journal with the limit of its points, and no byte taken yet.
-- How a program comes into the chip, where its harts start, and how many points it may have, is this project's own choice.
use Rattle.std.specs.Prelude.{◌≡◌, ◌⊎◌, ℕ, zero, suc, ◌<◌, ◌≤◌, ◌^◌, false, List, [], ◌∷◌, ◌++◌, length, replicate, Option, None, All}
use Rattle.rv_model.specs.declared.cause.Cause.{Cause}
use Rattle.debug_model.specs.declared.event.Event.{Event}
use Rattle.rv_model.specs.declared.version.Version.{Version}
use Rattle.rv_model.specs.Board.{Board, Hart, halted_by_reset, reset_harts, runs}
use Rattle.rv_model.specs.Image.{with_image}
use Rattle.rv_model.specs.Memory.{IsRamSize, Memory, msip_memory}
use Rattle.debug_model.specs.Chip.{Chip, Inside, Live, no_counts}
use Rattle.debug_model.specs.Module.{reset_module}
use Rattle.debug_model.specs.Port.{reset_port}
use Rattle.debug_model.specs.Schedule.{RoundPlan}
use Rattle.debug_model.specs.Transport.{fresh_dtm}

-- so many harts of a release, numbered from 0, halted for this reason or running
abbrev pub loaded_harts : Version → ℕ → Option Cause → List Hart
loaded_harts version harts halted = reset_harts version 0 (replicate harts halted)

-- an MSIP word of 0 for each hart, the image from the start of RAM on, and zeros behind it
abbrev pub loaded_memory : List ℕ → ℕ → ℕ → Memory
loaded_memory image ram harts = record (msip_memory ram harts) { bytes = with_image (msip_memory ram harts).bytes image }

abbrev pub loaded_board : Version → List ℕ → ℕ → ℕ → Option Cause → Board
loaded_board version image harts ram halted = record { harts = loaded_harts version harts halted; memory = loaded_memory image ram harts }

abbrev pub loaded_inside : Version → Board → RoundPlan → ℕ → Inside
loaded_inside version board plan most_points = record {
  works = record {
    dtm = fresh_dtm;
    site = record { unit = reset_module version; board = board; journal = [] };
    counts = no_counts;
    most_points = most_points;
  };
  plan = plan;
}

-- of a release, which its harts follow too
abbrev pub loaded_chip : Version → Board → RoundPlan → ℕ → Chip
loaded_chip version board plan most_points = record { tck = false; port = reset_port; inside = loaded_inside version board plan most_points }

abbrev pub live : Chip → Live
live c = record { chip = c; ended = None }

-- ---- what can be loaded

pub record RightHarts (harts : ℕ) : Type 0 where
  pub some : 0 < harts
  pub most : harts ≤ 4

abbrev pub Fits : List ℕ → ℕ → Type 0
Fits image ram = length image ≤ ram

-- the limit of points of a chip for which no other is named
abbrev pub usual_points : ℕ
usual_points = 16777200

pub record RightLimit (most_points : ℕ) : Type 0 where
  pub some : 0 < most_points
  pub most : most_points ≤ 2 ^ 62

-- a chip as loaded, of some release, by some image of bytes, size, harts, start, schedule at its start and limit
pub record AsLoaded (l : Live) : Type 0 where
  pub version : Version
  pub image : List ℕ
  pub harts : ℕ
  pub ram : ℕ
  pub halted : Option Cause
  pub plan : RoundPlan
  pub most_points : ℕ
  pub right : RightHarts harts
  pub size : IsRamSize ram
  pub fits : Fits image ram
  pub bytes : All (λ b. b < 256) image
  pub start : (halted ≡ runs) ⊎ (halted ≡ halted_by_reset)
  pub rounds : All (λ (r : List Event). length r ≤ 8) plan.rounds
  pub first : plan.place ≡ 0
  pub limit : RightLimit most_points
  pub is : l ≡ live (loaded_chip version (loaded_board version image harts ram halted) plan most_points)
