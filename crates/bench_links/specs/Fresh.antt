-- A chip as it was loaded, told by what stands on the bench alone: its release, its harts, the bytes of its memory, its schedule and its limit.
-- So it is a fact that has one proof, which a net can keep until it is opened. How a program comes into the chip is this project's own choice.
use Rattle.std.specs.Prelude.{◌≡◌, ℕ, zero, suc, ◌+◌, ◌<◌, ◌≤◌, List, [], ◌∷◌, length, All, Option, None, Some, IfSome, unwrap_or}
use Rattle.std.specs.FinMap.{get}
use Rattle.rv_model.specs.declared.cause.Cause.{Cause}
use Rattle.rv_model.specs.declared.version.Version.{Version}
use Rattle.rv_model.specs.Board.{Board, Hart, halted_by_reset, runs}
use Rattle.rv_model.specs.Image.{ram_size}
use Rattle.rv_model.specs.Memory.{Bytes, IsRamSize, Memory, ram_base}
use Rattle.debug_model.specs.declared.event.Event.{Event}
use Rattle.debug_model.specs.Chip.{Live}
use Rattle.debug_model.specs.Loaded.{RightHarts, RightLimit, live, loaded_board, loaded_chip}
use Rattle.debug_model.specs.Schedule.{RoundPlan}

-- so many bytes from an address on, and 0 where memory has none
unfoldable pub bytes_at : Bytes → ℕ → ℕ → List ℕ
bytes_at m a zero = []
bytes_at m a (suc n) = unwrap_or (get m a) 0 ∷ bytes_at m (a + 1) n

-- all of RAM, as an image
abbrev pub image_of : Memory → List ℕ
image_of m = bytes_at m.bytes ram_base (ram_size m)

-- how the harts start, by the first of them
abbrev pub start_by : Option Cause → Option Cause
start_by None = runs
start_by (Some cause) = halted_by_reset

abbrev pub start_of : List Hart → Option Cause
start_of [] = runs
start_of (h ∷ hs) = start_by h.debug.halted

abbrev pub board_of : Live → Board
board_of l = l.chip.inside.works.site.board

abbrev pub release_of : Live → Version
release_of l = l.chip.inside.works.site.unit.version

abbrev pub plan_of : Live → RoundPlan
plan_of l = l.chip.inside.plan

abbrev pub limit_of : Live → ℕ
limit_of l = l.chip.inside.works.most_points

-- the board with what it has in RAM as its image, as a load of this release leaves it
abbrev pub reloaded : Version → Board → Board
reloaded v b = loaded_board v (image_of b.memory) (length b.harts) (ram_size b.memory) (start_of b.harts)

pub record IsLoadedBoard (b : Board) : Type 0 where
  pub right : RightHarts (length b.harts)
  pub size : IsRamSize (ram_size b.memory)
  pub bytes : All (λ x. x < 256) (image_of b.memory)

pub record IsFirstPlan (p : RoundPlan) : Type 0 where
  pub rounds : All (λ (r : List Event). length r ≤ 8) p.rounds
  pub first : p.place ≡ 0

-- just what was loaded
pub record IsJustLoaded (l : Live) : Type 0 where
  pub board : IsLoadedBoard (board_of l)
  pub plan : IsFirstPlan (plan_of l)
  pub limit : RightLimit (limit_of l)
  pub is : l ≡ live (loaded_chip (release_of l) (reloaded (release_of l) (board_of l)) (plan_of l) (limit_of l))

-- a bench whose chip was just loaded, and which has answered nothing yet
pub record IsFresh (bench : Option Live) (unread : List ℕ) : Type 0 where
  pub chip : IfSome bench IsJustLoaded
  pub none : unread ≡ []
