-- What stands behind the transport as turns alone leave it, and beside them one halted hart that a debugger changes meanwhile.
-- It is this project's own word for the time that RISC-V Debug Specification 1.0 leaves to the chip.
use Rattle.std.specs.Prelude.{◌≡◌, ℕ, false, List, [], ◌∷◌, ◌++◌, Some, slice_get, slice_set}
use Rattle.rv_model.specs.declared.cause.Cause.{Cause}
use Rattle.rv_model.specs.Board.{Board, Hart}
use Rattle.rv_model.specs.Memory.{Memory}
use Rattle.debug_model.specs.declared.point.Point.TheVariants.{Access}
use Rattle.debug_model.specs.Commands.{CommandUnit}
use Rattle.debug_model.specs.Deeds.{Deed, turned}
use Rattle.debug_model.specs.Deeds.Deed.{Turned, CommandStepped, BusStepped}
use Rattle.debug_model.specs.Module.{DebugModule, Site}

-- a site behind turns of these harts, one after the other
unfoldable pub passed : List ℕ → Site → Site
passed [] s = s
passed (h ∷ harts) s = passed harts (turned h s)

-- the harts of the turns among some deeds
abbrev pub harts_of : List Deed → List ℕ
harts_of [] = []
harts_of (Turned h ∷ ds) = h ∷ harts_of ds
harts_of (CommandStepped ∷ ds) = harts_of ds
harts_of (BusStepped ∷ ds) = harts_of ds

abbrev pub put_hart : ℕ → Hart → Board → Board
put_hart h y b = record { harts = slice_set b.harts h y; memory = b.memory }

-- the site with hart h as given, and its module
abbrev pub aside : DebugModule → ℕ → Hart → Site → Site
aside m h y s = record { unit = m; board = put_hart h y s.board; journal = s.journal }

-- an access was made, and left this memory
abbrev pub accessed : Memory → Site → Site
accessed m s = record { unit = s.unit; board = record { harts = s.board.harts; memory = m }; journal = s.journal ++ Access ∷ [] }

abbrev pub with_unit : CommandUnit → DebugModule → DebugModule
with_unit c m = record m { commands = c }

-- a hart that stays halted: no resume is asked of it
pub record Frozen (hart : Hart) : Type 0 where
  pub why : Cause
  pub halted : hart.debug.halted ≡ Some why
  pub not_asked : hart.debug.resume_request ≡ false

-- hart h of a site is this one
abbrev pub HartAt : ℕ → Site → Hart → Type 0
HartAt h s x = slice_get s.board.harts h ≡ Some x
