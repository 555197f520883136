-- What stands behind the transport between operations, where no command and no access of the bus is under way: turns of harts alone go on.
-- RISC-V Debug Specification 1.0, "Run Control": a halted hart that nobody asks to resume stays as it is.
use Rattle.std.specs.Prelude.{◌≡◌, ◌++◌, ℕ, List, [], false, Some, None, slice_get, slice_set}
use Rattle.rv_model.specs.declared.cause.Cause.{Cause}
use Rattle.rv_model.specs.Board.{Board, Hart}
use Rattle.debug_model.specs.Module.{Site}
use Rattle.abstract_debugger.specs.Turns.{after_turns, turns}

-- ---- turns along a site

-- a site behind the turns of these harts, each of which is there
abbrev pub spun : List ℕ → Site → Site
spun harts s = record { unit = s.unit; board = after_turns harts s.board; journal = s.journal ++ turns harts }

-- no command is under way, and no access of the bus
pub record IsQuiet (s : Site) : Type 0 where
  pub no_command : s.unit.commands.steps ≡ []
  pub no_access : s.unit.bus.pending ≡ None

-- turns, and nothing else
pub record TurnsAlone (s t : Site) : Type 0 where
  pub harts : List ℕ
  pub is : t ≡ spun harts s

-- turns, this change, and turns
pub record Amid (change : Site → Site) (s t : Site) : Type 0 where
  pub before : List ℕ
  pub behind : List ℕ
  pub is : t ≡ spun behind (change (spun before s))

-- ---- a hart that turns pass by

-- hart h is this one, halted, and nobody asks it to resume
pub record IsFrozenAs (h : ℕ) (x : Hart) (b : Board) : Type 0 where
  pub why : Cause
  pub is : slice_get b.harts h ≡ Some x
  pub halted : x.debug.halted ≡ Some why
  pub not_asked : x.debug.resume_request ≡ false

-- a board with another hart in the place of hart h
abbrev pub put_hart : ℕ → Hart → Board → Board
put_hart h y b = record { harts = slice_set b.harts h y; memory = b.memory }
