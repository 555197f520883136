-- While a command is under way, the selected hart is halted, and no resume is asked of it: so it stays as the command needs it.
-- RISC-V Debug Specification 1.0, "Abstract Commands". It is true of a module that was just reset, and each deed behind the transport keeps it.
use Rattle.std.specs.Prelude.{◌≡◌, ℕ, true, List, slice_get}
use Rattle.rv_model.specs.declared.version.Version.{Version}
use Rattle.rv_model.specs.Board.{Hart}
use Rattle.debug_model.specs.declared.dmi_op.DmiOp.{DmiOp}
use Rattle.debug_model.specs.Commands.{busy, serves}
use Rattle.debug_model.specs.Deeds.{turned, command_stepped, bus_stepped}
use Rattle.debug_model.specs.Module.{DebugModule, Site, operated, reset_module}

-- of a module and its harts
pub record IsServedBy (u : DebugModule) (hs : List Hart) : Type 0 where
  pub held : busy u.commands ≡ true → serves (slice_get hs u.hartsel) ≡ true

abbrev pub IsServed : Site → Type 0
IsServed s = IsServedBy s.unit s.board.harts

-- ---- that it stays so

abbrev pub ResetIsServed : Type 0
ResetIsServed = (version : Version) (hs : List Hart) → IsServedBy (reset_module version) hs

abbrev pub OperationsServe : Type 0
OperationsServe = (op : DmiOp) (s : Site) → IsServed s → IsServed (operated op s)

abbrev pub TurnsServe : Type 0
TurnsServe = (h : ℕ) (s : Site) → IsServed s → IsServed (turned h s)

abbrev pub CommandStepsServe : Type 0
CommandStepsServe = (s : Site) → IsServed s → IsServed (command_stepped s)

abbrev pub BusStepsServe : Type 0
BusStepsServe = (s : Site) → IsServed s → IsServed (bus_stepped s)
