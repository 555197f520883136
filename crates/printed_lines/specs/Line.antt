-- Which line a value of the code stands for.
-- The lines are those of abstract_debugger.
use Rattle.abstract_debugger.specs.Lines.{Line}
use Rattle.abstract_debugger.specs.Lines.Line.{
  Idcode,
  Selected,
  Halted,
  Running,
  Resumed,
  Register,
  Element,
  Wrote,
  Row,
  Via,
  Ebreak,
  Slot,
  Loaded,
  SoftSet,
  SoftClear,
  NoHart,
  IsRunning,
  MemoryFault,
  RegisterRefused,
  NoFreeSlot,
  SlotNotInUse,
  SoftIsSet,
  SoftNotSet,
  NoFreeSoftBreak,
  SoftBreaksAreSet,
}
use Rattle.abstract_debugger.specs.SlotUses.{hits_in, use_named}
use Rattle.printed_lines.specs.declared.line.Line.{Line as PrintedLine}
use Rattle.printed_lines.specs.declared.line.Line.TheVariants as line

abbrev pub line_of : PrintedLine → Line
line_of (line.Idcode number) = Idcode number
line_of (line.Selected hart) = Selected hart
line_of (line.Halted pc cause hits) = Halted pc cause (hits_in hits)
line_of line.Running = Running
line_of line.Resumed = Resumed
line_of (line.Register number value) = Register number value
line_of (line.Element address size value) = Element address size value
line_of (line.Wrote count) = Wrote count
line_of (line.Row address bytes) = Row address bytes.items
line_of (line.Via path) = Via path
line_of (line.Ebreak is_on) = Ebreak is_on
line_of (line.Slot number use_here hit) = Slot number (use_named use_here) hit
line_of (line.Loaded count) = Loaded count
line_of (line.SoftSet address) = SoftSet address
line_of (line.SoftClear address) = SoftClear address
line_of (line.NoHart hart) = NoHart hart
line_of (line.IsRunning hart) = IsRunning hart
line_of (line.MemoryFault address) = MemoryFault address
line_of (line.RegisterRefused number) = RegisterRefused number
line_of line.NoFreeSlot = NoFreeSlot
line_of (line.SlotNotInUse number) = SlotNotInUse number
line_of (line.SoftIsSet address) = SoftIsSet address
line_of (line.SoftNotSet address) = SoftNotSet address
line_of line.NoFreeSoftBreak = NoFreeSoftBreak
line_of line.SoftBreaksAreSet = SoftBreaksAreSet
