-- The line that a printed line says.
-- It is this project's own.
use Rattle.std.specs.Prelude.{ℕ, Bool, List, [], if◌then◌else◌, ◌==◌}
use Rattle.abstract_debugger.specs.Lines.{Line}
use Rattle.abstract_debugger.specs.SlotUses.{hits_in}
use Rattle.printed_lines.specs.declared.line.Line.{Line as PrintedLine}
use Rattle.printed_lines.specs.declared.line.Line.TheVariants as printed
use Rattle.printed_lines.specs.Line.{line_of}

-- the slots with a hit are shown beside the cause trigger alone
abbrev pub shown_beside : ℕ → List Bool → List Bool
shown_beside cause hits = if cause == 2 then hits else []

abbrev pub said_by : PrintedLine → Line
said_by (printed.Halted pc cause hits) = Line.Halted pc cause (shown_beside cause (hits_in hits))
said_by (printed.Idcode number) = Line.Idcode number
said_by (printed.Selected hart) = Line.Selected hart
said_by printed.Running = Line.Running
said_by printed.Resumed = Line.Resumed
said_by (printed.Register number value) = Line.Register number value
said_by (printed.Element address size value) = Line.Element address size value
said_by (printed.Wrote count) = Line.Wrote count
said_by (printed.Row address bytes) = Line.Row address bytes.items
said_by (printed.Via path) = Line.Via path
said_by (printed.Ebreak is_on) = Line.Ebreak is_on
said_by (printed.Slot slot used hit) = line_of (printed.Slot slot used hit)
said_by (printed.Loaded count) = Line.Loaded count
said_by (printed.SoftSet address) = Line.SoftSet address
said_by (printed.SoftClear address) = Line.SoftClear address
said_by (printed.NoHart hart) = Line.NoHart hart
said_by (printed.IsRunning hart) = Line.IsRunning hart
said_by (printed.MemoryFault address) = Line.MemoryFault address
said_by (printed.RegisterRefused number) = Line.RegisterRefused number
said_by printed.NoFreeSlot = Line.NoFreeSlot
said_by (printed.SlotNotInUse slot) = Line.SlotNotInUse slot
said_by (printed.SoftIsSet address) = Line.SoftIsSet address
said_by (printed.SoftNotSet address) = Line.SoftNotSet address
said_by printed.NoFreeSoftBreak = Line.NoFreeSoftBreak
said_by printed.SoftBreaksAreSet = Line.SoftBreaksAreSet
