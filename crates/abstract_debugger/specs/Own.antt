-- A run's own entries: of a trace the executions, the register writes and the memory writes, which are all that an undebugged machine can have.
-- It is this project's own.
use Rattle.std.specs.Prelude.{List, [], ◌∷◌}
use Rattle.rv_model.specs.Board.{Machine}
use Rattle.rv_model.specs.Undebugged.{Entry, entered}
use Rattle.abstract_debugger.specs.Trace.{Note, Past}
use Rattle.abstract_debugger.specs.Trace.Note.{Did, Stop, Arm, Free, Patched}

-- in order
abbrev pub own : List Note → List Entry
own [] = []
own (Did entry ∷ notes) = entry ∷ own notes
own (Stop hart why slots ∷ notes) = own notes
own (Arm hart slot what ∷ notes) = own notes
own (Free hart slot ∷ notes) = own notes
own (Patched address covers ∷ notes) = own notes

-- ---- the undebugged machine over a past

abbrev pub lived_on : Note → Machine → Machine
lived_on (Did entry) m = entered entry m
lived_on (Stop hart why slots) m = m
lived_on (Arm hart slot what) m = m
lived_on (Free hart slot) m = m
lived_on (Patched address covers) m = m

-- the machine that nobody debugs, behind a past's own entries
abbrev pub lived : Machine → Past → Machine
lived m [] = m
lived m (note ∷ past) = lived_on note (lived m past)
