-- What a trigger that fires makes of a hart before it halts: the slots that fired have their hit.
-- RISC-V Debug Specification 1.0, "Match Control Type 6" and "Instruction Count".
use Rattle.std.specs.Prelude.{if◌then◌else◌}
use Rattle.rv_model.specs.declared.touch.Touch.{Touch}
use Rattle.rv_model.specs.Board.{Hart}
use Rattle.rv_model.specs.Triggers.{marked}
use Rattle.rv_model.specs.Turn.{some_fires}

abbrev pub with_marks : Touch → Hart → Hart
with_marks touch h = record h { debug = record h.debug { slots = marked touch h.debug.slots } }

-- where none fires the hart is as it was
abbrev pub stopped_at_trigger : Touch → Hart → Hart
stopped_at_trigger touch h = if some_fires touch h then with_marks touch h else h
