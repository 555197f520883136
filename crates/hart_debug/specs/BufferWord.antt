-- A word of the program buffer as a hart runs it: the parts of the definition in the words of the code.
-- RISC-V Debug Specification 1.0, "Program Buffer".
use Rattle.std.specs.Prelude.{Bool, ◌||◌, is_some}
use Rattle.rv_model.specs.declared.touch.Touch.{Touch}
use Rattle.rv_model.specs.Board.{Hart}
use Rattle.rv_model.specs.Memory.{Memory}
use Rattle.rv_model.specs.ProgramBuffer.{Debugged}
use Rattle.hart_debug.specs.declared.ran_word.RanWord.{RanWord}

abbrev pub ran_to : Hart → Memory → RanWord → Debugged
ran_to h m ran = record { hart = h; memory = m; did = ran.did; accessed = ran.accessed }

abbrev pub touches_memory : Touch → Bool
touches_memory t = is_some t.load || is_some t.store
