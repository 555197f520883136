-- A micro step's outcome by its parts, as the code answers them.
use Rattle.std.specs.Prelude.{Bool}
use Rattle.rv_model.specs.Board.{Hart}
use Rattle.rv_model.specs.Memory.{Memory}
use Rattle.debug_model.specs.Commands.{CommandUnit, Stepped}

abbrev pub stepped_to : CommandUnit → Hart → Memory → Bool → Stepped
stepped_to u hart m accessed = record { unit = u; hart = hart; memory = m; accessed = accessed }
