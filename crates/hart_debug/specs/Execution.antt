-- What a hart executes in its turn, by whether a single step masks its interrupts.
-- RISC-V Debug Specification 1.0, "Debug Control and Status", the field stepie.
use Rattle.std.specs.Prelude.{Bool, if◌then◌else◌}
use Rattle.rv_model.specs.Core.{Core}
use Rattle.rv_model.specs.Effects.{Outcome}
use Rattle.rv_model.specs.Execute.{exec_masked_of, exec_of}
use Rattle.rv_model.specs.Memory.{Memory}

abbrev pub exec_by : (masked : Bool) → Core → Memory → Outcome
exec_by masked c m = if masked then exec_masked_of c m else exec_of c m
