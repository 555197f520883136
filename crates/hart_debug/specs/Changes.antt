-- How a hart is made, and the changes of its debug part that neither a turn nor a request makes: the bits of dcsr, and the debugger's word that it knows of
-- a reset.
-- RISC-V Debug Specification 1.0, "Debug Control and Status" (step, ebreakm) and "Debug Module Control" (ackhavereset).
use Rattle.std.specs.Prelude.{Bool, false, Option}
use Rattle.rv_model.specs.declared.cause.Cause.{Cause}
use Rattle.rv_model.specs.Board.{DebugPart, runs, halted_by_reset}
use Rattle.hart_debug.specs.declared.start.Start.{Start}
use Rattle.hart_debug.specs.declared.start.Start.TheVariants.{Running, Halted}

-- the cause of a new hart's halt, or none where it runs
abbrev pub start_cause : Start → Option Cause
start_cause Running = runs
start_cause Halted = halted_by_reset

abbrev pub step_set : Bool → DebugPart → DebugPart
step_set on d = record d { step = on }

abbrev pub ebreakm_set : Bool → DebugPart → DebugPart
ebreakm_set on d = record d { ebreakm = on }

abbrev pub reset_acked : DebugPart → DebugPart
reset_acked d = record d { have_reset = false }
