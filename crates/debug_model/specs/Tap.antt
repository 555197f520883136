-- The TAP controller: its sixteen states and how TMS leads from one to the next; and the device identification of this chip.
-- IEEE 1149.1, the TAP controller state diagram and the device identification register.
use Rattle.std.specs.Prelude.{ℕ, Bool, true, false}
use Rattle.debug_model.specs.declared.tap_state.TapState.{TapState}
use Rattle.debug_model.specs.declared.tap_state.TapState.TheVariants.{TestLogicReset, RunTestIdle, SelectDr, CaptureDr, ShiftDr, Exit1Dr, PauseDr, Exit2Dr}
use Rattle.debug_model.specs.declared.tap_state.TapState.TheVariants.{UpdateDr, SelectIr, CaptureIr, ShiftIr, Exit1Ir, PauseIr, Exit2Ir, UpdateIr}

-- the state behind a rise of TCK, by the state before it and TMS
abbrev pub next_state : TapState → Bool → TapState
next_state TestLogicReset false = RunTestIdle
next_state TestLogicReset true = TestLogicReset
next_state RunTestIdle false = RunTestIdle
next_state RunTestIdle true = SelectDr
next_state SelectDr false = CaptureDr
next_state SelectDr true = SelectIr
next_state CaptureDr false = ShiftDr
next_state CaptureDr true = Exit1Dr
next_state ShiftDr false = ShiftDr
next_state ShiftDr true = Exit1Dr
next_state Exit1Dr false = PauseDr
next_state Exit1Dr true = UpdateDr
next_state PauseDr false = PauseDr
next_state PauseDr true = Exit2Dr
next_state Exit2Dr false = ShiftDr
next_state Exit2Dr true = UpdateDr
next_state UpdateDr false = RunTestIdle
next_state UpdateDr true = SelectDr
next_state SelectIr false = CaptureIr
next_state SelectIr true = TestLogicReset
next_state CaptureIr false = ShiftIr
next_state CaptureIr true = Exit1Ir
next_state ShiftIr false = ShiftIr
next_state ShiftIr true = Exit1Ir
next_state Exit1Ir false = PauseIr
next_state Exit1Ir true = UpdateIr
next_state PauseIr false = PauseIr
next_state PauseIr true = Exit2Ir
next_state Exit2Ir false = ShiftIr
next_state Exit2Ir true = UpdateIr
next_state UpdateIr false = RunTestIdle
next_state UpdateIr true = SelectDr

-- the device identification of this chip, a choice of its own: version 1, part 0x0d64, manufacturer 0
abbrev pub idcode : ℕ
idcode = 0x10d64001
