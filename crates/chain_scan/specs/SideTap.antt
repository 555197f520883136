-- A side TAP: a device beside the chip in one chain, by the TAP's own rules, with an instruction register of its own length and no register but its
-- identification and BYPASS. IEEE 1149.1, the state diagram, the instruction register, the bypass register and the device identification register. That every
-- instruction but the one behind a reset selects BYPASS, and what identifies such a device, are this project's own choices.
use Rattle.std.specs.Prelude.{ℕ, List, [], ◌∷◌, Bool, true, false, if◌then◌else◌}
use Rattle.jt_base.specs.BitList.{bits_of, lowest, shift_in}
use Rattle.debug_model.specs.declared.tap_state.TapState.{TapState}
use Rattle.debug_model.specs.declared.tap_state.TapState.TheVariants.{TestLogicReset, CaptureDr, ShiftDr, CaptureIr, ShiftIr, UpdateIr}
use Rattle.debug_model.specs.Tap.{next_state}

-- the bits of an instruction register
abbrev pub width_least : ℕ
width_least = 2

abbrev pub width_most : ℕ
width_most = 8

pub record SideTap : Type 0 where
  pub width : ℕ  -- the bits of its instruction register
  pub state : TapState
  pub identifies : Bool  -- whether its identification is selected, and not BYPASS
  pub shift : List Bool
  pub tdo : Bool
  pub held : Bool  -- TRST is 1

-- version 1, and 0 for the part number and the manufacturer
abbrev pub side_identification : ℕ
side_identification = 0x10000001

abbrev pub identification_width : ℕ
identification_width = 32

-- BYPASS is one bit, which captures 0
abbrev pub captured_by : Bool → List Bool
captured_by true = bits_of identification_width side_identification
captured_by false = false ∷ []

-- the two lowest bits of an instruction register capture 01, and here the others 0
abbrev pub captured_instruction : ℕ → List Bool
captured_instruction width = bits_of width 0b01

-- ---- a rise of TCK with these levels of TMS and TDI

abbrev pub identifies_in : TapState → Bool → Bool
identifies_in TestLogicReset identifies = true
identifies_in _ identifies = identifies

abbrev pub side_shift_after : TapState → SideTap → Bool → List Bool
side_shift_after CaptureDr t tdi = captured_by t.identifies
side_shift_after ShiftDr t tdi = shift_in tdi t.shift
side_shift_after CaptureIr t tdi = captured_instruction t.width
side_shift_after ShiftIr t tdi = shift_in tdi t.shift
side_shift_after _ t tdi = t.shift

abbrev pub side_risen : Bool → Bool → SideTap → SideTap
side_risen tms tdi t = record t {
  state = next_state t.state tms;
  identifies = identifies_in (next_state t.state tms) t.identifies;
  shift = side_shift_after t.state t tdi;
}

-- while TRST is 1 a rise leaves it as it is
abbrev pub side_rises : Bool → Bool → SideTap → SideTap
side_rises tms tdi t = if t.held then t else side_risen tms tdi t

-- ---- a fall of TCK

-- every instruction that is shifted in selects BYPASS
abbrev pub identifies_after : TapState → Bool → Bool
identifies_after UpdateIr identifies = false
identifies_after _ identifies = identifies

-- a fall in a Shift state puts the lowest bit on TDO, and one in any other state puts 0 there
abbrev pub side_tdo_after : TapState → List Bool → Bool
side_tdo_after ShiftDr bits = lowest bits
side_tdo_after ShiftIr bits = lowest bits
side_tdo_after _ bits = false

abbrev pub side_falls : SideTap → SideTap
side_falls t = record t { identifies = identifies_after t.state t.identifies; tdo = side_tdo_after t.state t.shift }

-- ---- TRST and the start

abbrev pub side_holds : Bool → SideTap → SideTap
side_holds true t = record t { state = TestLogicReset; identifies = true; tdo = false; held = true }
side_holds false t = record t { held = false }

abbrev pub reset_side : ℕ → SideTap
reset_side width = record { width = width; state = TestLogicReset; identifies = true; shift = []; tdo = false; held = false }
