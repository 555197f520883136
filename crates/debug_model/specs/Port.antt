-- The TAP with its instruction register and test data registers: what an edge of TCK does to the port and to the transport behind it, and TRST.
-- IEEE 1149.1, the state diagram, the instruction register, the bypass and the device identification register;
-- RISC-V Debug Specification 1.0, "JTAG DTM Registers", for the codes.
use Rattle.std.specs.Prelude.{ℕ, ◌==◌, List, [], Bool, true, false, if◌then◌else◌}
use Rattle.jt_base.specs.BitList.{bits_of, number_of, shift_in, lowest}
use Rattle.debug_model.specs.declared.data_register.DataRegister.{DataRegister}
use Rattle.debug_model.specs.declared.data_register.DataRegister.TheVariants.{Idcode, Dtmcs, Dmi, Bypass}
use Rattle.debug_model.specs.declared.tap_state.TapState.{TapState}
use Rattle.debug_model.specs.declared.tap_state.TapState.TheVariants.{TestLogicReset, CaptureDr, ShiftDr, UpdateDr, CaptureIr, ShiftIr, UpdateIr}
use Rattle.debug_model.specs.Tap.{next_state}
use Rattle.debug_model.specs.Transport.{Dtm, fresh_dtm, captured_bits, captured_dtm, updated_dtm, sets_busy}

abbrev pub idcode_code : ℕ
idcode_code = 0x01

abbrev pub dtmcs_code : ℕ
dtmcs_code = 0x10

abbrev pub dmi_code : ℕ
dmi_code = 0x11

-- the register that an instruction code of five bits selects; every other code selects BYPASS, a choice of this project
abbrev pub data_register_of : ℕ → DataRegister
data_register_of code =
    if code == idcode_code then Idcode
    else (if code == dtmcs_code then Dtmcs
    else (if code == dmi_code then Dmi else Bypass))

-- the bits of an instruction
abbrev pub instruction_width : ℕ
instruction_width = 5

-- the instruction register captures 00001, of which the standard fixes the two lowest bits
unfoldable pub captured_code : List Bool
captured_code = bits_of instruction_width 0b00001

-- TMS and TDI are sampled at a rise, so they belong to the edges and not to the port. One shift register serves both
-- columns, since a capture comes before each shift.
pub record Port : Type 0 where
  pub state : TapState
  pub selected : DataRegister  -- what the instruction selects
  pub shift : List Bool
  pub tdo : Bool
  pub held : Bool  -- TRST is 1

pub record Tap : Type 0 where
  pub port : Port
  pub dtm : Dtm

-- ---- a rise of TCK with these levels of TMS and TDI

-- whenever the controller enters Test-Logic-Reset, the instruction becomes IDCODE
abbrev pub selected_in : TapState → DataRegister → DataRegister
selected_in TestLogicReset r = Idcode
selected_in _ r = r

-- a rise in a Capture state captures, and one in a Shift state shifts TDI in
abbrev pub shift_after : TapState → DataRegister → Dtm → Bool → List Bool → List Bool
shift_after CaptureDr r d tdi bits = captured_bits r d
shift_after ShiftDr r d tdi bits = shift_in tdi bits
shift_after CaptureIr r d tdi bits = captured_code
shift_after ShiftIr r d tdi bits = shift_in tdi bits
shift_after _ r d tdi bits = bits

abbrev pub risen : Bool → Bool → Dtm → Port → Port
risen tms tdi d p = record {
  state = next_state p.state tms;
  selected = selected_in (next_state p.state tms) p.selected;
  shift = shift_after p.state p.selected d tdi p.shift;
  tdo = p.tdo;
  held = p.held;
}

-- while TRST is 1 a rise leaves the port as it is
abbrev pub port_risen : Bool → Bool → Dtm → Port → Port
port_risen tms tdi d p = if p.held then p else risen tms tdi d p

abbrev pub captured_in : TapState → DataRegister → Dtm → Dtm
captured_in CaptureDr r d = captured_dtm r d
captured_in _ r d = d

abbrev pub dtm_risen : Port → Dtm → Dtm
dtm_risen p d = if p.held then d else captured_in p.state p.selected d

abbrev pub busy_in : TapState → DataRegister → Dtm → Bool
busy_in CaptureDr r d = sets_busy r d
busy_in _ r d = false

-- does this rise set the sticky status to 3?
abbrev pub rise_finds_busy : Port → Dtm → Bool
rise_finds_busy p d = if p.held then false else busy_in p.state p.selected d

abbrev pub tap_rises : Bool → Bool → Tap → Tap
tap_rises tms tdi t = record { port = port_risen tms tdi t.dtm t.port; dtm = dtm_risen t.port t.dtm }

-- ---- a fall of TCK

-- a fall in a Shift state puts the lowest bit on TDO, and one in any other state puts 0 there
abbrev pub tdo_after : TapState → List Bool → Bool
tdo_after ShiftDr bits = lowest bits
tdo_after ShiftIr bits = lowest bits
tdo_after _ bits = false

-- a fall in Update-IR makes the shifted code the instruction
abbrev pub selected_after : TapState → List Bool → DataRegister → DataRegister
selected_after UpdateIr bits r = data_register_of (number_of bits)
selected_after _ bits r = r

abbrev pub port_fallen : Port → Port
port_fallen p = record p { selected = selected_after p.state p.shift p.selected; tdo = tdo_after p.state p.shift }

-- and one in Update-DR updates the selected register
abbrev pub updated_in : TapState → DataRegister → List Bool → Dtm → Dtm
updated_in UpdateDr r bits d = updated_dtm r bits d
updated_in _ r bits d = d

abbrev pub dtm_fallen : Port → Dtm → Dtm
dtm_fallen p d = updated_in p.state p.selected p.shift d

abbrev pub tap_falls : Tap → Tap
tap_falls t = record { port = port_fallen t.port; dtm = dtm_fallen t.port t.dtm }

-- ---- TRST and the start

-- TRST takes a level: 1 puts the controller into Test-Logic-Reset and TDO to 0; the transport stays
abbrev pub port_held : Bool → Port → Port
port_held true p = record { state = TestLogicReset; selected = Idcode; shift = p.shift; tdo = false; held = true }
port_held false p = record p { held = false }

abbrev pub tap_holds : Bool → Tap → Tap
tap_holds on t = record t { port = port_held on t.port }

abbrev pub reset_port : Port
reset_port = record { state = TestLogicReset; selected = Idcode; shift = []; tdo = false; held = false }

-- as the chip begins
abbrev pub reset_tap : Tap
reset_tap = record { port = reset_port; dtm = fresh_dtm }
