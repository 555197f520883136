-- Laws of the TAP in the words of its standard: ways into Test-Logic-Reset, TRST, the edges of TDO, and registers that are shifted.
-- IEEE 1149.1: the TAP controller's state diagram, TRST, the serial output TDO, the bypass register and the device identification register.
-- How the stream spells clocks, questions and TRST, whose 1 is the reset: OpenOCD, remote_bitbang.
use Rattle.std.specs.Prelude.{◌≡◌, ◌≢◌, ◌⊎◌, ℕ, ⊤, List, [], ◌∷◌, ◌++◌, length, replicate, All, Bool, true, false, Option, Some, None}
use Rattle.jt_base.specs.BitList.{bits_of}
use Rattle.debug_model.specs.declared.data_register.DataRegister.TheVariants.{Idcode, Bypass}
use Rattle.debug_model.specs.declared.sign.Sign.{Sign}
use Rattle.debug_model.specs.declared.sign.Sign.TheVariants.{Pins, Ask, Light, Reset, Quit}
use Rattle.debug_model.specs.declared.tap_state.TapState.{TapState}
use Rattle.debug_model.specs.declared.tap_state.TapState.TheVariants.{TestLogicReset, CaptureDr, ShiftDr, Exit1Dr, PauseDr, Exit2Dr, UpdateDr, CaptureIr}
use Rattle.debug_model.specs.declared.tap_state.TapState.TheVariants.{ShiftIr, Exit1Ir, PauseIr, Exit2Ir, UpdateIr}
use Rattle.debug_model.specs.Chip.{Chip, Live, feed, run, said, signed}
use Rattle.debug_model.specs.Loaded.{live}
use Rattle.debug_model.specs.Port.{Port, data_register_of, port_fallen, port_held, port_risen}
use Rattle.debug_model.specs.Scan.{comes_out, dr_bytes, path, reset_bytes, stays}
use Rattle.debug_model.specs.Signs.{sign_of}
use Rattle.debug_model.specs.Tap.{next_state}
use Rattle.debug_model.specs.Transport.{Dtm, captured_bits}

-- ---- the state diagram

-- the state behind rises with these levels of TMS
abbrev pub state_behind : TapState → List Bool → TapState
state_behind s [] = s
state_behind s (tms ∷ rest) = state_behind (next_state s tms) rest

-- five rises with TMS 1 lead into Test-Logic-Reset from everywhere, and four do not
pub record FiveOnesReset : Type 0 where
  pub five : (s : TapState) → state_behind s (replicate 5 true) ≡ TestLogicReset
  pub four_fall_short : state_behind ShiftDr (replicate 4 true) ≢ TestLogicReset

-- while TRST is 0 clocks lead the controller of a chip as TMS says
abbrev pub ClocksFollowTms : Type 0
ClocksFollowTms = (c : Chip) (levels : List Bool) → c.port.held ≡ false → (run c (path levels)).port.state ≡ state_behind c.port.state levels

-- the state of the instruction column that stands beside one of the data column
abbrev pub instruction_column : TapState → TapState
instruction_column CaptureDr = CaptureIr
instruction_column ShiftDr = ShiftIr
instruction_column Exit1Dr = Exit1Ir
instruction_column PauseDr = PauseIr
instruction_column Exit2Dr = Exit2Ir
instruction_column UpdateDr = UpdateIr
instruction_column s = s

pub data InDataColumn : TapState → Type 0 where
  at_capture : InDataColumn CaptureDr
  at_shift : InDataColumn ShiftDr
  at_exit1 : InDataColumn Exit1Dr
  at_pause : InDataColumn PauseDr
  at_exit2 : InDataColumn Exit2Dr
  at_update : InDataColumn UpdateDr

-- TMS leads through the instruction column as through the data column
abbrev pub ColumnsAgree : Type 0
ColumnsAgree = (s : TapState) (tms : Bool) → InDataColumn s → next_state (instruction_column s) tms ≡ instruction_column (next_state s tms)

-- ---- TDO

-- a sign that brings no fall of TCK, and no TRST 1; by the level of TCK before it
abbrev pub BringsNoFall : Bool → Option Sign → Type 0
BringsNoFall tck (Some (Pins new tms tdi)) = tck ≡ true → new ≡ true
BringsNoFall tck (Some Ask) = ⊤
BringsNoFall tck (Some Light) = ⊤
BringsNoFall tck (Some (Reset trst)) = trst ≡ false
BringsNoFall tck (Some Quit) = ⊤
BringsNoFall tck None = ⊤

-- TDO changes at falls alone, and where TRST resets the controller: a rise leaves it, as does every other sign
pub record TdoChangesAtFalls : Type 0 where
  pub rise : (tms tdi : Bool) (d : Dtm) (p : Port) → (port_risen tms tdi d p).tdo ≡ p.tdo
  pub sign : (c : Chip) (s : Option Sign) → BringsNoFall c.tck s → (signed s c).port.tdo ≡ c.port.tdo

abbrev pub Shifts : TapState → Type 0
Shifts s = (s ≡ ShiftDr) ⊎ (s ≡ ShiftIr)

-- a fall shows this bit, and the rise behind it shifts that bit out and TDI in
pub record ShowsNext (p : Port) (bit : Bool) (others : List Bool) : Type 0 where
  pub shown : (port_fallen p).tdo ≡ bit
  pub leaves : (tms tdi : Bool) (d : Dtm) → (port_risen tms tdi d (port_fallen p)).shift ≡ others ++ tdi ∷ []

-- in Shift-DR and Shift-IR a fall shows the bit that leaves next
abbrev pub FallsShowNext : Type 0
FallsShowNext = (p : Port) (bit : Bool) (others : List Bool) → p.held ≡ false → Shifts p.state → p.shift ≡ bit ∷ others → ShowsNext p bit others

-- ---- TRST

-- TRST 1 resets the controller without a clock, and no edge moves it then
pub record TrstResets (p : Port) : Type 0 where
  pub state : (port_held true p).state ≡ TestLogicReset
  pub selected : (port_held true p).selected ≡ Idcode
  pub rise : (tms tdi : Bool) (d : Dtm) → port_risen tms tdi d (port_held true p) ≡ port_held true p
  pub fall : port_fallen (port_held true p) ≡ port_held true p

abbrev pub TrstResetsPorts : Type 0
TrstResetsPorts = (p : Port) → TrstResets p

-- a byte that doesn't set TRST 0
abbrev pub LeavesTrst : ℕ → Type 0
LeavesTrst b = sign_of b ≢ Some (Reset false)

-- a chip behind a byte that sets TRST 1
abbrev pub held : Chip → Live
held c = live (signed (Some (Reset true)) c)

-- while TRST is 1 no bytes move the port, and so no path of clocks does
pub record TrstHolds : Type 0 where
  pub bytes : (c : Chip) (bytes : List ℕ) → All LeavesTrst bytes → (feed (held c) bytes).chip.port ≡ port_held true c.port
  pub clocks : (c : Chip) (levels : List Bool) → (feed (held c) (path levels)).chip.port ≡ port_held true c.port

-- ---- registers that are shifted

-- a scan as long as the register takes out just what was captured, and leaves just the given bits
pub record Exchanges (was bits : List Bool) : Type 0 where
  pub out : comes_out was bits ≡ was
  pub left : stays was bits ≡ bits

abbrev pub ScansExchange : Type 0
ScansExchange = (was bits : List Bool) → length was ≡ length bits → Exchanges was bits

-- a scan of any length: the captured bits and then the given ones; the first of them come out, as many as were given, and
-- the others stay, as many as the register has
pub record KeepsBits (was bits : List Bool) : Type 0 where
  pub joined : comes_out was bits ++ stays was bits ≡ was ++ bits
  pub out : length (comes_out was bits) ≡ length bits
  pub left : length (stays was bits) ≡ length was

abbrev pub ScansKeepBits : Type 0
ScansKeepBits = (was bits : List Bool) → KeepsBits was bits

-- the code of all ones selects the bypass register, which delays by one clock: a 0 comes out, and then what went in
pub record BypassDelays : Type 0 where
  pub code : data_register_of 0b11111 ≡ Bypass
  pub delays : (d : Dtm) (bits : List Bool) (last : Bool) → comes_out (captured_bits Bypass d) (bits ++ last ∷ []) ≡ false ∷ bits

-- ---- a worked scan

-- the path of a reset, and a scan of 32 zeros
abbrev pub idcode_scan : List ℕ
idcode_scan = reset_bytes ++ dr_bytes (bits_of 32 0)

-- 0x10d64001 as characters, the least significant bit first: 1000 0000 0000 0010 0110 1011 0000 1000
abbrev pub idcode_digits : List ℕ
idcode_digits =
    49 ∷ 48 ∷ 48 ∷ 48 ∷ 48 ∷ 48 ∷ 48 ∷ 48 ∷ 48 ∷ 48 ∷ 48 ∷ 48 ∷ 48 ∷ 48 ∷ 49 ∷ 48 ∷
    48 ∷ 49 ∷ 49 ∷ 48 ∷ 49 ∷ 48 ∷ 49 ∷ 49 ∷ 48 ∷ 48 ∷ 48 ∷ 48 ∷ 49 ∷ 48 ∷ 48 ∷ 48 ∷ []

-- from every state of the controller, whatever chip: unless it ends before, it answers its device identification
abbrev pub IdcodeComesOut : Type 0
IdcodeComesOut = (l : Live) → l.chip.port.held ≡ false → (feed l idcode_scan).ended ≡ None → said l idcode_scan ≡ idcode_digits
