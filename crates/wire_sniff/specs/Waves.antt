-- A recorded stream and its answers as a Value Change Dump: the levels of the wire, the state of the TAP, and what each scan of dmi shows as it ends.
-- IEEE 1364-2005, section 18.2, for the form. Time is the number of the sign, from 1; the names and codes of the variables are this project's own
-- (docs/SNIFFER.md, "Waveforms").
use Rattle.std.specs.Prelude.{ℕ, zero, suc, ◌+◌, ◌/◌, ◌%◌, List, [], ◌∷◌, ◌++◌, codes, decimal, flat_map, Bool, true, false, Option, None, Some}
use Rattle.wire_sniff.specs.Ends.{EndedBy, refusal_of}
use Rattle.wire_sniff.specs.declared.sniff_end.SniffEnd.{SniffEnd}
use Rattle.debug_model.specs.declared.dmi_op.DmiOp.{DmiOp}
use Rattle.debug_model.specs.declared.dmi_op.DmiOp.TheVariants.{Read, Write}
use Rattle.debug_model.specs.declared.sign.Sign.{Sign}
use Rattle.debug_model.specs.declared.sign.Sign.TheVariants.{Pins}
use Rattle.debug_model.specs.declared.tap_state.TapState.{TapState}
use Rattle.debug_model.specs.declared.tap_state.TapState.TheVariants as tap
use Rattle.debug_model.specs.ScriptText.{line_feed}
use Rattle.debug_model.specs.Signs.{sign_of}
use Rattle.wire_sniff.specs.Sniffed.{Sniffer, SniffedLine, counted_signs, first_sniffer, sign_lines, sniffed}
use Rattle.wire_sniff.specs.Sniffed.SniffedLine.{Instruction, Data, DmiOdd, DmiUnseen, DmiFailed, DmiBusy, Operation}

-- ---- the levels

-- what is shown of a moment: the sniffer keeps TCK and TRST, and TMS and TDI stand beside it
pub record Moment : Type 0 where
  pub tms : Bool
  pub tdi : Bool
  pub sniffer : Sniffer

abbrev pub first_moment : List ℕ → Moment
first_moment answers = record { tms = false; tdi = false; sniffer = first_sniffer answers }

abbrev pub tms_after : Option Sign → Bool → Bool
tms_after (Some (Pins tck tms tdi)) was = tms
tms_after _ was = was

abbrev pub tdi_after : Option Sign → Bool → Bool
tdi_after (Some (Pins tck tms tdi)) was = tdi
tdi_after _ was = was

abbrev pub moment_after : Option Sign → Moment → Moment
moment_after sign m = record { tms = tms_after sign m.tms; tdi = tdi_after sign m.tdi; sniffer = sniffed sign m.sniffer }

-- ---- values

abbrev pub level_digit : Bool → ℕ
level_digit false = 48
level_digit true = 49

-- TDO where it was asked since the last fall, else `x`
abbrev pub seen_digit : Option Bool → ℕ
seen_digit None = 120
seen_digit (Some level) = level_digit level

-- the lowest so many bits of a number, the highest first
unfoldable pub binary : ℕ → ℕ → List ℕ
binary zero n = []
binary (suc count) n = binary count (n / 2) ++ (48 + n % 2) ∷ []

-- one digit, or several, behind which the code of the variable stands
abbrev pub scalar : ℕ → ℕ → List ℕ
scalar digit code = digit ∷ code ∷ line_feed ∷ []

abbrev pub vector : ℕ → ℕ → ℕ → List ℕ
vector count n code = codes "b" ++ binary count n ++ codes " " ++ code ∷ line_feed ∷ []

-- the number of a state, in the order of docs/FORMATS.md, "The TAP"
abbrev pub state_number : TapState → ℕ
state_number tap.TestLogicReset = 0
state_number tap.RunTestIdle = 1
state_number tap.SelectDr = 2
state_number tap.CaptureDr = 3
state_number tap.ShiftDr = 4
state_number tap.Exit1Dr = 5
state_number tap.PauseDr = 6
state_number tap.Exit2Dr = 7
state_number tap.UpdateDr = 8
state_number tap.SelectIr = 9
state_number tap.CaptureIr = 10
state_number tap.ShiftIr = 11
state_number tap.Exit1Ir = 12
state_number tap.PauseIr = 13
state_number tap.Exit2Ir = 14
state_number tap.UpdateIr = 15

-- what a scan of dmi shows: 1 to 6 as read, write, failed, busy, odd and unseen; an address and a word, which are 0 where there is none
abbrev pub op_kind : DmiOp → ℕ
op_kind (Read address) = 1
op_kind (Write address value) = 2

abbrev pub op_address : DmiOp → ℕ
op_address (Read address) = address
op_address (Write address value) = address

abbrev pub op_value : DmiOp → ℕ
op_value (Read address) = 0
op_value (Write address value) = value

-- the event `dmi` with its three vectors
unfoldable pub dmi_change : ℕ → ℕ → ℕ → List ℕ
dmi_change kind address value = scalar 49 39 ++ vector 3 kind 40 ++ vector 7 address 41 ++ vector 32 value 42

abbrev pub line_change : SniffedLine → List ℕ
line_change (Instruction code) = []
line_change (Data code given taken) = []
line_change DmiFailed = dmi_change 3 0 0
line_change DmiBusy = dmi_change 4 0 0
line_change DmiOdd = dmi_change 5 0 0
line_change DmiUnseen = dmi_change 6 0 0
line_change (Operation op) = dmi_change (op_kind op) (op_address op) (op_value op)

-- every level, of TCK, TMS, TDI, TRST and TDO, and the state
unfoldable pub wire_levels : Bool → Bool → Bool → Bool → Option Bool → TapState → List ℕ
wire_levels tck tms tdi trst tdo state =
    scalar (level_digit tck) 33 ++ scalar (level_digit tms) 34 ++ scalar (level_digit tdi) 35 ++ scalar (level_digit trst) 36 ++ scalar (seen_digit tdo) 37
    ++ vector 4 (state_number state) 38

abbrev pub levels : Moment → List ℕ
levels m = wire_levels m.sniffer.tck m.tms m.tdi m.sniffer.held m.sniffer.answer m.sniffer.state

-- the line of a time
abbrev pub time_line : ℕ → List ℕ
time_line time = codes "#" ++ decimal time ++ line_feed ∷ []

-- a sign at its time: all levels behind it, and what it shows of a scan of dmi
unfoldable pub sign_wave : ℕ → Option Sign → Moment → List ℕ
sign_wave time sign m = time_line time ++ levels (moment_after sign m) ++ flat_map line_change (sign_lines sign m.sniffer)

unfoldable pub waves_from : ℕ → Moment → List ℕ → List ℕ
waves_from time m [] = []
waves_from time m (b ∷ bs) = sign_wave time (sign_of b) m ++ waves_from (time + 1) (moment_after (sign_of b) m) bs

-- ---- the whole text

abbrev pub header : List ℕ
header =
    codes "$timescale 1 us $end\n$scope module jtag $end\n" ++
    (codes "$var wire 1 ! tck $end\n$var wire 1 \" tms $end\n$var wire 1 # tdi $end\n" ++
    (codes "$var wire 1 $ trst $end\n$var wire 1 % tdo $end\n$var reg 4 & tap_state $end\n" ++
    (codes "$var event 1 ' dmi $end\n$var reg 3 ( dmi_kind $end\n$var reg 7 ) dmi_address $end\n" ++
    codes "$var reg 32 * dmi_value $end\n$upscope $end\n$enddefinitions $end\n#0\n")))

-- the first levels, and then sign after sign
abbrev pub wave_of : List ℕ → List ℕ → List ℕ
wave_of signs answers = levels (first_moment answers) ++ waves_from 1 (first_moment answers) signs

abbrev pub waves_of : List ℕ → List ℕ → List ℕ
waves_of stream answers = header ++ wave_of (counted_signs stream) answers

-- as `Sniffs`, with this text in the place of the lines
abbrev pub Draws : List ℕ → List ℕ → Option (List ℕ) → Option (List ℕ) → ℕ → ℕ → SniffEnd → Type 0
Draws stream answers = EndedBy (refusal_of (counted_signs stream) answers) (waves_of stream answers)
