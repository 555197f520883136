-- What a recorded stream of signs and its answers show: the scans of a TAP, with the bits that were given to it and the bits that were taken from it, and the
-- operations of the debug module interface among them. Only the wire is looked at: the chip behind it may be any.
-- IEEE 1149.1, the state diagram and the instruction register; OpenOCD, remote_bitbang, for the signs; RISC-V Debug Specification 1.0, "Debug Module Interface
-- Access", for dmi. That a question between two falls is one about the bit of the next rise, and the lines themselves, are this project's own choices.
use Rattle.std.specs.Prelude.{ℕ, ◌==◌, List, [], ◌∷◌, ◌++◌, length, take, Bool, true, false, Option, None, Some, if◌then◌else◌}
use Rattle.std.specs.List.{before_first}
use Rattle.jt_base.specs.BitList.{number_of}
use Rattle.debug_model.specs.declared.dmi_op.DmiOp.{DmiOp}
use Rattle.debug_model.specs.declared.sign.Sign.{Sign}
use Rattle.debug_model.specs.declared.sign.Sign.TheVariants.{Pins, Ask, Light, Reset, Quit}
use Rattle.debug_model.specs.declared.tap_state.TapState.{TapState}
use Rattle.debug_model.specs.declared.tap_state.TapState.TheVariants.{TestLogicReset, CaptureDr, ShiftDr, UpdateDr, CaptureIr, ShiftIr, UpdateIr}
use Rattle.debug_model.specs.Chip.{answer_byte}
use Rattle.debug_model.specs.Port.{captured_code, dmi_code, idcode_code}
use Rattle.debug_model.specs.Scan.{stays}
use Rattle.debug_model.specs.Signs.{sign_of}
use Rattle.debug_model.specs.Tap.{next_state}
use Rattle.debug_model.specs.Transport.{dmi_width, operation_of}
use Rattle.debug_model.specs.TransportWords.{dmi_of, status_done, status_failed}

-- ---- the lines

pub data SniffedLine : Type 0 where
  Instruction : (code : ℕ) → SniffedLine  -- a scan of the instruction register left this code in it
  Data : (code : ℕ) → (given : List Bool) → (taken : List (Option Bool)) → SniffedLine  -- a scan of the data register that this code selects
  DmiOdd : SniffedLine  -- a scan of dmi of another length than its register
  DmiUnseen : SniffedLine  -- one whose captured status nobody asked for
  DmiFailed : SniffedLine  -- one that captured: the last operation failed
  DmiBusy : SniffedLine  -- one that captured: busy
  Operation : (op : DmiOp) → SniffedLine  -- one that asked for an operation

-- ---- the state between two signs

-- A scan reaches from a capture to an update, however often it pauses. At each rise in a Shift state one bit is given, and one is taken where TDO was asked.
pub record Sniffer : Type 0 where
  pub tck : Bool
  pub state : TapState
  pub held : Bool  -- TRST is 1
  pub code : ℕ  -- the instruction
  pub given : List Bool  -- of the scan under way, in their order
  pub taken : List (Option Bool)
  pub answer : Option Bool  -- the last one since the last fall
  pub coming : List ℕ  -- answers to come

-- all pins 0, the controller in Test-Logic-Reset, and the instruction that it selects there
abbrev pub first_sniffer : List ℕ → Sniffer
first_sniffer answers = record {
  tck = false;
  state = TestLogicReset;
  held = false;
  code = idcode_code;
  given = [];
  taken = [];
  answer = None;
  coming = answers;
}

-- ---- a rise of TCK with these levels of TMS and TDI

abbrev pub given_after : TapState → Bool → List Bool → List Bool
given_after CaptureDr tdi given = []
given_after ShiftDr tdi given = given ++ tdi ∷ []
given_after CaptureIr tdi given = []
given_after ShiftIr tdi given = given ++ tdi ∷ []
given_after _ tdi given = given

abbrev pub taken_after : TapState → Option Bool → List (Option Bool) → List (Option Bool)
taken_after CaptureDr answer taken = []
taken_after ShiftDr answer taken = taken ++ answer ∷ []
taken_after CaptureIr answer taken = []
taken_after ShiftIr answer taken = taken ++ answer ∷ []
taken_after _ answer taken = taken

-- whenever the controller enters Test-Logic-Reset, the instruction becomes IDCODE
abbrev pub code_in : TapState → ℕ → ℕ
code_in TestLogicReset code = idcode_code
code_in _ code = code

abbrev pub sniffer_risen : Bool → Bool → Sniffer → Sniffer
sniffer_risen tms tdi s = record s {
  tck = true;
  state = next_state s.state tms;
  code = code_in (next_state s.state tms) s.code;
  given = given_after s.state tdi s.given;
  taken = taken_after s.state s.answer s.taken;
}

-- while TRST is 1 a rise leaves the controller where it is
abbrev pub sniffer_rises : Bool → Bool → Sniffer → Sniffer
sniffer_rises tms tdi s = if s.held then record s { tck = true } else sniffer_risen tms tdi s

-- ---- a fall of TCK

-- what a scan of the instruction register with these bits leaves there
abbrev pub scanned_code : List Bool → ℕ
scanned_code given = number_of (stays captured_code given)

abbrev pub code_after : TapState → List Bool → ℕ → ℕ
code_after UpdateIr given code = scanned_code given
code_after _ given code = code

abbrev pub sniffer_falls : Sniffer → Sniffer
sniffer_falls s = record s { tck = false; code = code_after s.state s.given s.code; answer = None }

-- these bits, where each of them was seen
abbrev pub and_seen : Option Bool → Option (List Bool) → Option (List Bool)
and_seen None bits = None
and_seen (Some bit) None = None
and_seen (Some bit) (Some bits) = Some (bit ∷ bits)

abbrev pub seen_bits : List (Option Bool) → Option (List Bool)
seen_bits [] = Some []
seen_bits (bit ∷ bits) = and_seen bit (seen_bits bits)

abbrev pub requested_line : Option DmiOp → List SniffedLine
requested_line None = []
requested_line (Some op) = Operation op ∷ []

-- by the captured status, where it was seen, and the given bits; 3 is busy, and so is the reserved 1
abbrev pub status_line : Option (List Bool) → List Bool → List SniffedLine
status_line None given = DmiUnseen ∷ []
status_line (Some status) given =
    if number_of status == status_done then requested_line (operation_of (dmi_of (number_of given)))
    else (if number_of status == status_failed then DmiFailed ∷ [] else DmiBusy ∷ [])

-- the two lowest bits of dmi are its status, and they come out first
abbrev pub status_width : ℕ
status_width = 2

abbrev pub dmi_lines : List Bool → List (Option Bool) → List SniffedLine
dmi_lines given taken = if length given == dmi_width then status_line (seen_bits (take status_width taken)) given else DmiOdd ∷ []

abbrev pub selected_lines : ℕ → List Bool → List (Option Bool) → List SniffedLine
selected_lines code given taken = if code == dmi_code then dmi_lines given taken else []

abbrev pub data_lines : ℕ → List Bool → List (Option Bool) → List SniffedLine
data_lines code given taken = Data code given taken ∷ selected_lines code given taken

-- what a fall in this state shows
abbrev pub lines_at : TapState → Sniffer → List SniffedLine
lines_at UpdateIr s = Instruction (scanned_code s.given) ∷ []
lines_at UpdateDr s = data_lines s.code s.given s.taken
lines_at _ s = []

-- ---- one sign

-- the pins as they were (TCK alone), then as they become
abbrev pub sniffed_pins : Bool → Bool → Bool → Bool → Sniffer → Sniffer
sniffed_pins false true tms tdi s = sniffer_rises tms tdi s
sniffed_pins true false tms tdi s = sniffer_falls s
sniffed_pins false false tms tdi s = s
sniffed_pins true true tms tdi s = s

-- the next answer
abbrev pub sniffer_asks : List ℕ → Sniffer → Sniffer
sniffer_asks [] s = s
sniffer_asks (a ∷ coming) s = record s { answer = Some (a == answer_byte true); coming = coming }

-- TRST takes a level: 1 puts the controller into Test-Logic-Reset
abbrev pub sniffer_held : Bool → Sniffer → Sniffer
sniffer_held true s = record s { state = TestLogicReset; held = true; code = idcode_code }
sniffer_held false s = record s { held = false }

abbrev pub sniffed : Option Sign → Sniffer → Sniffer
sniffed (Some (Pins tck tms tdi)) s = sniffed_pins s.tck tck tms tdi s
sniffed (Some Ask) s = sniffer_asks s.coming s
sniffed (Some Light) s = s
sniffed (Some (Reset trst)) s = sniffer_held trst s
sniffed (Some Quit) s = s
sniffed None s = s

abbrev pub edge_lines : Bool → Bool → Sniffer → List SniffedLine
edge_lines true false s = lines_at s.state s
edge_lines true true s = []
edge_lines false tck s = []

abbrev pub sign_lines : Option Sign → Sniffer → List SniffedLine
sign_lines (Some (Pins tck tms tdi)) s = edge_lines s.tck tck s
sign_lines (Some Ask) s = []
sign_lines (Some Light) s = []
sign_lines (Some (Reset trst)) s = []
sign_lines (Some Quit) s = []
sign_lines None s = []

-- ---- a stream

-- the signs that count: those before the first `Q`
abbrev pub quit_byte : ℕ
quit_byte = 81

abbrev pub counted_signs : List ℕ → List ℕ
counted_signs stream = before_first (λ b. b == quit_byte) stream

unfoldable pub sniffer_after : Sniffer → List ℕ → Sniffer
sniffer_after s [] = s
sniffer_after s (b ∷ bs) = sniffer_after (sniffed (sign_of b) s) bs

unfoldable pub lines_from : Sniffer → List ℕ → List SniffedLine
lines_from s [] = []
lines_from s (b ∷ bs) = sign_lines (sign_of b) s ++ lines_from (sniffed (sign_of b) s) bs

-- the lines of a stream and its answers
abbrev pub sniffed_lines : List ℕ → List ℕ → List SniffedLine
sniffed_lines stream answers = lines_from (first_sniffer answers) (counted_signs stream)
