-- What a sniffer shows of the paths that a debugger takes through the TAP: a scan shows itself, and a scan of dmi what it did.
-- IEEE 1149.1, the state diagram for the paths, and the shifting of a register for the two cuts.
use Rattle.std.specs.Prelude.{◌≡◌, ℕ, ◌<◌, ◌==◌, ◌^◌, List, [], ◌∷◌, ◌++◌, length, map, Bool, true, false, Option, None, Some, if◌then◌else◌}
use Rattle.jt_base.specs.BitList.{bits_of}
use Rattle.debug_model.specs.declared.tap_state.TapState.{TapState}
use Rattle.debug_model.specs.declared.tap_state.TapState.TheVariants.{RunTestIdle}
use Rattle.debug_model.specs.Chip.{answer_byte}
use Rattle.debug_model.specs.Dmi.{heard}
use Rattle.debug_model.specs.Port.{idcode_code, instruction_width}
use Rattle.debug_model.specs.Scan.{comes_out, dr_bytes, ir_bytes, reset_bytes, stays}
use Rattle.debug_model.specs.Transport.{dmi_width, operation_of}
use Rattle.debug_model.specs.TransportWords.{status_done, status_failed}
use Rattle.wire_sniff.specs.Sniffed.{Sniffer, SniffedLine, data_lines, dmi_lines, lines_from, requested_line, sniffer_after}
use Rattle.wire_sniff.specs.Sniffed.SniffedLine.{Instruction, DmiFailed, DmiBusy}

-- these bytes show these lines, and lead to this state
pub record Shows (s : Sniffer) (bytes : List ℕ) (lines : List SniffedLine) (t : Sniffer) : Type 0 where
  pub shown : lines_from s bytes ≡ lines
  pub leads : sniffer_after s bytes ≡ t

-- behind a rise of TCK, with TRST 0
abbrev pub standing : TapState → ℕ → List Bool → List (Option Bool) → Option Bool → List ℕ → Sniffer
standing state code given taken answer coming = record {
  tck = true;
  state = state;
  held = false;
  code = code;
  given = given;
  taken = taken;
  answer = answer;
  coming = coming;
}

-- the answers of these levels of TDO
abbrev pub answers_of : List Bool → List ℕ
answers_of levels = map answer_byte levels

abbrev pub unseen : List Bool → List (Option Bool)
unseen bits = map (λ bit. None) bits

-- from Run-Test/Idle and back a scan of some bits of a data register shows those bits and the answers to them, and nothing else
abbrev pub DataScansShowThemselves : Type 0
DataScansShowThemselves = (code : ℕ) (given levels : List Bool) (was : List Bool) (taken : List (Option Bool)) (answer : Option Bool) (rest : List ℕ)
    → 0 < length given → length levels ≡ length given
    → Shows (standing RunTestIdle code was taken answer (answers_of levels ++ rest)) (dr_bytes given) (data_lines code given (map Some levels))
    (standing RunTestIdle code given (map Some levels) None rest)

-- and a scan of the instruction register shows the code that it selects
abbrev pub InstructionScansShowTheirCode : Type 0
InstructionScansShowTheirCode = (code next : ℕ) (was : List Bool) (taken : List (Option Bool)) (answer : Option Bool) (coming : List ℕ)
    → next < 2 ^ instruction_width
    → Shows (standing RunTestIdle code was taken answer coming) (ir_bytes next) (Instruction next ∷ [])
    (standing RunTestIdle next (bits_of instruction_width next) (unseen (bits_of instruction_width next)) None coming)

-- a reset from there shows nothing, and selects IDCODE
abbrev pub ResetsShowNothing : Type 0
ResetsShowNothing = (code : ℕ) (was : List Bool) (taken : List (Option Bool)) (answer : Option Bool) (coming : List ℕ)
    → Shows (standing RunTestIdle code was taken answer coming) reset_bytes [] (standing RunTestIdle idcode_code was taken None coming)

-- what a scan of dmi does, by the status that came out and the bits that stay in the register
abbrev pub outcome_lines : ℕ → List Bool → List SniffedLine
outcome_lines status left =
    if status == status_done then requested_line (operation_of (heard left)) else (if status == status_failed then DmiFailed ∷ [] else DmiBusy ∷ [])

-- a scan of the whole register shows what it did: by the captured bits, of which all come out, and the given ones, of which all stay
abbrev pub DmiScansShowTheirOutcome : Type 0
DmiScansShowTheirOutcome = (was given : List Bool) → length was ≡ dmi_width → length given ≡ dmi_width
    → dmi_lines given (map Some (comes_out was given)) ≡ outcome_lines (heard was).op (stays was given)
