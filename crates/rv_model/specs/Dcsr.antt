-- What dcsr shows of a hart's debug part, and what a write of it keeps.
-- RISC-V Debug Specification 1.0, "Debug Control and Status": debugver is 4 and prv 3 always; that no bits but ebreakm, stepie and step are
-- writable is this project's own choice.
use Rattle.std.specs.Prelude.{ℕ, ◌+◌, ◌*◌, ◌^◌, Option, Some, None}
use Rattle.rv_model.specs.declared.cause.Cause.{Cause}
use Rattle.rv_model.specs.declared.dcsr.Dcsr.{Dcsr}
use Rattle.rv_model.specs.Board.{DebugPart}
use Rattle.rv_model.specs.Cause.{cause_number}
use Rattle.rv_model.specs.Fields.{field, bit, bit_value}

-- ---- the word

-- debugver and prv
abbrev pub dcsr_fixed : ℕ
dcsr_fixed = 4 * 2 ^ 28 + 3

unfoldable pub dcsr_word : Dcsr → ℕ
dcsr_word d = dcsr_fixed + bit_value 15 d.ebreakm + bit_value 11 d.stepie + d.cause * 2 ^ 6 + bit_value 2 d.step

unfoldable pub dcsr_of_word : ℕ → Dcsr
dcsr_of_word w = record { ebreakm = bit 15 w; stepie = bit 11 w; cause = field 6 3 w; step = bit 2 w }

-- ---- of a hart

-- the number of a halt's cause, and 0 of a hart that runs
abbrev pub shown_cause : Option Cause → ℕ
shown_cause None = 0
shown_cause (Some why) = cause_number why

abbrev pub dcsr_of : DebugPart → Dcsr
dcsr_of d = record { ebreakm = d.ebreakm; stepie = d.stepie; cause = shown_cause d.halted; step = d.step }

abbrev pub dcsr_value : DebugPart → ℕ
dcsr_value d = dcsr_word (dcsr_of d)

abbrev pub with_dcsr : Dcsr → DebugPart → DebugPart
with_dcsr w d = record d { ebreakm = w.ebreakm; stepie = w.stepie; step = w.step }

-- the debug part after a write: the cause stays, and all that dcsr does not show
abbrev pub dcsr_written : ℕ → DebugPart → DebugPart
dcsr_written v d = with_dcsr (dcsr_of_word v) d
