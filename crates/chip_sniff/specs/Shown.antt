-- What the sniffed lines say of the operations of a chip.
-- The lines are this project's own (docs/FORMATS.md, "Sniffed lines").
use Rattle.std.specs.Prelude.{◌≡◌, ◌≢◌, ℕ, List, [], ◌∷◌, Bool, true, false, None, Some}
use Rattle.std.specs.List.{list_all}
use Rattle.debug_model.specs.declared.dmi_op.DmiOp.{DmiOp}
use Rattle.debug_model.specs.Chip.{Live, feed, said}
use Rattle.debug_model.specs.Loaded.{AsLoaded}
use Rattle.debug_model.specs.declared.chip_end.ChipEnd.TheVariants.{AtLimit}
use Rattle.wire_sniff.specs.Ends.{bad_sign_from}
use Rattle.wire_sniff.specs.Sniffed.{SniffedLine, counted_signs, sniffed_lines}
use Rattle.wire_sniff.specs.Sniffed.SniffedLine.{Instruction, Data, DmiOdd, DmiUnseen, DmiFailed, DmiBusy, Operation}
use Rattle.chip_sniff.specs.Launched.{launched}

-- the operations that the lines name, in their order
abbrev pub operations_in : List SniffedLine → List DmiOp
operations_in [] = []
operations_in (Operation op ∷ lines) = op ∷ operations_in lines
operations_in (Instruction code ∷ lines) = operations_in lines
operations_in (Data code given taken ∷ lines) = operations_in lines
operations_in (DmiOdd ∷ lines) = operations_in lines
operations_in (DmiUnseen ∷ lines) = operations_in lines
operations_in (DmiFailed ∷ lines) = operations_in lines
operations_in (DmiBusy ∷ lines) = operations_in lines

-- a line from which it can be told whether an operation was asked for
abbrev pub is_clear : SniffedLine → Bool
is_clear DmiOdd = false
is_clear DmiUnseen = false
is_clear (Instruction code) = true
is_clear (Data code given taken) = true
is_clear DmiFailed = true
is_clear DmiBusy = true
is_clear (Operation op) = true

abbrev pub are_clear : List SniffedLine → Bool
are_clear lines = list_all is_clear lines

-- where no byte that counts is no sign, the chip hasn't met its limit and each scan of dmi is told whole, the operations among the lines are exactly those
-- that the chip's transport put in flight
abbrev pub TellsOperations : Live → List ℕ → List ℕ → Type 0
TellsOperations l stream answers =
    bad_sign_from 0 (counted_signs stream) ≡ None → (feed l stream).ended ≢ Some AtLimit → are_clear (sniffed_lines stream answers) ≡ true
    → operations_in (sniffed_lines stream answers) ≡ launched l stream

-- of every chip as loaded, and of every stream with the answers of that chip
abbrev pub LinesTellOperations : Type 0
LinesTellOperations = (l : Live) (stream : List ℕ) → AsLoaded l → TellsOperations l stream (said l stream)
