-- The text of the lines of a sniffed stream.
-- The lines are this project's own (docs/FORMATS.md, "Sniffed lines").
use Rattle.std.specs.Prelude.{ℕ, Bool, nat_le, List, [], ◌∷◌, ◌++◌, length, codes, decimal, flat_map, Option, None, Some, if◌then◌else◌}
use Rattle.jt_base.specs.BitList.{most_bits, number_of}
use Rattle.debug_model.specs.declared.dmi_op.DmiOp.{DmiOp}
use Rattle.debug_model.specs.declared.dmi_op.DmiOp.TheVariants.{Read, Write}
use Rattle.debug_model.specs.ScriptText.{line_feed}
use Rattle.debug_model.specs.Spelling.{hexadecimal, spelled_address}
use Rattle.wire_sniff.specs.Sniffed.{SniffedLine, seen_bits}
use Rattle.wire_sniff.specs.Sniffed.SniffedLine.{Instruction, Data, DmiOdd, DmiUnseen, DmiFailed, DmiBusy, Operation}

-- `0x` and two digits: a code of 5 bits, or an address of 7
abbrev pub spelled_byte : ℕ → List ℕ
spelled_byte n = codes "0x" ++ hexadecimal 2 n

abbrev pub spelled_word : ℕ → List ℕ
spelled_word n = codes "0x" ++ hexadecimal 8 n

-- bits as the number that they spell, with the first of them the lowest
abbrev pub spelled_bits : List Bool → List ℕ
spelled_bits bits = spelled_address (number_of bits)

-- taken bits, of which one may not have been seen
abbrev pub spelled_seen : Option (List Bool) → List ℕ
spelled_seen None = codes "-"
spelled_seen (Some bits) = spelled_bits bits

-- the given and the taken bits of a scan, where they are few enough to be spelled
abbrev pub spelled_scan : List Bool → List (Option Bool) → List ℕ
spelled_scan given taken =
    if nat_le (length given) most_bits then spelled_bits given ++ codes " " ++ spelled_seen (seen_bits taken) else codes "long"

abbrev pub spelled_operation : DmiOp → List ℕ
spelled_operation (Read address) = codes "read " ++ spelled_byte address
spelled_operation (Write address value) = codes "write " ++ spelled_byte address ++ codes " " ++ spelled_word value

abbrev pub words_of : SniffedLine → List ℕ
words_of (Instruction code) = codes "ir " ++ spelled_byte code
words_of (Data code given taken) = codes "dr " ++ spelled_byte code ++ codes " " ++ decimal (length given) ++ codes " " ++ spelled_scan given taken
words_of DmiOdd = codes "dmi odd"
words_of DmiUnseen = codes "dmi unseen"
words_of DmiFailed = codes "dmi failed"
words_of DmiBusy = codes "dmi busy"
words_of (Operation op) = codes "dmi " ++ spelled_operation op

abbrev pub text_of : SniffedLine → List ℕ
text_of line = words_of line ++ line_feed ∷ []

unfoldable pub text_of_all : List SniffedLine → List ℕ
text_of_all lines = flat_map text_of lines
