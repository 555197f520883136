-- How a sniffing ends: what is wrong with a stream and its answers, in the order of checks, and what was put at each end.
-- No public standard defines this: the ends are this project's own (docs/FORMATS.md, "Sniffed lines").
use Rattle.std.specs.Prelude.{◌≡◌, ℕ, suc, ◌==◌, ◌||◌, Bool, true, false, not, List, [], ◌∷◌, length, count_by, if◌then◌else◌}
use Rattle.std.specs.Prelude.{Option, None, Some, option_map, is_none}
use Rattle.std.specs.List.{find}
use Rattle.jt_base.specs.Faults.{Rises}
use Rattle.jt_base.specs.Sink.{GrewByPrefix, grown}
use Rattle.debug_model.specs.Chip.{answer_byte}
use Rattle.debug_model.specs.Scan.{ask}
use Rattle.debug_model.specs.Signs.{sign_of}
use Rattle.wire_sniff.specs.Sniffed.{counted_signs, sniffed_lines}
use Rattle.wire_sniff.specs.SniffedText.{text_of_all}
use Rattle.wire_sniff.specs.declared.sniff_end.SniffEnd.{SniffEnd}
use Rattle.wire_sniff.specs.declared.sniff_end.SniffEnd.TheVariants.{BadSign, BadAnswer, Count, Sink, Clean}

-- ---- the checks of the signs that count and of the answers

-- the first byte that is no sign, and its place
abbrev pub bad_sign_from : ℕ → List ℕ → Option SniffEnd
bad_sign_from place [] = None
bad_sign_from place (b ∷ bs) = if is_none (sign_of b) then Some (BadSign place b) else bad_sign_from (suc place) bs

abbrev pub is_bad_answer : ℕ → Bool
is_bad_answer a = not (a == answer_byte false || a == answer_byte true)

abbrev pub bad_answer_in : List ℕ → Option SniffEnd
bad_answer_in answers = option_map BadAnswer (find is_bad_answer answers)

-- how often TDO is asked
abbrev pub asked_in : List ℕ → ℕ
asked_in signs = count_by (λ b. b == ask) signs

abbrev pub miscounted : ℕ → ℕ → Option SniffEnd
miscounted asked given = if asked == given then None else Some (Count asked given)

abbrev pub or_else : Option SniffEnd → Option SniffEnd → Option SniffEnd
or_else None next = next
or_else (Some end) next = Some end

abbrev pub refusal_of : List ℕ → List ℕ → Option SniffEnd
refusal_of signs answers = or_else (bad_sign_from 0 signs) (or_else (bad_answer_in answers) (miscounted (asked_in signs) (length answers)))

-- ---- what was put, by what the sink had taken and how many of its calls had failed, before and behind

pub data EndedBy (refusal : Option SniffEnd) (text : List ℕ) (was new : Option (List ℕ)) (old_count new_count : ℕ) : SniffEnd → Type 0 where
  refused : (end : SniffEnd) → refusal ≡ Some end → new ≡ was → new_count ≡ old_count → EndedBy refusal text was new old_count new_count end
  unsaid : refusal ≡ None → GrewByPrefix text was new → Rises old_count new_count → EndedBy refusal text was new old_count new_count Sink
  said : refusal ≡ None → new ≡ grown text was → new_count ≡ old_count → EndedBy refusal text was new old_count new_count Clean

-- the bytes of a sniffing are those of the lines
abbrev pub Sniffs : List ℕ → List ℕ → Option (List ℕ) → Option (List ℕ) → ℕ → ℕ → SniffEnd → Type 0
Sniffs stream answers = EndedBy (refusal_of (counted_signs stream) answers) (text_of_all (sniffed_lines stream answers))
