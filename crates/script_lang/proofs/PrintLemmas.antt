-- What a loop over arguments or commands has written so far.
use Rattle.std.proofs.Common.{◌≡◌, ℕ, zero, suc, ◌+◌, ◌-◌, ◌/◌, ◌%◌, ◌<◌, List, [], ◌∷◌, ◌++◌, length, take, get_or, map, refl, sym, ap, ◌∙◌, arith}
use Rattle.std.proofs.Common.{append_assoc}
use Rattle.std.specs.List.{join_with_byte, flat_map}
use Rattle.std.specs.Char.{digit_char}
use Rattle.std.proofs.lemmas.List.{take_more, map-append, append-nil}
use Rattle.std.proofs.lemmas.Grind.{flat_map-append}
use Rattle.debug_model.specs.declared.command.Command.{Command}
use Rattle.debug_model.specs.declared.soft_command.SoftCommand.{SoftCommand}
use Rattle.debug_model.specs.SoftGrammar.{soft_spelled_script, soft_spelling}
use Rattle.debug_model.specs.Spelling.{hexadecimal, spelling, spelled_script}
use Rattle.debug_model.specs.ScriptText.{line_feed, space}
use Rattle.script_lang.specs.declared.spelled.Argument.{Argument}
use Rattle.script_lang.specs.Argument.{spelled_argument}

pub hexadecimal-none : (count n : ℕ) → count ≡ 0 → hexadecimal count n ≡ []
unfolding hexadecimal
hexadecimal-none count n e = ap (λ k. hexadecimal k n) e

hexadecimal-suc : (k n : ℕ) → hexadecimal (suc k) n ≡ hexadecimal k (n / 16) ++ (digit_char (n % 16) ∷ [])
unfolding hexadecimal
hexadecimal-suc k n = refl

hexadecimal-more : (count n : ℕ) → 0 < count → hexadecimal count n ≡ hexadecimal (count - 1) (n / 16) ++ (digit_char (n % 16) ∷ [])
hexadecimal-more zero n h = absurd (omega arith)
hexadecimal-more (suc k) n h = hexadecimal-suc k n ∙ ap (λ j. hexadecimal j (n / 16) ++ (digit_char (n % 16) ∷ [])) (before k)
  where
    before : (k : ℕ) → k ≡ suc k - 1
    before k = omega arith

-- one digit more
pub digits_step : (count n : ℕ) (old front after : List ℕ) (digit : ℕ) → 0 < count → front ≡ old ++ hexadecimal (count - 1) (n / 16)
    → digit ≡ digit_char (n % 16) → after ≡ front ++ (digit ∷ []) → after ≡ old ++ hexadecimal count n
digits_step count n old front after digit h e f g =
    let digits = hexadecimal (count - 1) (n / 16) in
    let last = digit_char (n % 16) ∷ [] in
    g
    ∙ ap (λ d. front ++ (d ∷ [])) f
    ∙ ap (λ ds. ds ++ last) e
    ∙ append_assoc old digits last
    ∙ sym (ap (λ ds. old ++ ds) (hexadecimal-more count n h))

join_push : (name : List ℕ) (words : List (List ℕ)) (word : List ℕ)
    → join_with_byte space (name ∷ (words ++ (word ∷ []))) ≡ join_with_byte space (name ∷ words) ++ (space ∷ word)
join_push name [] word = refl
join_push name (w ∷ words) word =
    ap (λ t. name ++ (space ∷ t)) (join_push w words word) ∙ sym (append_assoc name (space ∷ join_with_byte space (w ∷ words)) (space ∷ word))

pub join_more : (name : List ℕ) (arguments : List Argument) (i : ℕ) (d : Argument) → i < length arguments
    → join_with_byte space (name ∷ map spelled_argument (take (i + 1) arguments)) ≡ join_with_byte space (name ∷ map spelled_argument (take i arguments))
    ++ (space ∷ spelled_argument (get_or arguments i d))
join_more name arguments i d h =
    ap (λ xs. join_with_byte space (name ∷ map spelled_argument xs)) (take_more arguments i d h)
    ∙ ap (λ ws. join_with_byte space (name ∷ ws)) (map-append spelled_argument (take i arguments) (get_or arguments i d ∷ []))
    ∙ join_push name (map spelled_argument (take i arguments)) (spelled_argument (get_or arguments i d))

-- one command more, in each language of commands
pub text_step : {C : Type 0} (spelled : C → List ℕ) (commands : List C) (i : ℕ) (d : C) (before written after : List ℕ) → i < length commands
    → before ≡ flat_map (λ c. spelled c ++ (line_feed ∷ [])) (take i commands) → written ≡ before ++ spelled (get_or commands i d)
    → after ≡ written ++ (line_feed ∷ []) → after ≡ flat_map (λ c. spelled c ++ (line_feed ∷ [])) (take (i + 1) commands)
text_step {C} spelled commands i d before written after h e f g =
    let line : C → List ℕ = λ c. spelled c ++ (line_feed ∷ []) in
    g ∙ ap (λ t. t ++ (line_feed ∷ [])) (f ∙ ap (λ t. t ++ spelled (get_or commands i d)) e)
    ∙ append_assoc (flat_map line (take i commands)) (spelled (get_or commands i d)) (line_feed ∷ [])
    ∙ sym (ap (flat_map line) (take_more commands i d h)
    ∙ flat_map-append line (take i commands) (get_or commands i d ∷ [])
    ∙ ap (λ t. flat_map line (take i commands) ++ t) (append-nil (line (get_or commands i d))))

pub spelled_none : spelled_script [] ≡ []
unfolding spelled_script
spelled_none = refl

pub spelled_step : (commands : List Command) (i : ℕ) (d : Command) (before written after : List ℕ) → i < length commands
    → before ≡ spelled_script (take i commands) → written ≡ before ++ spelling (get_or commands i d) → after ≡ written ++ (line_feed ∷ [])
    → after ≡ spelled_script (take (i + 1) commands)
unfolding spelled_script
spelled_step commands i d before written after h e f g = text_step spelling commands i d before written after h e f g

pub soft_spelled_none : soft_spelled_script [] ≡ []
unfolding soft_spelled_script
soft_spelled_none = refl

pub soft_spelled_step : (commands : List SoftCommand) (i : ℕ) (d : SoftCommand) (before written after : List ℕ) → i < length commands
    → before ≡ soft_spelled_script (take i commands) → written ≡ before ++ soft_spelling (get_or commands i d) → after ≡ written ++ (line_feed ∷ [])
    → after ≡ soft_spelled_script (take (i + 1) commands)
unfolding soft_spelled_script
soft_spelled_step commands i d before written after h e f g = text_step soft_spelling commands i d before written after h e f g

-- one argument more
pub join_step : (name : List ℕ) (arguments : List Argument) (i : ℕ) (d : Argument) (old before parted after : List ℕ) → i < length arguments
    → before ≡ old ++ join_with_byte space (name ∷ map spelled_argument (take i arguments)) → parted ≡ before ++ (space ∷ [])
    → after ≡ parted ++ spelled_argument (get_or arguments i d) → after ≡ old ++ join_with_byte space (name ∷ map spelled_argument (take (i + 1) arguments))
join_step name arguments i d old before parted after h e f g =
    let line = join_with_byte space (name ∷ map spelled_argument (take i arguments)) in
    let word = spelled_argument (get_or arguments i d) in
    g ∙ ap (λ t. t ++ word) (f ∙ ap (λ t. t ++ (space ∷ [])) e)
    ∙ append_assoc (old ++ line) (space ∷ []) word
    ∙ append_assoc old line (space ∷ word)
    ∙ sym (ap (λ t. old ++ t) (join_more name arguments i d h))
