-- What a line is read as, by what its content is and what its words are.
use Rattle.std.proofs.Common.{◌≡◌, ℕ, ◌<◌, ◌≤◌, Bool, true, false, not, ◌&&◌, ◌==◌, cond, nat_le, List, [], ◌∷◌, take, Option, Some, None, Ok, Err, refl}
use Rattle.std.proofs.Common.{sym, ap, ◌∙◌, arith}
use Rattle.std.specs.List.{position}
use Rattle.std.proofs.Math.Seq.{take-length}
use Rattle.std.proofs.lemmas.Bool.Decides.{nat_tests}
use Rattle.debug_model.specs.declared.script_error.ScriptFault.{ScriptFault}
use Rattle.debug_model.specs.declared.script_error.ScriptFault.TheVariants.{NotAscii, Extra, TooManyLines}
use Rattle.debug_model.specs.Command.{most_commands}
use Rattle.debug_model.specs.ScriptText.{content_of, is_plain, is_not_empty, words_of, number_sign}
use Rattle.debug_model.specs.ScriptArguments.{Words, ◌>>=◌}
use Rattle.debug_model.specs.ScriptLines.{Language, ReadingOf, finished, line_read_after_in, line_read_in, words_read_in}
use Rattle.script_lang.specs.Takes.{IsFaulty, Shows}
use Rattle.script_lang.specs.Takes.IsFaulty.{has_foreign_byte, has_no_room}
use Rattle.script_lang.proofs.Places.{place_found, no_place}

pub content_of-found : (line : List ℕ) (i : ℕ) → position (λ byte. byte == number_sign) line ≡ Some i → take i line ≡ content_of line
unfolding content_of
content_of-found line i e = sym (ap (λ n. take n line) (place_found (λ byte. byte == number_sign) line i e))

pub content_of-whole : (line : List ℕ) → position (λ byte. byte == number_sign) line ≡ None → line ≡ content_of line
unfolding content_of
content_of-whole line e = sym (ap (λ n. take n line) (no_place (λ byte. byte == number_sign) line e) ∙ take-length line)

le-leb : (m n : ℕ) → m ≤ n → nat_le m n ≡ true
le-leb m n h = grind (arith, nat_tests)

leb_not : (m n : ℕ) → n < m → nat_le m n ≡ false
leb_not m n h = grind (arith, nat_tests)

module _ {C : Type 0} (language : Language C) where
  -- what a line is, by its content
  after : ℕ → Bool → Words → ReadingOf C
  after count plain words =
      cond (plain && is_not_empty words && nat_le most_commands count) (Err TooManyLines) (cond plain (words_read_in language words) (Err NotAscii))

  line_read_after-is : (count : ℕ) (line : List ℕ)
      → line_read_after_in language count line ≡ after count (is_plain (content_of line)) (words_of (content_of line))
  unfolding line_read_after_in line_read_in after
  line_read_after-is count line = refl

  pub line_read-faulty : (count : ℕ) (line : List ℕ) (fault : ScriptFault) → IsFaulty count line fault → line_read_after_in language count line ≡ Err fault
  unfolding after
  line_read-faulty count line fault (has_foreign_byte f e) =
      line_read_after-is count line ∙ ap (λ b. after count b (words_of (content_of line))) f ∙ ap Err (sym e)
  line_read-faulty count line fault (has_no_room p w l e) =
      line_read_after-is count line ∙ ap (λ b. after count b (words_of (content_of line))) p
      ∙ ap (λ b. cond (b && nat_le most_commands count) (Err TooManyLines) (words_read_in language (words_of (content_of line)))) w
      ∙ ap (λ b. cond b (Err TooManyLines) (words_read_in language (words_of (content_of line)))) (le-leb most_commands count l) ∙ ap Err (sym e)

  by_words : (count : ℕ) (line : List ℕ) (words : Words) → Shows count line words → line_read_after_in language count line ≡ after count true words
  by_words count line words s =
      line_read_after-is count line ∙ ap (λ b. after count b (words_of (content_of line))) s.plain ∙ sym (ap (after count true) s.are)

  shown : (count : ℕ) (line : List ℕ) (words : Words) → Shows count line words → line_read_after_in language count line ≡ words_read_in language words
  unfolding after
  shown count line [] s = by_words count line [] s
  shown count line (name ∷ words) s =
      by_words count line (name ∷ words) s
      ∙ ap (λ b. cond b (Err TooManyLines) (words_read_in language (name ∷ words))) (leb_not most_commands count (s.room refl))

  pub line_read-empty : (count : ℕ) (line : List ℕ) (words : Words) → Shows count line words → words ≡ [] → line_read_after_in language count line ≡ Ok None
  unfolding words_read_in
  line_read-empty count line words s e = shown count line words s ∙ ap (words_read_in language) e

  named : (count : ℕ) (line name : List ℕ) (all words : Words) → Shows count line all → all ≡ name ∷ words
      → line_read_after_in language count line ≡ words_read_in language (name ∷ words)
  named count line name all words s e = shown count line all s ∙ ap (words_read_in language) e

  pub line_read-fault : (count : ℕ) (line name : List ℕ) (all words : Words) (fault : ScriptFault) → Shows count line all → all ≡ name ∷ words
      → language name words ≡ Err fault → line_read_after_in language count line ≡ Err fault
  unfolding words_read_in
  line_read-fault count line name all words fault s e f =
      named count line name all words s e ∙ ap (λ t. t >>= (λ taken. finished taken >>= (λ command. Ok (Some command)))) f

  pub line_read-command : (count : ℕ) (line name : List ℕ) (all words left : Words) (command : C) → Shows count line all → all ≡ name ∷ words
      → language name words ≡ Ok (command, left) → left ≡ [] → line_read_after_in language count line ≡ Ok (Some command)
  unfolding words_read_in finished
  line_read-command count line name all words left command s e f g =
      named count line name all words s e ∙ ap (λ t. t >>= (λ taken. finished taken >>= (λ command. Ok (Some command)))) f
      ∙ ap (λ l. finished (command, l) >>= (λ command. Ok (Some command))) g

  pub line_read-extra : (count : ℕ) (line name : List ℕ) (all words left : Words) (command : C) → Shows count line all → all ≡ name ∷ words
      → language name words ≡ Ok (command, left) → is_not_empty left ≡ true → line_read_after_in language count line ≡ Err Extra
  unfolding words_read_in finished
  line_read-extra count line name all words [] command s e f g = cc
  line_read-extra count line name all words (word ∷ left) command s e f g =
      named count line name all words s e ∙ ap (λ t. t >>= (λ taken. finished taken >>= (λ command. Ok (Some command)))) f

  -- a line that is no fault after other lines is the same by itself
  pub line_read-alone : (count : ℕ) (line : List ℕ) (reading : Option C) → line_read_after_in language count line ≡ Ok reading → line_read_in language line ≡ Ok reading
  unfolding line_read_after_in
  line_read-alone count line reading e = by_cases (is_plain (content_of line) && is_not_empty (words_of (content_of line)) && nat_le most_commands count) e
    where
      by_cases : (b : Bool) → cond b (Err TooManyLines) (line_read_in language line) ≡ Ok reading → line_read_in language line ≡ Ok reading
      by_cases true e = cc
      by_cases false e = e

  -- a line that is a command after other lines has room
  pub room_for : (count : ℕ) (line : List ℕ) (command : C) → line_read_after_in language count line ≡ Ok (Some command) → count < most_commands
  unfolding after words_read_in
  room_for count line command e = by_cases (is_plain (content_of line)) (words_of (content_of line)) (nat_le most_commands count) refl
      (sym (line_read_after-is count line) ∙ e)
    where
      by_cases : (b : Bool) (words : Words) (late : Bool) → nat_le most_commands count ≡ late
          → cond (b && is_not_empty words && late) (Err TooManyLines) (cond b (words_read_in language words) (Err NotAscii)) ≡ Ok (Some command) → count < most_commands
      by_cases true [] late f e = cc
      by_cases true (word ∷ words) true f e = cc
      by_cases true (word ∷ words) false f e = early f
        where
          early : nat_le most_commands count ≡ false → count < most_commands
          early f = grind (arith, nat_tests)
      by_cases false words late f e = cc

pub from_not : (r b : Bool) → r ≡ not b → r ≡ true → b ≡ false
from_not r true e f = cc
from_not r false e f = refl

pub from_not_false : (r b : Bool) → r ≡ not b → r ≡ false → b ≡ true
from_not_false r true e f = refl
from_not_false r false e f = cc
