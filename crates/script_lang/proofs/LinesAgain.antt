-- A line of words is read as its command, and a text line by line, in each language of commands.
use Rattle.std.proofs.Common.{◌≡◌, ℕ, ◌+◌, ◌*◌, ◌≤◌, cond, List, [], ◌∷◌, ◌++◌, length, map, refl, sym, ap, ◌∙◌, subst, arith, Some, None, Ok, Err}
use Rattle.std.specs.List.{All, flat_map, join_with_byte}
use Rattle.std.proofs.lemmas.List.{length-append}
use Rattle.std.proofs.lemmas.List.Elements.{All-head, All-tail}
use Rattle.debug_model.specs.declared.script_error.ScriptFault.TheVariants.{NotAscii}
use Rattle.debug_model.specs.Command.{most_commands}
use Rattle.debug_model.specs.ScriptText.{is_plain, words_of, content_of, line_feed, lines_of, space}
use Rattle.debug_model.specs.ScriptArguments.{Words, ◌>>=◌}
use Rattle.debug_model.specs.ScriptLines.{AreReadIn, IsReadIn, Language, finished, line_read_in, most_text, words_read_in}
use Rattle.script_lang.proofs.CleanLemmas.{IsWord, content_of-plain, is_plain-line, length-line_of_words, line_of_words, lines_of-line}
use Rattle.script_lang.proofs.CleanLemmas.{longest_word, words_of-joined}

module _ {C : Type 0} (language : Language C) where
  pub words_again : (name : List ℕ) (words : Words) (command : C) → language name words ≡ Ok (command, [])
      → words_read_in language (name ∷ words) ≡ Ok (Some command)
  unfolding words_read_in finished
  words_again name words command e = ap (λ t. t >>= (λ taken. finished taken >>= (λ command. Ok (Some command)))) e

  pub line_again : (words : List (List ℕ)) (command : C) → All IsWord words → words_read_in language words ≡ Ok (Some command)
      → line_read_in language (join_with_byte space words) ≡ Ok (Some command)
  unfolding line_read_in words_read_in
  line_again [] command h e = cc
  line_again (w ∷ words) command h e =
      let line = join_with_byte space (w ∷ words) in
      let bytes = line_of_words (w ∷ words) h in
      ap (λ c. cond (is_plain c) (words_read_in language (words_of c)) (Err NotAscii)) (content_of-plain line bytes)
      ∙ ap (λ b. cond b (words_read_in language (words_of line)) (Err NotAscii)) (is_plain-line line bytes)
      ∙ ap (words_read_in language) (words_of-joined w words (All-head IsWord w words h) (All-tail IsWord w words h))
      ∙ e

  pub AreReadIn-cons : (line : List ℕ) (lines : List (List ℕ)) (command : C) (commands : List C) → line_read_in language line ≡ Ok (Some command)
      → AreReadIn language lines commands → AreReadIn language (line ∷ lines) (command ∷ commands)
  AreReadIn-cons line lines command commands e h = record {
    readings = Some command ∷ h.readings;
    each = ap (λ r. r ∷ map (line_read_in language) lines) e ∙ ap (λ rs. Ok (Some command) ∷ rs) h.each;
    commands_of = ap (λ cs. command ∷ cs) h.commands_of;
  }

  pub empty_line : line_read_in language [] ≡ Ok None
  unfolding line_read_in words_read_in words_of content_of
  empty_line = refl

-- the words of each command within its ranges are five words at most, which are read as this command
pub record Spells {C : Type 0} (language : Language C) (words : C → List (List ℕ)) (P : C → Type 0) : Type 0 where
  pub are_words : (command : C) → P command → All IsWord (words command)
  pub reads : (command : C) → P command → words_read_in language (words command) ≡ Ok (Some command)
  pub few : (command : C) → length (words command) ≤ 5

abbrev longest_line : ℕ
longest_line = 5 * (longest_word + 1) + 1

-- one space between words, and a line feed at the end
abbrev spelled : {C : Type 0} → (C → List (List ℕ)) → C → List ℕ
spelled words command = join_with_byte space (words command) ++ (line_feed ∷ [])

module _ {C : Type 0} (language : Language C) (words : C → List (List ℕ)) (P : C → Type 0) (s : Spells language words P) where
  are_read : (commands : List C) → All P commands → AreReadIn language (lines_of (flat_map (spelled words) commands)) commands
  are_read [] h = record { readings = None ∷ []; each = ap (λ r. r ∷ []) (empty_line language); commands_of = refl }
  are_read (command ∷ commands) h =
      let here = All-head P command commands h in
      let rest = are_read commands (All-tail P command commands h) in
      let line = line_again language (words command) command (s.are_words command here) (s.reads command here) in
      subst (λ lines. AreReadIn language lines (command ∷ commands))
      (sym (lines_of-line (join_with_byte space (words command)) (flat_map (spelled words) commands) (line_of_words (words command) (s.are_words command here))))
      (AreReadIn-cons language (join_with_byte space (words command)) (lines_of (flat_map (spelled words) commands)) command commands line rest)

  length-spelled_line : (command : C) → P command → length (spelled words command) ≤ longest_line
  length-spelled_line command h =
      omega (
        arith,
        length-append (join_with_byte space (words command)) (line_feed ∷ []),
        length-line_of_words (words command) (s.are_words command h),
        s.few command,
      )

  length-spelled : (commands : List C) → All P commands → length (flat_map (spelled words) commands) ≤ longest_line * length commands
  length-spelled [] h = omega arith
  length-spelled (command ∷ commands) h =
      let line = length-spelled_line command (All-head P command commands h) in
      let rest = length-spelled commands (All-tail P command commands h) in
      omega (arith, line, rest, length-append (spelled words command) (flat_map (spelled words) commands))

  pub IsReadIn-spelled : (commands : List C) → length commands ≤ most_commands → All P commands → IsReadIn language (flat_map (spelled words) commands) commands
  IsReadIn-spelled commands few h = record { short = omega (arith, few, length-spelled commands h); few = few; lines = are_read commands h }
