-- The lines of a text, read one after another.
use Rattle.std.proofs.Common.{◌≡◌, ℕ, ◌+◌, ◌<◌, ◌≤◌, List, [], ◌∷◌, ◌++◌, map, length, take, drop, get_or, Some, None, Result, Ok, Err, is_err, OnOk, false}
use Rattle.std.proofs.Common.{refl, sym, ap, ◌∙◌, append-nil}
use Rattle.std.specs.List.{filter_map}
use Rattle.std.proofs.lemmas.List.{map-append, take-append-drop, at_drop_more}
use Rattle.std.proofs.lemmas.List.Elements.{filter_map-append}
use Rattle.debug_model.specs.declared.script_error.ScriptFault.{ScriptFault}
use Rattle.debug_model.specs.Command.{most_commands}
use Rattle.debug_model.specs.ScriptText.{lines_of}
use Rattle.debug_model.specs.ScriptLines.{AreReadIn, HasFirstFaultIn, Language, line_number, line_read_after_in, line_read_in, most_text}

take_with : (lines : List (List ℕ)) (n : ℕ) (d : List ℕ) → n < length lines → lines ≡ take n lines ++ (get_or lines n d ∷ drop (n + 1) lines)
take_with lines n d h = sym (take-append-drop n lines) ∙ ap (λ rest. take n lines ++ rest) (at_drop_more (λ x. x) lines n d h)

module _ {C : Type 0} {language : Language C} where
  pub AreReadAs-none : AreReadIn language [] []
  AreReadAs-none = record { readings = []; each = refl; commands_of = refl }

  pub AreReadAs-push_none : (lines : List (List ℕ)) (commands : List C) (line : List ℕ) → AreReadIn language lines commands → line_read_in language line ≡ Ok None
      → AreReadIn language (lines ++ (line ∷ [])) commands
  AreReadAs-push_none lines commands line h e = record {
    readings = h.readings ++ (None ∷ []);
    each = map-append (line_read_in language) lines (line ∷ []) ∙ ap (λ xs. xs ++ (line_read_in language line ∷ [])) h.each ∙ ap (λ r. map Ok h.readings ++ (r ∷ [])) e
        ∙ sym (map-append Ok h.readings (None ∷ []));
    commands_of = h.commands_of ∙ sym (append-nil (filter_map (λ r. r) h.readings)) ∙ sym (filter_map-append (λ r. r) h.readings (None ∷ []));
  }

  pub AreReadAs-push_some : (lines : List (List ℕ)) (commands : List C) (line : List ℕ) (command : C) → AreReadIn language lines commands
      → line_read_in language line ≡ Ok (Some command) → AreReadIn language (lines ++ (line ∷ [])) (commands ++ (command ∷ []))
  AreReadAs-push_some lines commands line command h e = record {
    readings = h.readings ++ (Some command ∷ []);
    each = map-append (line_read_in language) lines (line ∷ []) ∙ ap (λ xs. xs ++ (line_read_in language line ∷ [])) h.each ∙ ap (λ r. map Ok h.readings ++ (r ∷ [])) e
        ∙ sym (map-append Ok h.readings (Some command ∷ []));
    commands_of = ap (λ cs. cs ++ (command ∷ [])) h.commands_of ∙ sym (filter_map-append (λ r. r) h.readings (Some command ∷ []));
  }

  -- the line after the first n lines is the first faulty one
  pub HasFirstFault-at : (text : List ℕ) (n : ℕ) (before : List (List ℕ)) (faulty : List ℕ) (commands : List C) (number : ℕ) (fault : ScriptFault)
      → length text ≤ most_text → before ≡ take n (lines_of text) → length before ≡ n → n < length (lines_of text) → faulty ≡ get_or (lines_of text) n faulty
      → AreReadIn language before commands → length commands ≤ most_commands → number ≡ line_number (n + 1) → line_read_after_in language (length commands) faulty ≡ Err fault
      → HasFirstFaultIn language text number fault
  HasFirstFault-at text n before faulty commands number fault short front count inside here read few place fault_is = record {
    short = short;
    before = before;
    commands = commands;
    faulty = faulty;
    after = drop (n + 1) (lines_of text);
    cut = take_with (lines_of text) n faulty inside ∙ ap (λ b. b ++ (get_or (lines_of text) n faulty ∷ drop (n + 1) (lines_of text))) (sym front)
        ∙ ap (λ x. before ++ (x ∷ drop (n + 1) (lines_of text))) (sym here);
    few = few;
    read = read;
    fault_is = fault_is;
    place = place ∙ ap (λ k. line_number (k + 1)) (sym count);
  }

pub at_ok : {T E P : Type 0} (r : Result T E) → is_err r ≡ false → OnOk r P → P
at_ok (Ok x) e h = h
at_ok (Err y) e h = cc
