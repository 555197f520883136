-- A text is read in one way: the lines before its first fault are those that are read, whatever their number.
use Rattle.std.proofs.Common.{◌≡◌, ℕ, suc, ◌+◌, ◌≤◌, Bool, true, false, ◌&&◌, cond, nat_le, List, [], ◌∷◌, ◌++◌, length, map, Option, Some, None, Result}
use Rattle.std.proofs.Common.{Ok, Err, inl, inr, refl, sym, ap, ◌∙◌, subst, arith}
use Rattle.std.specs.List.{filter_map, cons_option}
use Rattle.std.proofs.lemmas.Bool.{and_parts, leb-true}
use Rattle.debug_model.specs.declared.command.Command.{Command}
use Rattle.debug_model.specs.declared.script_error.ScriptError.{ScriptError}
use Rattle.debug_model.specs.declared.script_error.ScriptFault.{ScriptFault}
use Rattle.debug_model.specs.declared.script_error.ScriptFault.TheVariants.{NotAscii, TooManyLines}
use Rattle.debug_model.specs.Command.{IsWithinRanges, most_commands}
use Rattle.debug_model.specs.ScriptText.{is_plain, is_not_empty, words_of, content_of, lines_of}
use Rattle.debug_model.specs.ScriptArguments.{Words, ◌>>=◌}
use Rattle.debug_model.specs.Grammar.{Reading, line_read}
use Rattle.debug_model.specs.ScriptLines.{AreReadIn, HasFirstFaultIn, IsReadIn, IsRefusedIn, Language, ReadingOf, finished, line_number, line_read_after_in}
use Rattle.debug_model.specs.ScriptLines.{line_read_in, words_read_in}
use Rattle.debug_model.specs.Spelling.{spelling}
use Rattle.script_lang.proofs.SpellingAgain.{line_read-spelling}

same_command : (c d : Command) (x : Reading) → x ≡ Ok (Some c) → x ≡ Ok (Some d) → c ≡ d
same_command c d x e f = cc

pub own_spelling : (c d : Command) → IsWithinRanges c → IsWithinRanges d → spelling c ≡ spelling d → c ≡ d
own_spelling c d h i e = same_command c d (line_read (spelling c)) (line_read-spelling c h) (ap line_read e ∙ line_read-spelling d i)

-- the first of some lines that are read
pub record First {C : Type 0} (language : Language C) (line : List ℕ) (lines : List (List ℕ)) (commands : List C) : Type 0 where
  pub reading : Option C
  pub here : line_read_in language line ≡ Ok reading
  pub rest : List C
  pub later : AreReadIn language lines rest
  pub whole : commands ≡ cons_option reading rest

head_of : {X : Type 0} (a b : X) (xs ys : List X) → (a ∷ xs) ≡ (b ∷ ys) → a ≡ b
head_of a b xs ys e = cc

tail_of : {X : Type 0} (a b : X) (xs ys : List X) → (a ∷ xs) ≡ (b ∷ ys) → xs ≡ ys
tail_of a b xs ys e = cc

pub record Same (one other : List (List ℕ)) (f g : ScriptFault) : Type 0 where
  pub place : length one ≡ length other
  pub fault : f ≡ g

module _ {C : Type 0} (language : Language C) where
  first : (line : List ℕ) (lines : List (List ℕ)) (commands : List C) → AreReadIn language (line ∷ lines) commands → First language line lines commands
  first line lines commands h = by_cases h.readings h.each h.commands_of
    where
      by_cases : (readings : List (Option C)) → (line_read_in language line ∷ map (line_read_in language) lines) ≡ map Ok readings → commands ≡ filter_map (λ r. r) readings
          → First language line lines commands
      by_cases [] e f = cc
      by_cases (r ∷ readings) e f = record {
        reading = r;
        here = head_of (line_read_in language line) (Ok r) (map (line_read_in language) lines) (map Ok readings) e;
        rest = filter_map (λ r. r) readings;
        later = record { readings = readings; each = tail_of (line_read_in language line) (Ok r) (map (line_read_in language) lines) (map Ok readings) e; commands_of = refl };
        whole = f;
      }

  none_of : (commands : List C) → AreReadIn language [] commands → commands ≡ []
  none_of commands h = by_cases h.readings h.each h.commands_of
    where
      by_cases : (readings : List (Option C)) → [] ≡ map {B = ReadingOf C} Ok readings → commands ≡ filter_map (λ r. r) readings → commands ≡ []
      by_cases [] e f = f
      by_cases (r ∷ readings) e f = cc

  same_reading : (r s : Option C) (x : ReadingOf C) → x ≡ Ok r → x ≡ Ok s → r ≡ s
  same_reading r s x e f = cc

  one_list : (lines : List (List ℕ)) (cs ds : List C) → AreReadIn language lines cs → AreReadIn language lines ds → cs ≡ ds
  one_list [] cs ds h i = none_of cs h ∙ sym (none_of ds i)
  one_list (line ∷ lines) cs ds h i =
      let a = first line lines cs h in
      let b = first line lines ds i in
      a.whole ∙ ap (λ r. cons_option r a.rest) (same_reading a.reading b.reading (line_read_in language line) a.here b.here)
      ∙ ap (cons_option b.reading) (one_list lines a.rest b.rest a.later b.later) ∙ sym b.whole

  pub one_script : (text : List ℕ) (cs ds : List C) → IsReadIn language text cs → IsReadIn language text ds → cs ≡ ds
  one_script text cs ds h i = one_list (lines_of text) cs ds h.lines i.lines

  -- a line that is read, and yet is faulty after so many commands, is one command too many

  words_give_command : (words : Words) (r : Option C) → is_not_empty words ≡ true → words_read_in language words ≡ Ok r → (c : C) × (r ≡ Some c)
  unfolding words_read_in
  words_give_command [] r some e = cc
  words_give_command (name ∷ words) r some e = by_cases (language name words) e
    where
      last : (t : Result C ScriptFault) → t >>= (λ command. Ok (Some command)) ≡ Ok r → (c : C) × (r ≡ Some c)
      last (Ok c) e = (c, cc)
      last (Err f) e = cc

      by_cases : (t : Result (C × Words) ScriptFault) → (t >>= (λ taken. finished taken >>= (λ command. Ok (Some command)))) ≡ Ok r
          → (c : C) × (r ≡ Some c)
      by_cases (Ok taken) e = last (finished taken) e
      by_cases (Err f) e = cc

  too_many : (count : ℕ) (line : List ℕ) (r : Option C) (fault : ScriptFault) → line_read_in language line ≡ Ok r → line_read_after_in language count line ≡ Err fault
      → (most_commands ≤ count) × ((c : C) × (r ≡ Some c))
  unfolding line_read_after_in line_read_in
  too_many count line r fault e f = by_cases (is_plain (content_of line) && is_not_empty (words_of (content_of line)) && nat_le most_commands count) refl f
    where
      with_words : (b : Bool) (words : Words) → b ≡ true → is_not_empty words ≡ true → cond b (words_read_in language words) (Err NotAscii) ≡ Ok r
          → (c : C) × (r ≡ Some c)
      with_words true words g some e = words_give_command words r some e
      with_words false words g some e = cc

      by_cases : (b : Bool) → (is_plain (content_of line) && is_not_empty (words_of (content_of line)) && nat_le most_commands count) ≡ b
          → cond b (Err TooManyLines) (cond (is_plain (content_of line)) (words_read_in language (words_of (content_of line))) (Err NotAscii)) ≡ Err fault
          → (most_commands ≤ count) × ((c : C) × (r ≡ Some c))
      by_cases true g f =
          let ends = and_parts (is_plain (content_of line) && is_not_empty (words_of (content_of line))) (nat_le most_commands count) g in
          let starts = and_parts (is_plain (content_of line)) (is_not_empty (words_of (content_of line))) ends.0 in
          (leb-true most_commands count ends.1, with_words (is_plain (content_of line)) (words_of (content_of line)) starts.0 starts.1 e)
      by_cases false g f = cc

  -- the same at the front of some lines that are read
  stopped : (k : ℕ) (line : List ℕ) (lines : List (List ℕ)) (cs : List C) (fault : ScriptFault) → AreReadIn language (line ∷ lines) cs
      → line_read_after_in language k line ≡ Err fault → k + length cs ≤ most_commands → ⊥
  stopped k line lines cs fault h f few =
      let a = first line lines cs h in
      let late = too_many k line a.reading fault a.here f in
      let grown : cs ≡ late.1.0 ∷ a.rest = a.whole ∙ ap (λ r. cons_option r a.rest) late.1.1 in
      long k cs late.1.0 a.rest late.0 grown few
    where
      long : (k : ℕ) (cs : List C) (c : C) (ds : List C) → most_commands ≤ k → cs ≡ c ∷ ds → k + length cs ≤ most_commands → ⊥
      long k cs c ds late e few = let l = ap length e in omega (arith, l)

  faulty_at : (before : List (List ℕ)) (faulty : List ℕ) (after : List (List ℕ)) (k : ℕ) (cs ds : List C) (fault : ScriptFault)
      → AreReadIn language (before ++ (faulty ∷ after)) cs → AreReadIn language before ds → line_read_after_in language (k + length ds) faulty ≡ Err fault → k + length cs ≤ most_commands → ⊥
  faulty_at [] faulty after k cs ds fault h i f few =
      stopped k faulty after cs fault h (sym (ap (λ n. line_read_after_in language n faulty) (counted k ds (none_of ds i))) ∙ f) few
    where
      counted : (k : ℕ) (ds : List C) → ds ≡ [] → k + length ds ≡ k
      counted k ds e = let l = ap length e in omega (arith, l)
  faulty_at (line ∷ before) faulty after k cs ds fault h i f few =
      let a = first line (before ++ (faulty ∷ after)) cs h in
      let b = first line before ds i in
      let same = same_reading b.reading a.reading (line_read_in language line) b.here a.here in
      by_cases a.reading a.rest b.rest a.whole (b.whole ∙ ap (λ r. cons_option r b.rest) same)
      (λ k g few. faulty_at before faulty after k a.rest b.rest fault a.later b.later g few)
    where
      by_cases : (r : Option C) (cs' ds' : List C) → cs ≡ cons_option r cs' → ds ≡ cons_option r ds'
          → ((k : ℕ) → line_read_after_in language (k + length ds') faulty ≡ Err fault → k + length cs' ≤ most_commands → ⊥) → ⊥
      by_cases (Some c) cs' ds' e g later =
          let l = ap length e in
          let m = ap length g in
          later (k + 1) (ap (λ n. line_read_after_in language n faulty) (one_more k (length ds') (length ds) m) ∙ f) (omega (arith, l))
        where
          one_more : (k n m : ℕ) → m ≡ suc n → k + 1 + n ≡ k + m
          one_more k n m e = omega arith
      by_cases None cs' ds' e g later =
          later k (ap (λ xs. line_read_after_in language (k + length xs) faulty) (sym g) ∙ f) (let l = ap length e in omega (arith, l))

  no_fault : (text : List ℕ) (cs : List C) (line : ℕ) (fault : ScriptFault) → IsReadIn language text cs → HasFirstFaultIn language text line fault → ⊥
  no_fault text cs line fault h i =
      faulty_at i.before i.faulty i.after 0 cs i.commands fault (subst (λ ls. AreReadIn language ls cs) i.cut h.lines) i.read
      (ap (λ n. line_read_after_in language n i.faulty) (from_zero (length i.commands)) ∙ i.fault_is) (omega (arith, h.few))
    where
      from_zero : (n : ℕ) → 0 + n ≡ n
      from_zero n = omega arith

  same_error : (x : ReadingOf C) (f g : ScriptFault) → x ≡ Err f → x ≡ Err g → f ≡ g
  same_error x f g e h = cc

  counted : (k : ℕ) (ds : List C) → ds ≡ [] → k ≡ k + length ds
  counted k ds e = let l = ap length e in omega (arith, l)

  at_start : (k : ℕ) (line : List ℕ) (ds : List C) (fault : ScriptFault) → AreReadIn language [] ds → line_read_after_in language (k + length ds) line ≡ Err fault
      → line_read_after_in language k line ≡ Err fault
  at_start k line ds fault i f = ap (λ n. line_read_after_in language n line) (counted k ds (none_of ds i)) ∙ f

  same_fault : (one other : List (List ℕ)) (x y : List ℕ) (rest more : List (List ℕ)) (k : ℕ) (cs ds : List C) (f g : ScriptFault)
      → one ++ (x ∷ rest) ≡ other ++ (y ∷ more) → AreReadIn language one cs → AreReadIn language other ds → k + length cs ≤ most_commands → k + length ds ≤ most_commands
      → line_read_after_in language (k + length cs) x ≡ Err f → line_read_after_in language (k + length ds) y ≡ Err g → Same one other f g
  same_fault [] [] x y rest more k cs ds f g e h i few fewer a b = record {
    place = refl;
    fault = same_error (line_read_after_in language k x) f g (at_start k x cs f h a) (ap (line_read_after_in language k) (head_of x y rest more e) ∙ at_start k y ds g i b);
  }
  same_fault [] (line ∷ other) x y rest more k cs ds f g e h i few fewer a b =
      absurd (stopped k line other ds f i (ap (line_read_after_in language k) (sym (head_of x line rest (other ++ (y ∷ more)) e)) ∙ at_start k x cs f h a) fewer)
  same_fault (line ∷ one) [] x y rest more k cs ds f g e h i few fewer a b =
      absurd (stopped k line one cs g h (ap (line_read_after_in language k) (head_of line y (one ++ (x ∷ rest)) more e) ∙ at_start k y ds g i b) few)
  same_fault (line ∷ one) (other_line ∷ other) x y rest more k cs ds f g e h i few fewer a b =
      let m = first line one cs h in
      let n = first other_line other ds i in
      let same_line = head_of line other_line (one ++ (x ∷ rest)) (other ++ (y ∷ more)) e in
      let same = same_reading n.reading m.reading (line_read_in language line) (ap (line_read_in language) same_line ∙ n.here) m.here in
      by_cases m.reading m.rest n.rest m.whole (n.whole ∙ ap (λ r. cons_option r n.rest) same)
      (λ k few fewer a b. same_fault one other x y rest more k m.rest n.rest f g (tail_of line other_line (one ++ (x ∷ rest)) (other ++ (y ∷ more)) e) m.later
      n.later few fewer a b)
    where
      grown : (k n m : ℕ) → m ≡ suc n → k + 1 + n ≡ k + m
      grown k n m e = omega arith

      longer : Same one other f g → Same (line ∷ one) (other_line ∷ other) f g
      longer s = record { place = ap suc s.place; fault = s.fault }

      by_cases : (r : Option C) (cs' ds' : List C) → cs ≡ cons_option r cs' → ds ≡ cons_option r ds'
          → ((k : ℕ) → k + length cs' ≤ most_commands → k + length ds' ≤ most_commands → line_read_after_in language (k + length cs') x ≡ Err f
          → line_read_after_in language (k + length ds') y ≡ Err g → Same one other f g) → Same (line ∷ one) (other_line ∷ other) f g
      by_cases (Some c) cs' ds' p q later =
          let l = ap length p in
          let m = ap length q in
          longer (later (k + 1) (omega (arith, l)) (omega (arith, m)) (ap (λ n. line_read_after_in language n x) (grown k (length cs') (length cs) l) ∙ a)
          (ap (λ n. line_read_after_in language n y) (grown k (length ds') (length ds) m) ∙ b))
      by_cases None cs' ds' p q later =
          longer (later k (let l = ap length p in omega (arith, l)) (let l = ap length q in omega (arith, l))
          (ap (λ xs. line_read_after_in language (k + length xs) x) (sym p) ∙ a) (ap (λ xs. line_read_after_in language (k + length xs) y) (sym q) ∙ b))

  one_fault : (text : List ℕ) (m n : ℕ) (f g : ScriptFault) → HasFirstFaultIn language text m f → HasFirstFaultIn language text n g → (m ≡ n) × (f ≡ g)
  one_fault text m n f g h i =
      let same = same_fault h.before i.before h.faulty i.faulty h.after i.after 0 h.commands i.commands f g (sym h.cut ∙ i.cut) h.read i.read
      (omega (arith, h.few)) (omega (arith, i.few)) (ap (λ n. line_read_after_in language n h.faulty) (zero_plus (length h.commands)) ∙ h.fault_is)
      (ap (λ n. line_read_after_in language n i.faulty) (zero_plus (length i.commands)) ∙ i.fault_is) in
      (h.place ∙ ap (λ n. line_number (n + 1)) same.place ∙ sym i.place, same.fault)
    where
      zero_plus : (n : ℕ) → 0 + n ≡ n
      zero_plus n = omega arith

  -- a refusal is for the length of the text, or for its first faulty line

  pub no_refusal : (text : List ℕ) (cs : List C) (error : ScriptError) → IsReadIn language text cs → IsRefusedIn language text error → ⊥
  no_refusal text cs error h (inl long) = omega (arith, h.short, long.0)
  no_refusal text cs error h (inr fault) = no_fault text cs error.line error.fault h fault

  pub one_refusal : (text : List ℕ) (e f : ScriptError) → IsRefusedIn language text e → IsRefusedIn language text f → e ≡ f
  one_refusal text e f (inl long) (inl other) = long.1 ∙ sym other.1
  one_refusal text e f (inl long) (inr fault) = absurd (omega (arith, long.0, fault.short))
  one_refusal text e f (inr fault) (inl long) = absurd (omega (arith, long.0, fault.short))
  one_refusal text e f (inr fault) (inr other) =
      let same = one_fault text e.line f.line e.fault f.fault fault other in
      λ i. record { line = same.0 i; fault = same.1 i }
