-- What the place in a line says of the line, and the counts and the place of a text that grows by one byte.
use Rattle.std.proofs.Common.{◌≡◌, ℕ, suc, ◌+◌, ◌-◌, ◌^◌, Bool, true, false, cond, ◌&&◌, ◌==◌, nat_eq, min, List, [], ◌∷◌, ◌++◌, length, take, arith, refl}
use Rattle.std.proofs.Common.{ap, sym, subst, ◌∙◌, length-append}
use Rattle.std.specs.List.{count_by}
use lib.Pointwise.{pointwise}
use Rattle.std.proofs.lemmas.Bool.{ne_eqb}
use Rattle.std.proofs.lemmas.List.Sums.{sum_by-append}
use Rattle.jt_base.specs.Faults.{counted}
use Rattle.debug_model.specs.ScriptText.{line_feed}
use Rattle.line_counts.specs.Counts.{error_mark, tells_error, whole_lines, lines_in}
use Rattle.line_counts.specs.Place.{place_along, place_of, unfinished_line, AreCountsOf}
use Rattle.line_counts.specs.declared.place.Place.{Place}
use Rattle.line_counts.specs.declared.place.Place.TheVariants.{Matching, Error, Other}
use Rattle.line_counts.proofs.WholeLineLemmas.{whole_lines-nil, whole_lines-feed, whole_lines-more, unfinished_line-nil, unfinished_line-feed}
use Rattle.line_counts.proofs.WholeLineLemmas.{unfinished_line-more}

abbrev pub is_in_error : Place → Bool
is_in_error Error = true
is_in_error _ = false

starts_along : (mark line : List ℕ) (count : ℕ) → pointwise nat_eq mark (take (length mark) line) ≡ is_in_error (place_along mark line count)
starts_along [] line count = refl
starts_along (m ∷ mark) [] count = refl
starts_along (m ∷ mark) (byte ∷ line) count =
    elim (m == byte) as (λ b. (b && pointwise nat_eq mark (take (length mark) line)) ≡ is_in_error (cond b (place_along mark line (suc count)) Other))
    [ true ↦ starts_along mark line (suc count) | false ↦ refl ]

tells_error_in_place : (line : List ℕ) → tells_error line ≡ is_in_error (place_of line)
tells_error_in_place line = starts_along error_mark line 0

-- ---- the counts

abbrev up_to_end : ℕ → ℕ
up_to_end count = min count (2 ^ 64 - 1)

pub AreCountsOf-nil : AreCountsOf 0 0 (Matching 0) []
AreCountsOf-nil = record {
  lines_are = rw whole_lines-nil refl;
  errors_are = rw whole_lines-nil refl;
  place_is = rw unfinished_line-nil refl;
}

pub AreCountsOf-more : (lines errors : ℕ) (place next : Place) (text : List ℕ) (byte : ℕ) → AreCountsOf lines errors place text → (byte ≡ line_feed → ⊥)
    → ((line : List ℕ) → place ≡ place_of line → next ≡ place_of (line ++ byte ∷ [])) → AreCountsOf lines errors next (text ++ byte ∷ [])
AreCountsOf-more lines errors place next text byte are other then =
    let test : (byte == line_feed) ≡ false = ne_eqb byte line_feed other in
    let same = whole_lines-more text byte test in
    record {
      lines_are = are.lines_are ∙ ap (λ whole. up_to_end (length whole)) (sym same);
      errors_are = are.errors_are ∙ ap (λ whole. up_to_end (count_by tells_error whole)) (sym same);
      place_is = then (unfinished_line text) are.place_is ∙ ap place_of (sym (unfinished_line-more text byte test));
    }

one_more : (count : ℕ) → counted (up_to_end count) ≡ up_to_end (count + 1)
one_more count = omega arith

counted_with : {A : Type 0} (p : A → Bool) (xs : List A) (y : A) (b : Bool) → p y ≡ b → count_by p (xs ++ y ∷ []) ≡ count_by p xs + cond b 1 0
counted_with p xs y b is = rw sum_by-append (rw is (omega arith))

-- the errors where a line ends at a place
abbrev errors_after : Place → ℕ → ℕ
errors_after place errors = cond (is_in_error place) (counted errors) errors

errors_end : (place : Place) (lines : List (List ℕ)) (line : List ℕ) → place ≡ place_of line
    → errors_after place (up_to_end (count_by tells_error lines)) ≡ up_to_end (count_by tells_error (lines ++ line ∷ []))
errors_end place lines line is =
    let told : tells_error line ≡ is_in_error place = tells_error_in_place line ∙ ap is_in_error (sym is) in
    let more = counted_with tells_error lines line (is_in_error place) told in
    rw more (by_case (is_in_error place) (count_by tells_error lines))
  where
    by_case : (b : Bool) (count : ℕ) → cond b (counted (up_to_end count)) (up_to_end count) ≡ up_to_end (count + cond b 1 0)
    by_case true count = one_more count
    by_case false count = omega arith

AreCountsOf-feed : (lines errors : ℕ) (place : Place) (text : List ℕ) → AreCountsOf lines errors place text
    → AreCountsOf (counted lines) (errors_after place errors) (Matching 0) (text ++ line_feed ∷ [])
AreCountsOf-feed lines errors place text are =
    let whole = whole_lines-feed text in
    record {
      lines_are = rw whole (rw length-append (ap counted are.lines_are ∙ one_more (lines_in text)));
      errors_are = rw whole (ap (errors_after place) are.errors_are ∙ errors_end place (whole_lines text) (unfinished_line text) are.place_is);
      place_is = rw unfinished_line-feed refl;
    }

pub AreCountsOf-error : (lines errors : ℕ) (place : Place) (text : List ℕ) → AreCountsOf lines errors place text → place ≡ Error
    → AreCountsOf (counted lines) (counted errors) (Matching 0) (text ++ line_feed ∷ [])
AreCountsOf-error lines errors place text are is =
    let P : Place → Type 0 = λ p. AreCountsOf (counted lines) (errors_after p errors) (Matching 0) (text ++ line_feed ∷ []) in
    subst P is (AreCountsOf-feed lines errors place text are)

not_error : (place : Place) → (place ≡ Error → ⊥) → is_in_error place ≡ false
not_error (Matching count) not = refl
not_error Error not = absurd (not refl)
not_error Other not = refl

pub AreCountsOf-line : (lines errors : ℕ) (place : Place) (text : List ℕ) → AreCountsOf lines errors place text → (place ≡ Error → ⊥)
    → AreCountsOf (counted lines) errors (Matching 0) (text ++ line_feed ∷ [])
AreCountsOf-line lines errors place text are not =
    let P : Bool → Type 0 = λ b. AreCountsOf (counted lines) (cond b (counted errors) errors) (Matching 0) (text ++ line_feed ∷ []) in
    subst P (not_error place not) (AreCountsOf-feed lines errors place text are)
