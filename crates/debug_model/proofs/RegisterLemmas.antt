-- The look-ups in a list of rows are those of the table that the rows show.
use Rattle.std.proofs.Common.{◌≡◌, ℕ, ◌+◌, ◌<◌, ◌≤◌, Bool, true, false, ◌||◌, cond, ◌==◌, List, [], ◌∷◌, length, get_or, drop, map, Option, Some, None}
use Rattle.std.proofs.Common.{unwrap_or, option_map, bytes_eq, refl, ap, ◌∙◌, eq-eqb}
use Rattle.std.specs.List.{find, list_any}
use Rattle.std.proofs.lemmas.List.{at_drop_more, at_drop_all}
use denote.Ref.{Bor}
use Rattle.debug_model.specs.Registers.{NamedRegister, named_registers, is_register, number_of_register, name_of_register}

abbrev pub Row : Type 0
Row = Bor (List ℕ) × ℕ

abbrev pub row : Row → NamedRegister
row r = (r.0.now, r.1)

abbrev pub number_in : List ℕ → List Row → Option ℕ
number_in name [] = None
number_in name (r ∷ rows) = cond (bytes_eq r.0.now name) (Some r.1) (number_in name rows)

number_in_table : (name : List ℕ) (rows : List Row) → number_in name rows ≡ option_map (λ r. r.1) (find (λ r. bytes_eq r.0 name) (map row rows))
number_in_table name [] = refl
number_in_table name (r ∷ rows) =
    elim (bytes_eq r.0.now name) as (λ b. cond b (Some r.1) (number_in name rows) ≡ option_map (λ q. q.1)
    (cond b (Some (row r)) (find (λ q. bytes_eq q.0 name) (map row rows)))) [ true ↦ refl | false ↦ number_in_table name rows ]

pub number_in_registers : (name : List ℕ) (rows : List Row) → map row rows ≡ named_registers → number_in name rows ≡ number_of_register name
unfolding number_of_register
number_in_registers name rows e = number_in_table name rows ∙ ap (λ t. option_map (λ r. r.1) (find (λ r. bytes_eq r.0 name) t)) e

pub number_here : (name : List ℕ) (rows : List Row) (i : ℕ) (d : Row) → i < length rows
    → number_in name (drop i rows) ≡ cond (bytes_eq (get_or rows i d).0.now name) (Some (get_or rows i d).1) (number_in name (drop (i + 1) rows))
number_here name rows i d h = at_drop_more (number_in name) rows i d h

pub number_past : (name : List ℕ) (rows : List Row) (i : ℕ) → length rows ≤ i → number_in name (drop i rows) ≡ None
number_past name rows i h = at_drop_all (number_in name) rows i h

abbrev pub name_in : ℕ → List Row → Option (List ℕ)
name_in number [] = None
name_in number (r ∷ rows) = cond (r.1 == number) (Some r.0.now) (name_in number rows)

name_in_table : (number : ℕ) (rows : List Row) → name_in number rows ≡ option_map (λ r. r.0) (find (λ r. r.1 == number) (map row rows))
name_in_table number [] = refl
name_in_table number (r ∷ rows) =
    elim (r.1 == number) as (λ b. cond b (Some r.0.now) (name_in number rows) ≡ option_map (λ q. q.0)
    (cond b (Some (row r)) (find (λ q. q.1 == number) (map row rows)))) [ true ↦ refl | false ↦ name_in_table number rows ]

pub name_in_registers : (number : ℕ) (rows : List Row) → map row rows ≡ named_registers → unwrap_or (name_in number rows) [] ≡ name_of_register number
unfolding name_of_register
name_in_registers number rows e = ap (λ o. unwrap_or o []) (name_in_table number rows ∙ ap (λ t. option_map (λ r. r.0) (find (λ r. r.1 == number) t)) e)

pub name_here : (number : ℕ) (rows : List Row) (i : ℕ) (d : Row) → i < length rows
    → name_in number (drop i rows) ≡ cond ((get_or rows i d).1 == number) (Some (get_or rows i d).0.now) (name_in number (drop (i + 1) rows))
name_here number rows i d h = at_drop_more (name_in number) rows i d h

pub name_past : (number : ℕ) (rows : List Row) (i : ℕ) → length rows ≤ i → name_in number (drop i rows) ≡ None
name_past number rows i h = at_drop_all (name_in number) rows i h

-- what is found is in the table
found_is_register : (name : List ℕ) (n : ℕ) (table : List NamedRegister) → option_map (λ r. r.1) (find (λ r. bytes_eq r.0 name) table) ≡ Some n
    → list_any (λ r. r.1 == n) table ≡ true
found_is_register name n [] e = cc
found_is_register name n (r ∷ table) e = by_cases (bytes_eq r.0 name) (λ e. found_is_register name n table e) e
  where
    same : (m k : ℕ) → Some m ≡ Some k → (m == k) ≡ true
    same m k e = eq-eqb m k cc

    or_true : (a b : Bool) → b ≡ true → (a || b) ≡ true
    or_true true b e = refl
    or_true false b e = e

    by_cases : (b : Bool) → (option_map (λ r. r.1) (find (λ r. bytes_eq r.0 name) table) ≡ Some n → list_any (λ r. r.1 == n) table ≡ true)
        → option_map (λ r. r.1) (cond b (Some r) (find (λ r. bytes_eq r.0 name) table)) ≡ Some n → ((r.1 == n) || list_any (λ r. r.1 == n) table) ≡ true
    by_cases true later e = ap (λ b. b || list_any (λ r. r.1 == n) table) (same r.1 n e)
    by_cases false later e = or_true (r.1 == n) _ (later e)

pub is_register-found : (name : List ℕ) (n : ℕ) → number_of_register name ≡ Some n → is_register n ≡ true
unfolding number_of_register is_register
is_register-found name n e = found_is_register name n named_registers e
