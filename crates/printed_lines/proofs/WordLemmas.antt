-- How long the names of registers are, and that other numbers have none.
use Rattle.std.proofs.Common.{
  ◌≡◌,
  ℕ,
  ◌≤◌,
  Bool,
  true,
  false,
  ◌||◌,
  ◌&&◌,
  cond,
  ◌==◌,
  List,
  [],
  ◌∷◌,
  length,
  Option,
  Some,
  unwrap_or,
  option_map,
  nat_le,
  refl,
  arith,
}
use Rattle.std.proofs.lemmas.Bool.{leb-true}
use Rattle.std.specs.List.{find, list_any, list_all}
use Rattle.std.specs.Fmt.{digits}
use Rattle.debug_model.specs.Registers.{NamedRegister, named_registers, is_register, name_of_register}

-- the name of what was found
abbrev name_found : Option NamedRegister → List ℕ
name_found found = unwrap_or (option_map (λ r. r.0) found) []

abbrev name_in : ℕ → List NamedRegister → List ℕ
name_in number table = name_found (find (λ r. r.1 == number) table)

-- the most bytes of a name
abbrev most : ℕ
most = 9

abbrev is_short : NamedRegister → Bool
is_short r = nat_le (length r.0) most

nil-short : length {A = ℕ} [] ≤ most
nil-short = omega arith

short_here : (here short later : Bool) (r : NamedRegister) (found : Option NamedRegister) → is_short r ≡ short → (short && later) ≡ true
    → (later ≡ true → length (name_found found) ≤ most) → length (name_found (cond here (Some r) found)) ≤ most
short_here true true later r found s e rest = leb-true (length r.0) most s
short_here false true later r found s e rest = rest e
short_here here false later r found s e rest = cc

name_in-short : (number : ℕ) (table : List NamedRegister) → list_all is_short table ≡ true → length (name_in number table) ≤ most
name_in-short number [] e = nil-short
name_in-short number (r ∷ table) e =
    short_here (r.1 == number) (is_short r) (list_all is_short table) r (find (λ q. q.1 == number) table) refl e (name_in-short number table)

pub name_of_register-short : (number : ℕ) → length (name_of_register number) ≤ most
unfolding name_of_register named_registers digits
name_of_register-short number = name_in-short number named_registers refl

none_here : (here later : Bool) (r : NamedRegister) (found : Option NamedRegister) → (here || later) ≡ false → (later ≡ false → name_found found ≡ [])
    → name_found (cond here (Some r) found) ≡ []
none_here true later r found e rest = cc
none_here false later r found e rest = rest e

name_in-none : (number : ℕ) (table : List NamedRegister) → list_any (λ r. r.1 == number) table ≡ false → name_in number table ≡ []
name_in-none number [] e = refl
name_in-none number (r ∷ table) e =
    none_here (r.1 == number) (list_any (λ q. q.1 == number) table) r (find (λ q. q.1 == number) table) e (name_in-none number table)

pub name_of_register-none : (number : ℕ) → is_register number ≡ false → name_of_register number ≡ []
unfolding is_register name_of_register
name_of_register-none number e = name_in-none number named_registers e
