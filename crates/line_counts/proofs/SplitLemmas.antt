-- The parts of a list that grows at its end by one element: a new part begins behind one that parts, and the last part takes any other.
use Rattle.std.proofs.Common.{◌≡◌, ℕ, ◌<◌, Bool, true, false, cond, List, [], ◌∷◌, ◌++◌, length, arith, refl, ap, ◌∙◌}
use Rattle.std.specs.List.{slice_split, onto_first}
use Rattle.std.proofs.lemmas.List.Splits.{length-slice_split}
use Rattle.line_counts.specs.Counts.{all_but_last}
use Rattle.line_counts.specs.Place.{last_of}

-- one more element at the end of the last part
abbrev pub onto_last : {A : Type 0} → A → List (List A) → List (List A)
onto_last y [] = []
onto_last y (part ∷ []) = (part ++ y ∷ []) ∷ []
onto_last y (part ∷ next ∷ parts) = part ∷ onto_last y (next ∷ parts)

pub some_part : {A : Type 0} (p : A → Bool) (xs : List A) → 0 < length (slice_split p xs)
some_part p xs = omega (arith, length-slice_split p xs)

-- ---- a part begins

onto_first-append : {A : Type 0} (x : A) (parts more : List (List A)) → 0 < length parts → onto_first x (parts ++ more) ≡ onto_first x parts ++ more
onto_first-append x [] more some = absurd (omega arith)
onto_first-append x (part ∷ parts) more some = refl

begun_by : {A : Type 0} (b : Bool) (x : A) (parts more : List (List A)) → 0 < length parts
    → cond b ([] ∷ (parts ++ more)) (onto_first x (parts ++ more)) ≡ cond b ([] ∷ parts) (onto_first x parts) ++ more
begun_by true x parts more some = refl
begun_by false x parts more some = onto_first-append x parts more some

pub slice_split-append_yes : {A : Type 0} (p : A → Bool) (xs : List A) (y : A) → p y ≡ true → slice_split p (xs ++ y ∷ []) ≡ slice_split p xs ++ [] ∷ []
slice_split-append_yes p [] y parts = rw parts refl
slice_split-append_yes p (x ∷ xs) y parts =
    ap (λ rest. cond (p x) ([] ∷ rest) (onto_first x rest)) (slice_split-append_yes p xs y parts)
    ∙ begun_by (p x) x (slice_split p xs) ([] ∷ []) (some_part p xs)

-- ---- a part goes on

onto_first-onto_last : {A : Type 0} (x y : A) (parts : List (List A)) → 0 < length parts → onto_first x (onto_last y parts) ≡ onto_last y (onto_first x parts)
onto_first-onto_last x y [] some = absurd (omega arith)
onto_first-onto_last x y (part ∷ []) some = refl
onto_first-onto_last x y (part ∷ next ∷ parts) some = refl

onto_last-cons : {A : Type 0} (y : A) (part : List A) (parts : List (List A)) → 0 < length parts → part ∷ onto_last y parts ≡ onto_last y (part ∷ parts)
onto_last-cons y part [] some = absurd (omega arith)
onto_last-cons y part (next ∷ parts) some = refl

gone_on : {A : Type 0} (b : Bool) (x y : A) (parts : List (List A)) → 0 < length parts
    → cond b ([] ∷ onto_last y parts) (onto_first x (onto_last y parts)) ≡ onto_last y (cond b ([] ∷ parts) (onto_first x parts))
gone_on true x y parts some = onto_last-cons y [] parts some
gone_on false x y parts some = onto_first-onto_last x y parts some

pub slice_split-append_no : {A : Type 0} (p : A → Bool) (xs : List A) (y : A) → p y ≡ false → slice_split p (xs ++ y ∷ []) ≡ onto_last y (slice_split p xs)
slice_split-append_no p [] y goes = rw goes refl
slice_split-append_no p (x ∷ xs) y goes =
    ap (λ rest. cond (p x) ([] ∷ rest) (onto_first x rest)) (slice_split-append_no p xs y goes) ∙ gone_on (p x) x y (slice_split p xs) (some_part p xs)

-- ---- the last part, and those before it

pub all_but_last-append : {A : Type 0} (xs : List A) (y : A) → all_but_last (xs ++ y ∷ []) ≡ xs
all_but_last-append [] y = refl
all_but_last-append (x ∷ []) y = refl
all_but_last-append (x ∷ z ∷ xs) y = ap (λ rest. x ∷ rest) (all_but_last-append (z ∷ xs) y)

pub all_but_last-cons : {A : Type 0} (x : A) (xs : List A) → 0 < length xs → all_but_last (x ∷ xs) ≡ x ∷ all_but_last xs
all_but_last-cons x [] some = absurd (omega arith)
all_but_last-cons x (y ∷ xs) some = refl

pub last_of-append : (parts : List (List ℕ)) (part : List ℕ) → last_of (parts ++ part ∷ []) ≡ part
last_of-append [] part = refl
last_of-append (x ∷ []) part = refl
last_of-append (x ∷ y ∷ parts) part = last_of-append (y ∷ parts) part

pub all_but_last-whole : (parts : List (List ℕ)) → 0 < length parts → all_but_last parts ++ last_of parts ∷ [] ≡ parts
all_but_last-whole [] some = absurd (omega arith)
all_but_last-whole (x ∷ []) some = refl
all_but_last-whole (x ∷ y ∷ parts) some = ap (λ rest. x ∷ rest) (all_but_last-whole (y ∷ parts) (omega arith))

pub all_but_last-onto_last : {A : Type 0} (y : A) (parts : List (List A)) → all_but_last (onto_last y parts) ≡ all_but_last parts
all_but_last-onto_last y [] = refl
all_but_last-onto_last y (x ∷ []) = refl
all_but_last-onto_last y (x ∷ z ∷ []) = refl
all_but_last-onto_last y (x ∷ z ∷ w ∷ parts) = ap (λ rest. x ∷ rest) (all_but_last-onto_last y (z ∷ w ∷ parts))

pub last_of-onto_last : (y : ℕ) (parts : List (List ℕ)) → 0 < length parts → last_of (onto_last y parts) ≡ last_of parts ++ y ∷ []
last_of-onto_last y [] some = absurd (omega arith)
last_of-onto_last y (x ∷ []) some = refl
last_of-onto_last y (x ∷ z ∷ []) some = refl
last_of-onto_last y (x ∷ z ∷ w ∷ parts) some = last_of-onto_last y (z ∷ w ∷ parts) (omega arith)
