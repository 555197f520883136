-- What a writer takes part by part, and what a reader gives up to a limit.
use Rattle.std.proofs.Common.{◌≡◌, ℕ, ◌-◌, List, [], ◌∷◌, ◌++◌, take, drop, length, Option, refl, sym, ap, ◌∙◌, subst, append_assoc, append-nil, arith}
use Rattle.std.proofs.Common.{Result, Ok, Err, OnOk, OnErr, ◌<◌, ◌≤◌, None, Some, IfSome, option_map, min}
use Rattle.std.proofs.lemmas.List.{take-append-drop, take_all, length-take, length-drop}
use Rattle.std.specs.Io.KnownBytes.{Appends, Keeps}
use Rattle.std.proofs.KnownBytes.{Appends-nil, Appends-trans, Appends-kept}
use Rattle.jt_base.specs.Written.{AppendsUpTo}

pub none_yet : (old : Option (List ℕ)) (piece : List ℕ) → AppendsUpTo old old piece piece
none_yet old piece = record { front = []; cut = refl; added = Appends-nil old }

pub one_more : (old mid new : Option (List ℕ)) (piece rest : List ℕ) (n : ℕ) → AppendsUpTo old mid piece rest → Appends mid new (take n rest)
    → AppendsUpTo old new piece (take (length rest - n) (drop n rest))
one_more old mid new piece rest n h a = record {
  front = h.front ++ take n rest;
  cut = h.cut
      ∙ ap (λ r. h.front ++ r) (sym (take-append-drop n rest)
      ∙ ap (λ r. take n rest ++ r) (sym (take_all (length rest - n) (drop n rest) (omega (arith, length-drop n rest)))))
      ∙ sym (append_assoc h.front (take n rest) (take (length rest - n) (drop n rest)));
  added = Appends-trans old mid new h.front (take n rest) h.added a;
}

pub kept : (old mid new : Option (List ℕ)) (piece rest : List ℕ) → AppendsUpTo old mid piece rest → Keeps mid new → AppendsUpTo old new piece rest
kept old mid new piece rest h k = record { front = h.front; cut = h.cut; added = Appends-kept old mid new h.front h.added k }

none_left : (rest : List ℕ) → length rest ≡ 0 → rest ≡ []
none_left [] e = refl
none_left (r ∷ rest) e = absurd (let no : ⊥ = omega arith in no)

pub all_added : (old new : Option (List ℕ)) (piece rest : List ℕ) → AppendsUpTo old new piece rest → length rest ≡ 0 → Appends old new piece
all_added old new piece rest h e =
    subst (Appends old new) (sym (h.cut ∙ ap (λ r. h.front ++ r) (none_left rest e) ∙ append-nil h.front)) h.added

pub on_ok : {T E P : Type 0} (r : Result T E) → P → OnOk r P
on_ok (Ok x) h = h
on_ok (Err e) h = tt

pub on_err : {T E P : Type 0} (r : Result T E) → P → OnErr r P
on_err (Ok x) h = tt
on_err (Err e) h = h

-- fewer bytes than the limit are all that there were
pub all_taken : (known : Option (List ℕ)) (n : ℕ) (bytes old : List ℕ) → old ≡ [] → IfSome (option_map (take n) known) (λ xs. bytes ≡ old ++ xs)
    → length bytes < n → IfSome known (λ left. bytes ≡ left)
all_taken None n bytes old none h small = tt
all_taken (Some xs) n bytes old none h small =
    let is : bytes ≡ take n xs = h ∙ ap (λ o. o ++ take n xs) none in
    is ∙ take_all n xs (whole (length (take n xs)) (ap length is) (length-take n xs))
  where
    whole : (m : ℕ) → length bytes ≡ m → m ≡ min n (length xs) → length xs ≤ n
    whole m e f = omega arith
