-- The bits of a scan: what is taken agrees with what comes out of the register, and what stays shifts along.
use Rattle.std.proofs.Common.{◌≡◌, ◌∙◌, ℕ, zero, suc, ◌<◌, List, [], ◌∷◌, ◌++◌, length, take, drop, Bool, Option, Some, None, refl, ap, sym, subst, arith}
use Rattle.std.proofs.Common.{append_assoc, append-nil, length-append}
use Rattle.jt_base.specs.BitList.{lowest, shift_in}
use Rattle.debug_model.specs.Scan.{comes_out, stays}
use Rattle.wire_sniff.specs.Sniffed.{and_seen, seen_bits}

-- a taken bit is what stood there, where it was seen
abbrev pub AgreesWith : Option Bool → Bool → Type 0
AgreesWith None bit = Unit {0}
AgreesWith (Some seen) bit = seen ≡ bit

abbrev pub Agree : List (Option Bool) → List Bool → Type 0
Agree [] [] = Unit {0}
Agree [] (b ∷ bits) = ⊥
Agree (t ∷ taken) [] = ⊥
Agree (t ∷ taken) (b ∷ bits) = AgreesWith t b × Agree taken bits

pub agree_more : (taken : List (Option Bool)) (bits : List Bool) (t : Option Bool) (b : Bool) → Agree taken bits → AgreesWith t b
    → Agree (taken ++ t ∷ []) (bits ++ b ∷ [])
agree_more [] [] t b a h = (h, tt)
agree_more [] (x ∷ bits) t b a h = absurd a
agree_more (s ∷ taken) [] t b a h = absurd a
agree_more (s ∷ taken) (x ∷ bits) t b a h = (a.0, agree_more taken bits t b a.1 h)

and_seen_parts : (t : Option Bool) (rest : Option (List Bool)) (x : Bool) (xs : List Bool) → and_seen t rest ≡ Some (x ∷ xs) → (t ≡ Some x) × (rest ≡ Some xs)
and_seen_parts None rest x xs e = absurd (cc)
and_seen_parts (Some b) None x xs e = absurd (cc)
and_seen_parts (Some b) (Some bs) x xs e = (cc, cc)

and_seen_some : (t : Option Bool) (rest : Option (List Bool)) → and_seen t rest ≡ Some [] → ⊥
and_seen_some None rest e = absurd (cc)
and_seen_some (Some b) None e = absurd (cc)
and_seen_some (Some b) (Some bs) e = absurd (cc)

-- seen bits are those that came out
pub seen_agree : (n : ℕ) (taken : List (Option Bool)) (bits seen : List Bool) → Agree taken bits → seen_bits (take n taken) ≡ Some seen → seen ≡ take n bits
seen_agree zero [] [] seen a e = cc
seen_agree zero [] (b ∷ bits) seen a e = absurd a
seen_agree zero (t ∷ taken) [] seen a e = absurd a
seen_agree zero (t ∷ taken) (b ∷ bits) seen a e = cc
seen_agree (suc n) [] [] seen a e = cc
seen_agree (suc n) [] (b ∷ bits) seen a e = absurd a
seen_agree (suc n) (t ∷ taken) [] seen a e = absurd a
seen_agree (suc n) (t ∷ taken) (b ∷ bits) [] a e = absurd (and_seen_some t (seen_bits (take n taken)) e)
seen_agree (suc n) (t ∷ taken) (b ∷ bits) (x ∷ seen) a e =
    let parts = and_seen_parts t (seen_bits (take n taken)) x seen e in
    let first : x ≡ b = subst (λ o. AgreesWith o b) parts.0 a.0 in
    ap (λ y. y ∷ seen) first ∙ ap (λ ys. b ∷ ys) (seen_agree n taken bits seen a.1 parts.1)

-- ---- one bit more

stays_one : (was : List Bool) (b : Bool) → stays was (b ∷ []) ≡ shift_in b was
stays_one [] b = refl
stays_one (x ∷ was) b = refl

some_behind : (xs : List Bool) (y : Bool) → 0 < length (xs ++ y ∷ [])
some_behind xs y = omega (arith, length-append xs (y ∷ []))

pub stays-more : (was given : List Bool) (b : Bool) → 0 < length was → stays was (given ++ b ∷ []) ≡ shift_in b (stays was given)
stays-more [] given b some = absurd (omega arith)
stays-more (x ∷ was) [] b some = ap (shift_in b) (sym (append-nil (x ∷ was)))
stays-more (x ∷ was) (y ∷ given) b some =
    drop_bits (length (given ++ b ∷ [])) was y (given ++ b ∷ []) ∙ stays-more (was ++ y ∷ []) given b (some_behind was y)
    ∙ ap (shift_in b) (sym (drop_bits (length given) was y given))
  where
    drop_bits : (n : ℕ) (xs : List Bool) (z : Bool) (ys : List Bool) → drop n (xs ++ z ∷ ys) ≡ drop n ((xs ++ z ∷ []) ++ ys)
    drop_bits n xs z ys = ap (drop n) (sym (append_assoc xs (z ∷ []) ys))

pub comes_out-more : (was given : List Bool) (b : Bool) → 0 < length was
    → comes_out was (given ++ b ∷ []) ≡ comes_out was given ++ lowest (stays was given) ∷ []
comes_out-more [] given b some = absurd (omega arith)
comes_out-more (x ∷ was) [] b some = refl
comes_out-more (x ∷ was) (y ∷ given) b some =
    ap (λ bits. x ∷ bits) (take_bits (length (given ++ b ∷ [])) was y (given ++ b ∷ []) ∙ comes_out-more (was ++ y ∷ []) given b (some_behind was y))
    ∙ ap (λ bits. x ∷ (bits ++ lowest (stays (was ++ y ∷ []) given) ∷ [])) (sym (take_bits (length given) was y given))
    ∙ ap (λ bits. x ∷ (take (length given) (was ++ y ∷ given) ++ lowest bits ∷ [])) (sym (drop_bits (length given) was y given))
  where
    take_bits : (n : ℕ) (xs : List Bool) (z : Bool) (ys : List Bool) → take n (xs ++ z ∷ ys) ≡ take n ((xs ++ z ∷ []) ++ ys)
    take_bits n xs z ys = ap (take n) (sym (append_assoc xs (z ∷ []) ys))

    drop_bits : (n : ℕ) (xs : List Bool) (z : Bool) (ys : List Bool) → drop n (xs ++ z ∷ ys) ≡ drop n ((xs ++ z ∷ []) ++ ys)
    drop_bits n xs z ys = ap (drop n) (sym (append_assoc xs (z ∷ []) ys))
