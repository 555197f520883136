-- A rise of TCK at a row of devices, from the one at TDO on: each takes what the next one had.
use Rattle.std.proofs.Common.{◌≡◌, ◌∙◌, ℕ, ◌+◌, ◌<◌, ◌≤◌, zero, suc, List, [], ◌∷◌, ◌++◌, length, take, drop, get_or, set, Bool, refl, sym, ap, ap₂, subst, add-one, arith}
use Rattle.std.proofs.lemmas.List.{append-nil, drop_all, take_all}
use Rattle.chain_scan.specs.Chain.{outgoing, sides_rise}
use Rattle.chain_scan.specs.SideTap.{SideTap, side_rises}

-- so many of them have risen
abbrev row : Bool → Bool → List SideTap → ℕ → List SideTap
row tms tdi xs i = take i (sides_rise tms tdi xs) ++ drop i xs

one_more : (tms tdi : Bool) (xs : List SideTap) (i : ℕ) (x : SideTap) → i < length xs → x ≡ get_or (row tms tdi xs i) i x
    → set (row tms tdi xs i) i (side_rises tms (outgoing tdi (drop (suc i) (row tms tdi xs i))) x) ≡ row tms tdi xs (suc i)
one_more tms tdi [] i x within is = absurd (omega arith)
one_more tms tdi (t ∷ ts) zero x within is = ap (λ u. side_rises tms (outgoing tdi ts) u ∷ ts) is
one_more tms tdi (t ∷ ts) (suc i) x within is = ap (λ ys. side_rises tms (outgoing tdi ts) t ∷ ys) (one_more tms tdi ts i x (omega arith) is)

pub risen_more : (tms tdi : Bool) (xs ys : List SideTap) (i : ℕ) (x : SideTap) → i < length xs → ys ≡ take i (sides_rise tms tdi xs) ++ drop i xs
    → x ≡ get_or ys i x
    → set ys i (side_rises tms (outgoing tdi (drop (i + 1) ys)) x) ≡ take (i + 1) (sides_rise tms tdi xs) ++ drop (i + 1) xs
risen_more tms tdi xs ys i x within whole is =
    let P : ℕ → List SideTap → Type 0 = λ j zs. x ≡ get_or zs i x → set zs i (side_rises tms (outgoing tdi (drop j zs)) x) ≡ row tms tdi xs j in
    subst (λ j. P j ys) (sym (add-one i)) (subst (P (suc i)) (sym whole) (one_more tms tdi xs i x within)) is

rise_length : (tms tdi : Bool) (xs : List SideTap) → length (sides_rise tms tdi xs) ≡ length xs
rise_length tms tdi [] = refl
rise_length tms tdi (t ∷ ts) = ap suc (rise_length tms tdi ts)

pub risen_all : (tms tdi : Bool) (xs ys : List SideTap) (i : ℕ) → length xs ≤ i → ys ≡ take i (sides_rise tms tdi xs) ++ drop i xs
    → ys ≡ sides_rise tms tdi xs
risen_all tms tdi xs ys i all whole =
    let long : length (sides_rise tms tdi xs) ≡ length xs = rise_length tms tdi xs in
    whole ∙ ap₂ (λ p q. p ++ q) (take_all i (sides_rise tms tdi xs) (omega arith)) (drop_all i xs all) ∙ append-nil (sides_rise tms tdi xs)
