-- A number within its range, or out of it.
use Rattle.std.proofs.Common.{◌≡◌, ℕ, ◌<◌, ◌≤◌, ◌&&◌, Bool, true, false, cond, nat_le, Some, None, refl, ap, ◌∙◌, arith}
use Rattle.std.proofs.lemmas.Bool.Decides.{nat_tests}
use Rattle.command_line.specs.Numbers.{within}

pub within_range : (least most n : ℕ) → least ≤ n → n ≤ most → within least most n ≡ Some n
within_range least most n low high = ap (λ b. cond b (Some n) None)
    (both (nat_le least n) (nat_le n most) (grind (arith, nat_tests)) (grind (arith, nat_tests)))
  where
    both : (a b : Bool) → a ≡ true → b ≡ true → (a && b) ≡ true
    both true b e f = f
    both false b e f = e

pub within_below : (least most n : ℕ) → n < least → within least most n ≡ None
within_below least most n low = ap (λ b. cond (b && nat_le n most) (Some n) None) (no (grind (arith, nat_tests)))
  where
    no : nat_le least n ≡ false → nat_le least n ≡ false
    no e = e

pub within_above : (least most n : ℕ) → most < n → within least most n ≡ None
within_above least most n high = ap (λ b. cond (nat_le least n && b) (Some n) None) (no (grind (arith, nat_tests))) ∙ never (nat_le least n)
  where
    no : nat_le n most ≡ false → nat_le n most ≡ false
    no e = e

    never : (b : Bool) → cond (b && false) (Some n) None ≡ None
    never true = refl
    never false = refl
