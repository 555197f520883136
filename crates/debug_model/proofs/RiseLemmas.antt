-- Bounds on the rises of TCK, one call behind another.
use Rattle.std.proofs.Common.{◌≡◌, ℕ, ◌+◌, ◌*◌, ◌≤◌, Option, Some, None, IfSome, refl, sym, ap, subst, arith}
use Rattle.std.proofs.Math.Nat.{mul-le-mul_right}
use Rattle.debug_model.specs.Chip.{Chip}
use Rattle.debug_model.specs.Kept.{DmiSeen, Fixed}
use Rattle.debug_model.specs.Pacing.{Paced}
use Rattle.debug_model.specs.Rises.{PacedWithin, Within, rate, rises_in}
use Rattle.debug_model.specs.Scan.{WhereTold}
use Rattle.debug_model.specs.Told.{Far, chip_of}

-- where the first call behind this chip told another, the second began there
abbrev TheRate : Option ℕ → ℕ → Chip → Option Far → Type 0
TheRate slack n c now = Paced c.inside → PacedWithin slack n c now

sums : (slack : Option ℕ) (n m k a b c : ℕ) → n + m ≤ k → IfSome slack (λ s. b ≤ a + n * rate s) → IfSome slack (λ s. c ≤ b + m * rate s)
    → IfSome slack (λ s. c ≤ a + k * rate s)
sums None n m k a b c few p q = tt
sums (Some s) n m k a b c few p q = let more : (n + m) * rate s ≤ k * rate s = mul-le-mul_right (rate s) few in omega (arith, more, p, q)

then_at : (slack slack' : Option ℕ) (n m k : ℕ) (f : Far) (mid new : Option Far) → slack' ≡ slack → n + m ≤ k → TheRate slack n (chip_of f) mid
    → WhereTold (TheRate slack' m) mid new → TheRate slack k (chip_of f) new
then_at slack slack' n m k f mid new same few first second paced =
    let p = first paced in
    let q : PacedWithin slack' m (chip_of p.far) new = (subst (λ x. WhereTold (TheRate slack' m) x new) p.is second) p.paced in
    record {
      far = q.far;
      is = q.is;
      paced = q.paced;
      most = sums slack n m k _ _ _ few p.most (subst (λ x. IfSome x (λ s. rises_in (chip_of q.far).inside ≤ rises_in (chip_of p.far).inside + m * rate s))
          same q.most);
    }

told_then : (slack slack' : Option ℕ) (n m k : ℕ) (old mid new : Option Far) → slack' ≡ slack → n + m ≤ k → WhereTold (TheRate slack n) old mid
    → WhereTold (TheRate slack' m) mid new → WhereTold (TheRate slack k) old new
told_then slack slack' n m k None mid new same few first second = subst (λ x. WhereTold (TheRate slack' m) x new) first second
told_then slack slack' n m k (Some f) mid new same few first second = then_at slack slack' n m k f mid new same few first second

-- two calls
pub within_then : (n m k : ℕ) (old mid new : DmiSeen) → Within n old mid → Within m mid new → mid.fixed ≡ old.fixed → n + m ≤ k → Within k old new
within_then n m k old mid new first second fixed few = record {
  told = told_then old.fixed.slack mid.fixed.slack n m k old.far mid.far new.far (ap (λ (f : Fixed). f.slack) fixed) few first.told second.told;
}

-- no call
none_at : (slack : Option ℕ) (k a : ℕ) → IfSome slack (λ s. a ≤ a + k * rate s)
none_at None k a = tt
none_at (Some s) k a = omega arith

told_none : (slack : Option ℕ) (k : ℕ) (told : Option Far) → WhereTold (TheRate slack k) told told
told_none slack k None = refl
told_none slack k (Some f) = λ paced. record { far = f; is = refl; paced = paced; most = none_at slack k (rises_in (chip_of f).inside) }

pub within_none : (k : ℕ) (old new : DmiSeen) → new ≡ old → Within k old new
within_none k old new same = subst (λ s. Within k old s) (sym same) (record { told = told_none old.fixed.slack k old.far })

-- a call, and a larger number
more_at : (slack : Option ℕ) (n k a b : ℕ) → n ≤ k → IfSome slack (λ s. b ≤ a + n * rate s) → IfSome slack (λ s. b ≤ a + k * rate s)
more_at None n k a b few p = tt
more_at (Some s) n k a b few p = let more : n * rate s ≤ k * rate s = mul-le-mul_right (rate s) few in omega (arith, more, p)

told_more : (slack : Option ℕ) (n k : ℕ) (old new : Option Far) → n ≤ k → WhereTold (TheRate slack n) old new → WhereTold (TheRate slack k) old new
told_more slack n k None new few w = w
told_more slack n k (Some f) new few w =
    λ paced. let p = w paced in record { far = p.far; is = p.is; paced = p.paced; most = more_at slack n k _ _ few p.most }

pub within_more : (n k : ℕ) (old new : DmiSeen) → Within n old new → n ≤ k → Within k old new
within_more n k old new w few = record { told = told_more old.fixed.slack n k old.far new.far few w.told }

-- three calls
pub within_three : (n m l k : ℕ) (old mid far new : DmiSeen) → Within n old mid → Within m mid far → Within l far new → mid.fixed ≡ old.fixed
    → far.fixed ≡ mid.fixed → n + m + l ≤ k → Within k old new
within_three n m l k old mid far new first second third fixed fixed' few =
    within_then n (m + l) k old mid new first (within_then m l (m + l) mid far new second third fixed' (omega arith)) fixed (omega arith)
