-- That bits and the number that they spell give each other back: n bits are n, and a number below 2 ^ n is spelled by n bits.
-- Serial registers shift their least significant bit out first (IEEE 1149.1, the test data registers).
use Rattle.std.proofs.Common.{◌≡◌, ℕ, zero, suc, ◌/◌, ◌%◌, ◌^◌, ◌<◌, ◌==◌, List, Bool, length, refl, ap, arith}
use Rattle.std.proofs.Math.Nat.{pow-suc}
use Rattle.jt_base.specs.BitList.{bits_of, number_of, digit}

pub length-bits_of : (n v : ℕ) → length (bits_of n v) ≡ n
unfolding bits_of
length-bits_of zero v = refl
length-bits_of (suc n) v = ap suc (length-bits_of n (v / 2))

-- the digit of the lowest bit of a number
pub digit-lowest : (v : ℕ) → digit (v % 2 == 1) ≡ v % 2
digit-lowest v = below (v % 2) (omega arith) where
  below : (r : ℕ) → r < 2 → digit (r == 1) ≡ r
  below zero h = refl
  below (suc zero) h = refl
  below (suc (suc r)) h = omega arith

pub number_of-bits_of : (n v : ℕ) → v < 2 ^ n → number_of (bits_of n v) ≡ v
unfolding bits_of number_of
number_of-bits_of zero v small = omega arith
number_of-bits_of (suc n) v small =
    let rest = number_of-bits_of n (v / 2) (omega (arith, pow-suc 2 n)) in
    omega (arith, rest, digit-lowest v)

-- bits are those that their number is spelled by
abbrev pub GivesBitsBack : Type 0
GivesBitsBack = (bits : List Bool) → bits_of (length bits) (number_of bits) ≡ bits

-- a number is the one that its bits spell
abbrev pub GivesNumberBack : Type 0
GivesNumberBack = (n number : ℕ) → number < 2 ^ n → number_of (bits_of n number) ≡ number
