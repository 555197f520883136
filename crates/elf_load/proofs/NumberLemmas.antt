-- A number as byteorder reads it is the number that its bytes spell.
use Rattle.std.proofs.Common.{◌≡◌, ℕ, zero, suc, ◌+◌, ◌-◌, ◌*◌, ◌≤◌, List, [], ◌∷◌, length, take, drop, refl, ap, ◌∙◌, arith, length-drop}
use Rattle.std.proofs.lemmas.List.{take_all}
use Rattle.byteorder.specs.Endian.{little_from}
use Rattle.byteorder.specs.Numbers.{little_from-cons}
use Rattle.elf_load.specs.Fields.{number_at, number_of}

no_bytes : (i n : ℕ) → little_from i n [] ≡ 0
no_bytes i zero = refl
no_bytes i (suc n) = ap (λ k. 0 + 256 * k) (no_bytes (suc i) n)

pub number_first : (n : ℕ) (bytes : List ℕ) → little_from 0 n bytes ≡ number_of (take n bytes)
number_first zero bytes = refl
number_first (suc n) [] = no_bytes 0 (suc n)
number_first (suc n) (b ∷ bytes) = ap (λ k. b + 256 * k) (little_from-cons 0 n b bytes ∙ number_first n bytes)

-- a field that is read where what is left of the bytes begins
pub field : (at n v : ℕ) (bytes : List ℕ) → v ≡ little_from 0 n (take (length bytes - at) (drop at bytes)) → v ≡ number_at at n bytes
unfolding number_at
field at n v bytes is =
    let short : length (drop at bytes) ≤ length bytes - at = omega (arith, length-drop at bytes) in
    is ∙ number_first n (take (length bytes - at) (drop at bytes)) ∙ ap (λ xs. number_of (take n xs)) (take_all (length bytes - at) (drop at bytes) short)
