-- The bits of a word that a field has and that a mask keeps, over any place and width, and what the table's masks keep.
use Rattle.std.proofs.Common.{◌≡◌, ℕ, ◌+◌, ◌-◌, ◌*◌, ◌/◌, ◌%◌, ◌^◌, ◌<◌, bit_and, sym, ap, ◌∙◌, zero-mul, zero-add, lit<, arith}
use Rattle.std.proofs.lemmas.Nat.{and_block, and_mask, shr_split, one_shl, mod_below, pow_pos}
use Rattle.std.specs.Int.Bits.{and_zero_r}

-- a mask of so many ones, as `(1 << count) - 1` computes it
pub and_ones : (n count bits : ℕ) → count < bits → bit_and n (1 * 2 ^ count % 2 ^ bits - 1) ≡ n % 2 ^ count
and_ones n count bits h = ap (λ m. bit_and n (m - 1)) (one_shl count bits h) ∙ and_mask n count

pub and_ones_32 : (n count : ℕ) → count < 32 → bit_and n (1 * 2 ^ count % 2 ^ 32 - 1) ≡ n % 2 ^ count
and_ones_32 n count h = and_ones n count 32 h

pub and_ones_64 : (n count : ℕ) → count < 64 → bit_and n (1 * 2 ^ count % 2 ^ 64 - 1) ≡ n % 2 ^ count
and_ones_64 n count h = and_ones n count 64 h

-- a mask is taken apart at any bit
and_split : (n low upper lower : ℕ) → lower < 2 ^ low
    → bit_and n (upper * 2 ^ low + lower) ≡ bit_and (n / 2 ^ low) upper * 2 ^ low + bit_and (n % 2 ^ low) lower
and_split n low upper lower h =
    ap (λ k. bit_and k (upper * 2 ^ low + lower)) (sym (shr_split n low))
    ∙ and_block low (n / 2 ^ low) upper (n % 2 ^ low) lower (mod_below n (2 ^ low) (pow_pos low)) h

and_lower : (n low lower : ℕ) → lower < 2 ^ low → bit_and n lower ≡ bit_and (n % 2 ^ low) lower
and_lower n low lower h = simp (zero-mul, zero-add, and_zero_r) at (and_split n low 0 lower h)

-- a mask with a run of ones from `low` on keeps that field, and what the rest of the mask below it keeps
pub and_run : (n low count lower : ℕ) → lower < 2 ^ low → bit_and n ((2 ^ count - 1) * 2 ^ low + lower) ≡ n / 2 ^ low % 2 ^ count * 2 ^ low + bit_and n lower
and_run n low count lower h =
    and_split n low (2 ^ count - 1) lower h
    ∙ ap (λ k. k * 2 ^ low + bit_and (n % 2 ^ low) lower) (and_mask (n / 2 ^ low) count)
    ∙ ap (λ k. n / 2 ^ low % 2 ^ count * 2 ^ low + k) (sym (and_lower n low lower h))

-- ---- the masks of the table

pub and_funct3 : (w : ℕ) → bit_and w 0x707f ≡ w / 2 ^ 12 % 2 ^ 3 * 2 ^ 12 + w % 2 ^ 7
and_funct3 w = and_run w 12 3 0x7f (lit< tt) ∙ ap (λ k. w / 2 ^ 12 % 2 ^ 3 * 2 ^ 12 + k) (and_mask w 7)

pub and_funct7 : (w : ℕ) → bit_and w 0xfe00707f ≡ w / 2 ^ 25 % 2 ^ 7 * 2 ^ 25 + bit_and w 0x707f
and_funct7 w = and_run w 25 7 0x707f (lit< tt)

pub and_funct6 : (w : ℕ) → bit_and w 0xfc00707f ≡ w / 2 ^ 26 % 2 ^ 6 * 2 ^ 26 + bit_and w 0x707f
and_funct6 w = and_run w 26 6 0x707f (lit< tt)

pub and_funct5 : (w : ℕ) → bit_and w 0xf800707f ≡ w / 2 ^ 27 % 2 ^ 5 * 2 ^ 27 + bit_and w 0x707f
and_funct5 w = and_run w 27 5 0x707f (lit< tt)

pub and_funct5_rs2 : (w : ℕ) → bit_and w 0xf9f0707f ≡ w / 2 ^ 27 % 2 ^ 5 * 2 ^ 27 + (w / 2 ^ 20 % 2 ^ 5 * 2 ^ 20 + bit_and w 0x707f)
and_funct5_rs2 w = and_run w 27 5 0x1f0707f (lit< tt) ∙ ap (λ k. w / 2 ^ 27 % 2 ^ 5 * 2 ^ 27 + k) (and_run w 20 5 0x707f (lit< tt))

-- ---- the bits that an instruction's row and operands take up

pub and_all_but_ordering : (w : ℕ) → bit_and w 0xf9ffffff ≡ w / 2 ^ 27 % 2 ^ 5 * 2 ^ 27 + w % 2 ^ 25
and_all_but_ordering w = and_run w 27 5 0x1ffffff (lit< tt) ∙ ap (λ k. w / 2 ^ 27 % 2 ^ 5 * 2 ^ 27 + k) (and_mask w 25)

pub and_word : (w : ℕ) → w < 2 ^ 32 → bit_and w 0xffffffff ≡ w
and_word w fits = omega (arith, and_mask w 32)
