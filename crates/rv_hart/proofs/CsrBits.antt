-- The bits that a write of a control and status register sets.
use Rattle.std.proofs.Common.{◌≡◌, ℕ, ◌+◌, ◌*◌, ◌/◌, ◌%◌, ◌^◌, ◌<◌, ◌≤◌, bit_and, ◌∙◌, lit<, arith}
use Rattle.std.proofs.lemmas.Nat.{and_le_r, and_mask, and_mod}
use Rattle.std.specs.Int.Bits.{and_zero_r}
use Rattle.rv_words.proofs.FieldLemmas.{and_run}
use Rattle.rv_model.specs.Fields.{field}
use Rattle.rv_model.specs.Core.{mstatus_with}

-- ---- mstatus: MIE and MPIE

and_low_field : (v : ℕ) → bit_and v 0x8 ≡ v / 2 ^ 3 % 2 ^ 1 * 2 ^ 3 + bit_and v 0
and_low_field v = and_run v 3 1 0 (lit< tt)

and_fields : (v : ℕ) → bit_and v 0x88 ≡ v / 2 ^ 7 % 2 ^ 1 * 2 ^ 7 + bit_and v 0x8
and_fields v = and_run v 7 1 0x8 (lit< tt)

pub mstatus_bits_kept : (v : ℕ) → mstatus_with (field 3 1 (0x1800 + bit_and v 0x88)) (field 7 1 (0x1800 + bit_and v 0x88)) ≡ 0x1800 + bit_and v 0x88
mstatus_bits_kept v = omega (arith, and_fields v, and_low_field v, and_zero_r v)

-- ---- addresses

pub and_address_bits : (v : ℕ) → bit_and v 0xfffffffffffffffc % 4 ≡ 0
and_address_bits v = and_mod v 0xfffffffffffffffc 2 ∙ and_zero_r (v % 2 ^ 2)

pub and_vector_bits : (v : ℕ) → bit_and v 0xfffffffffffffffd % 4 ≤ 1
and_vector_bits v = omega (arith, and_mod v 0xfffffffffffffffd 2, and_le_r (v % 2 ^ 2) 1)

-- ---- all bits

pub and_all_bits : (v : ℕ) → v < 2 ^ 64 → bit_and v 0xffffffffffffffff ≡ v
and_all_bits v fits = omega (arith, and_mask v 64)
