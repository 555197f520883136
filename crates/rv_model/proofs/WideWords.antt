-- Every result of a computing instruction has at most 64 bits, where its arguments do.
use Rattle.std.proofs.Common.{◌+◌, ◌-◌, ◌*◌, ◌/◌, ◌%◌, ◌^◌, ◌<◌, ◌≤◌, ◌==◌, ℕ, Bool, true, false, pos, negsuc, ℤ, if◌then◌else◌, arith, bit_and}
use Rattle.std.specs.Prelude.{int_div}
use Rattle.std.proofs.lemmas.Nat.{and_le_l, div_below, mul-lt, or_lt, shr_le, xor_lt}
use Rattle.std.proofs.Math.Nat.{div-le_self, mod-le}
use Rattle.rv_model.specs.declared.alu_op.AluOp.{AluOp}
use Rattle.rv_model.specs.declared.alu_op.AluOp.TheVariants.{Immediate, Shift, WordShift, Register, Amo}
use Rattle.rv_model.specs.declared.alu_op.ImmediateOp.TheVariants.{Addi, Slti, Sltiu, Xori, Ori, Andi, Addiw}
use Rattle.rv_model.specs.declared.alu_op.ShiftOp.TheVariants.{Slli, Srli, Srai}
use Rattle.rv_model.specs.declared.alu_op.WordShiftOp.TheVariants.{Slliw, Srliw, Sraiw}
use Rattle.rv_model.specs.declared.alu_op.RegisterOp.TheVariants.{
  Add,
  Sll,
  Slt,
  Sltu,
  Xor,
  Srl,
  Or,
  And,
  Sub,
  Sra,
  Mul,
  Mulh,
  Mulhsu,
  Mulhu,
  Div,
  Divu,
  Rem,
  Remu,
  Addw,
  Sllw,
  Srlw,
  Subw,
  Sraw,
  Mulw,
  Divw,
  Divuw,
  Remw,
  Remuw,
}
use Rattle.rv_model.specs.declared.alu_op.AmoOp.TheVariants.{Amoswap, Amoadd, Amoxor, Amoand, Amoor, Amomin, Amomax, Amominu, Amomaxu}
use Rattle.rv_model.specs.declared.width.Width.TheVariants.{Word, DoubleWord}
use Rattle.rv_model.specs.Alu.{all_ones, alu_of, digit, low, signed_word, word}
use Rattle.rv_model.specs.Fields.{sign_extended}

-- a number of at most 64 bits
abbrev pub IsWide : ℕ → Type 0
IsWide n = n < 2 ^ 64

pub if_wide : (b : Bool) (x y : ℕ) → IsWide x → IsWide y → IsWide (if b then x else y)
if_wide true x y p q = p
if_wide false x y p q = q

pub mod_wide : (n : ℕ) → IsWide (n % 2 ^ 64)
mod_wide n = omega arith

digit_wide : (b : Bool) → IsWide (digit b)
digit_wide true = omega arith
digit_wide false = omega arith

low_wide : (z : ℤ) → IsWide (low z)
low_wide (pos n) = mod_wide n
low_wide (negsuc n) = omega arith

pub extended_wide : (bits n : ℕ) → bits ≤ 64 → 2 ^ bits ≤ 2 ^ 64 → n < 2 ^ bits → IsWide (sign_extended bits n)
extended_wide bits n most fits small = if_wide _ n (n + (2 ^ 64 - 2 ^ bits)) (omega arith) (omega arith)

word_wide : (n : ℕ) → IsWide (word n)
word_wide n = extended_wide 32 (n % 2 ^ 32) (omega arith) (omega arith) (omega arith)

shr_wide : (a k : ℕ) → IsWide a → IsWide (a / 2 ^ k)
shr_wide a k p = let e : a / 2 ^ k ≤ a = shr_le a k in omega arith

div_wide : (a b : ℕ) → IsWide a → IsWide (a / b)
div_wide a b p = let e : a / b ≤ a = div-le_self a b in omega arith

rem_wide : (a b : ℕ) → IsWide a → IsWide (a % b)
rem_wide a b p = let e : a % b ≤ a = mod-le a b in omega arith

high_wide : (a b : ℕ) → IsWide a → IsWide b → IsWide (a * b / 2 ^ 64)
high_wide a b p q = div_below (a * b) (2 ^ 64) (2 ^ 64) (omega arith) (mul-lt a b (2 ^ 64) (2 ^ 64) p q)

and_wide : (a b : ℕ) → IsWide a → IsWide (bit_and a b)
and_wide a b p = let e : bit_and a b ≤ a = and_le_l a b in omega arith

ones_wide : IsWide all_ones
ones_wide = omega arith

pub alu_wide : (o : AluOp) (a b : ℕ) → IsWide a → IsWide b → IsWide (alu_of o a b)
unfolding alu_of
alu_wide (Immediate Addi) a b p q = mod_wide _
alu_wide (Immediate Slti) a b p q = digit_wide _
alu_wide (Immediate Sltiu) a b p q = digit_wide _
alu_wide (Immediate Xori) a b p q = xor_lt 64 a b p q
alu_wide (Immediate Ori) a b p q = or_lt 64 a b p q
alu_wide (Immediate Andi) a b p q = and_wide a b p
alu_wide (Shift Slli) a b p q = mod_wide _
alu_wide (Shift Srli) a b p q = shr_wide a (b % 64) p
alu_wide (Shift Srai) a b p q = low_wide _
alu_wide (Immediate Addiw) a b p q = word_wide _
alu_wide (WordShift Slliw) a b p q = word_wide _
alu_wide (WordShift Srliw) a b p q = word_wide _
alu_wide (WordShift Sraiw) a b p q = low_wide _
alu_wide (Register Add) a b p q = mod_wide _
alu_wide (Register Sll) a b p q = mod_wide _
alu_wide (Register Slt) a b p q = digit_wide _
alu_wide (Register Sltu) a b p q = digit_wide _
alu_wide (Register Xor) a b p q = xor_lt 64 a b p q
alu_wide (Register Srl) a b p q = shr_wide a (b % 64) p
alu_wide (Register Or) a b p q = or_lt 64 a b p q
alu_wide (Register And) a b p q = and_wide a b p
alu_wide (Register Sub) a b p q = mod_wide _
alu_wide (Register Sra) a b p q = low_wide _
alu_wide (Register Mul) a b p q = mod_wide _
alu_wide (Register Mulh) a b p q = low_wide _
alu_wide (Register Mulhsu) a b p q = low_wide _
alu_wide (Register Mulhu) a b p q = high_wide a b p q
alu_wide (Register Div) a b p q = if_wide _ _ _ ones_wide (low_wide _)
alu_wide (Register Divu) a b p q = if_wide _ _ _ ones_wide (div_wide a b p)
alu_wide (Register Rem) a b p q = if_wide _ _ _ p (low_wide _)
alu_wide (Register Remu) a b p q = if_wide _ _ _ p (rem_wide a b p)
alu_wide (Register Addw) a b p q = word_wide _
alu_wide (Register Sllw) a b p q = word_wide _
alu_wide (Register Srlw) a b p q = word_wide _
alu_wide (Register Subw) a b p q = word_wide _
alu_wide (Register Sraw) a b p q = low_wide _
alu_wide (Register Mulw) a b p q = word_wide _
alu_wide (Register Divw) a b p q = if_wide (b % 2 ^ 32 == 0) _ _ ones_wide (word_wide (low (int_div (signed_word a) (signed_word b))))
alu_wide (Register Divuw) a b p q = if_wide (b % 2 ^ 32 == 0) _ _ ones_wide (word_wide (a % 2 ^ 32 / (b % 2 ^ 32)))
alu_wide (Register Remw) a b p q = if_wide _ _ _ (word_wide a) (low_wide _)
alu_wide (Register Remuw) a b p q = if_wide (b % 2 ^ 32 == 0) _ _ (word_wide a) (word_wide (a % 2 ^ 32 % (b % 2 ^ 32)))
alu_wide (Amo Amoswap Word) a b p q = word_wide _
alu_wide (Amo Amoadd Word) a b p q = word_wide _
alu_wide (Amo Amoxor Word) a b p q = word_wide _
alu_wide (Amo Amoand Word) a b p q = word_wide _
alu_wide (Amo Amoor Word) a b p q = word_wide _
alu_wide (Amo Amomin Word) a b p q = if_wide _ _ _ (word_wide b) (word_wide a)
alu_wide (Amo Amomax Word) a b p q = if_wide _ _ _ (word_wide b) (word_wide a)
alu_wide (Amo Amominu Word) a b p q = if_wide _ _ _ (word_wide b) (word_wide a)
alu_wide (Amo Amomaxu Word) a b p q = if_wide _ _ _ (word_wide b) (word_wide a)
alu_wide (Amo Amoswap DoubleWord) a b p q = q
alu_wide (Amo Amoadd DoubleWord) a b p q = mod_wide _
alu_wide (Amo Amoxor DoubleWord) a b p q = xor_lt 64 a b p q
alu_wide (Amo Amoand DoubleWord) a b p q = and_wide a b p
alu_wide (Amo Amoor DoubleWord) a b p q = or_lt 64 a b p q
alu_wide (Amo Amomin DoubleWord) a b p q = if_wide _ _ _ q p
alu_wide (Amo Amomax DoubleWord) a b p q = if_wide _ _ _ q p
alu_wide (Amo Amominu DoubleWord) a b p q = if_wide _ _ _ q p
alu_wide (Amo Amomaxu DoubleWord) a b p q = if_wide _ _ _ q p
