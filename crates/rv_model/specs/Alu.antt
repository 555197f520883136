-- The result of each computing instruction and of each atomic memory operation, on whole numbers.
-- Unprivileged manual: "Integer Computational Instructions" of RV32I and RV64I, "M Extension for Integer Multiplication and Division",
-- "Atomic Memory Operations". Arguments and results are below 2^64; where the manual means a sign, the operation is on ℤ.
use Rattle.std.specs.Prelude.{ℕ, ◌+◌, ◌-◌, ◌*◌, ◌/◌, ◌%◌, ◌^◌, Bool, true, false, if◌then◌else◌, nat_lt, ◌==◌, ℤ, pos, negsuc, ◌*ℤ◌, int_lt, int_div, int_rem}
use Rattle.std.specs.Prelude.{bit_and, bit_or, bit_xor}
use Rattle.std.specs.Int.{cast_signed, w32, w64}
use Rattle.rv_model.specs.declared.alu_op.AluOp.{AluOp}
use Rattle.rv_model.specs.declared.alu_op.AluOp.TheVariants.{Immediate, Shift, WordShift, Register, Amo}
use Rattle.rv_model.specs.declared.alu_op.ImmediateOp.TheVariants.{Addi, Slti, Sltiu, Xori, Ori, Andi, Addiw}
use Rattle.rv_model.specs.declared.alu_op.ShiftOp.TheVariants.{Slli, Srli, Srai}
use Rattle.rv_model.specs.declared.alu_op.WordShiftOp.TheVariants.{Slliw, Srliw, Sraiw}
use Rattle.rv_model.specs.declared.alu_op.RegisterOp.TheVariants.{Add, Sll, Slt, Sltu, Xor, Srl, Or, And, Sub, Sra, Mul, Mulh, Mulhsu, Mulhu, Div, Divu, Rem}
use Rattle.rv_model.specs.declared.alu_op.RegisterOp.TheVariants.{Remu, Addw, Sllw, Srlw, Subw, Sraw, Mulw, Divw, Divuw, Remw, Remuw}
use Rattle.rv_model.specs.declared.alu_op.AmoOp.TheVariants.{Amoswap, Amoadd, Amoxor, Amoand, Amoor, Amomin, Amomax, Amominu, Amomaxu}
use Rattle.rv_model.specs.declared.width.Width.TheVariants.{Word, DoubleWord}
use Rattle.rv_model.specs.Fields.{sign_extended}

-- a register as a signed number
abbrev pub signed : ℕ → ℤ
signed n = cast_signed w64 n

-- the low half of a register as a signed number
abbrev pub signed_word : ℕ → ℤ
signed_word n = cast_signed w32 (n % 2 ^ 32)

-- the low half of a register, sign extended
abbrev pub word : ℕ → ℕ
word n = sign_extended 32 (n % 2 ^ 32)

-- a whole number modulo 2^64
abbrev pub low : ℤ → ℕ
low (pos n) = n % 2 ^ 64
low (negsuc n) = 2 ^ 64 - 1 - n % 2 ^ 64

-- a whole number over 2^k, rounded down
abbrev pub halved : ℤ → ℕ → ℤ
halved (pos n) k = pos (n / 2 ^ k)
halved (negsuc n) k = negsuc (n / 2 ^ k)

abbrev pub digit : Bool → ℕ
digit false = 0
digit true = 1

-- what a division by zero gives
abbrev pub all_ones : ℕ
all_ones = 2 ^ 64 - 1

abbrev pub added : ℕ → ℕ → ℕ
added a b = (a + b) % 2 ^ 64

abbrev pub subtracted : ℕ → ℕ → ℕ
subtracted a b = (a + (2 ^ 64 - b)) % 2 ^ 64

abbrev pub shifted_left : ℕ → ℕ → ℕ
shifted_left a k = a * 2 ^ k % 2 ^ 64

unfoldable pub alu_of : AluOp → ℕ → ℕ → ℕ
alu_of (Immediate Addi) a b = added a b
alu_of (Immediate Slti) a b = digit (int_lt (signed a) (signed b))
alu_of (Immediate Sltiu) a b = digit (nat_lt a b)
alu_of (Immediate Xori) a b = bit_xor a b
alu_of (Immediate Ori) a b = bit_or a b
alu_of (Immediate Andi) a b = bit_and a b
alu_of (Immediate Addiw) a b = word (a + b)
alu_of (Shift Slli) a b = shifted_left a (b % 64)
alu_of (Shift Srli) a b = a / 2 ^ (b % 64)
alu_of (Shift Srai) a b = low (halved (signed a) (b % 64))
alu_of (WordShift Slliw) a b = word (a * 2 ^ (b % 32))
alu_of (WordShift Srliw) a b = word (a % 2 ^ 32 / 2 ^ (b % 32))
alu_of (WordShift Sraiw) a b = low (halved (signed_word a) (b % 32))
alu_of (Register Add) a b = added a b
alu_of (Register Sll) a b = shifted_left a (b % 64)
alu_of (Register Slt) a b = digit (int_lt (signed a) (signed b))
alu_of (Register Sltu) a b = digit (nat_lt a b)
alu_of (Register Xor) a b = bit_xor a b
alu_of (Register Srl) a b = a / 2 ^ (b % 64)
alu_of (Register Or) a b = bit_or a b
alu_of (Register And) a b = bit_and a b
alu_of (Register Sub) a b = subtracted a b
alu_of (Register Sra) a b = low (halved (signed a) (b % 64))
alu_of (Register Mul) a b = a * b % 2 ^ 64
alu_of (Register Mulh) a b = low (halved (signed a *ℤ signed b) 64)
alu_of (Register Mulhsu) a b = low (halved (signed a *ℤ pos b) 64)
alu_of (Register Mulhu) a b = a * b / 2 ^ 64
alu_of (Register Div) a b = if b == 0 then all_ones else low (int_div (signed a) (signed b))
alu_of (Register Divu) a b = if b == 0 then all_ones else a / b
alu_of (Register Rem) a b = if b == 0 then a else low (int_rem (signed a) (signed b))
alu_of (Register Remu) a b = if b == 0 then a else a % b
alu_of (Register Addw) a b = word (a + b)
alu_of (Register Sllw) a b = word (a * 2 ^ (b % 32))
alu_of (Register Srlw) a b = word (a % 2 ^ 32 / 2 ^ (b % 32))
alu_of (Register Subw) a b = word (subtracted a b)
alu_of (Register Sraw) a b = low (halved (signed_word a) (b % 32))
alu_of (Register Mulw) a b = word (a * b)
alu_of (Register Divw) a b = if b % 2 ^ 32 == 0 then all_ones else word (low (int_div (signed_word a) (signed_word b)))
alu_of (Register Divuw) a b = if b % 2 ^ 32 == 0 then all_ones else word (a % 2 ^ 32 / (b % 2 ^ 32))
alu_of (Register Remw) a b = if b % 2 ^ 32 == 0 then word a else low (int_rem (signed_word a) (signed_word b))
alu_of (Register Remuw) a b = if b % 2 ^ 32 == 0 then word a else word (a % 2 ^ 32 % (b % 2 ^ 32))
alu_of (Amo Amoswap Word) a b = word b
alu_of (Amo Amoadd Word) a b = word (a + b)
alu_of (Amo Amoxor Word) a b = word (bit_xor a b)
alu_of (Amo Amoand Word) a b = word (bit_and a b)
alu_of (Amo Amoor Word) a b = word (bit_or a b)
alu_of (Amo Amomin Word) a b = if int_lt (signed_word b) (signed_word a) then word b else word a
alu_of (Amo Amomax Word) a b = if int_lt (signed_word a) (signed_word b) then word b else word a
alu_of (Amo Amominu Word) a b = if nat_lt (b % 2 ^ 32) (a % 2 ^ 32) then word b else word a
alu_of (Amo Amomaxu Word) a b = if nat_lt (a % 2 ^ 32) (b % 2 ^ 32) then word b else word a
alu_of (Amo Amoswap DoubleWord) a b = b
alu_of (Amo Amoadd DoubleWord) a b = added a b
alu_of (Amo Amoxor DoubleWord) a b = bit_xor a b
alu_of (Amo Amoand DoubleWord) a b = bit_and a b
alu_of (Amo Amoor DoubleWord) a b = bit_or a b
alu_of (Amo Amomin DoubleWord) a b = if int_lt (signed b) (signed a) then b else a
alu_of (Amo Amomax DoubleWord) a b = if int_lt (signed a) (signed b) then b else a
alu_of (Amo Amominu DoubleWord) a b = if nat_lt b a then b else a
alu_of (Amo Amomaxu DoubleWord) a b = if nat_lt a b then b else a
