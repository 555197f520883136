-- The instruction table read the other way: when a word means a given instruction.
-- It says of each instruction the mask, the code and the operands that its row in Rows has; RowMeanings joins the two.
use Rattle.std.specs.Prelude.{◌≡◌, ℕ, bit_and}
use Rattle.rv_model.specs.declared.insn.Insn.{Insn}
use Rattle.rv_model.specs.declared.insn.Insn.TheVariants.{Lui, Auipc, Jal, Jalr, Branch, Load, Store, Immediate, Shift, WordShift, Register, LoadReserved}
use Rattle.rv_model.specs.declared.insn.Insn.TheVariants.{StoreConditional, Amo, Fence, FenceI, Csr, CsrImmediate, Ecall, Ebreak, Mret, Wfi}
use Rattle.rv_model.specs.declared.condition.Condition.{Condition}
use Rattle.rv_model.specs.declared.condition.Condition.TheVariants.{Equal, Different, Below, NotBelow, BelowUnsigned, NotBelowUnsigned}
use Rattle.rv_model.specs.declared.load_op.LoadOp.{LoadOp}
use Rattle.rv_model.specs.declared.load_op.LoadOp.TheVariants.{Lb, Lh, Lw, Ld, Lbu, Lhu, Lwu}
use Rattle.rv_model.specs.declared.size.Size.{Size}
use Rattle.rv_model.specs.declared.size.Size.TheVariants.{B1, B2, B4, B8}
use Rattle.rv_model.specs.declared.alu_op.ImmediateOp.{ImmediateOp}
use Rattle.rv_model.specs.declared.alu_op.ImmediateOp.TheVariants.{Addi, Slti, Sltiu, Xori, Ori, Andi, Addiw}
use Rattle.rv_model.specs.declared.alu_op.ShiftOp.{ShiftOp}
use Rattle.rv_model.specs.declared.alu_op.ShiftOp.TheVariants.{Slli, Srli, Srai}
use Rattle.rv_model.specs.declared.alu_op.WordShiftOp.{WordShiftOp}
use Rattle.rv_model.specs.declared.alu_op.WordShiftOp.TheVariants.{Slliw, Srliw, Sraiw}
use Rattle.rv_model.specs.declared.alu_op.RegisterOp.{RegisterOp}
use Rattle.rv_model.specs.declared.alu_op.RegisterOp.TheVariants.{Add, Sll, Slt, Sltu, Xor, Srl, Or, And, Sub, Sra, Mul, Mulh, Mulhsu, Mulhu, Div, Divu, Rem}
use Rattle.rv_model.specs.declared.alu_op.RegisterOp.TheVariants.{Remu, Addw, Sllw, Srlw, Subw, Sraw, Mulw, Divw, Divuw, Remw, Remuw}
use Rattle.rv_model.specs.declared.alu_op.AmoOp.{AmoOp}
use Rattle.rv_model.specs.declared.alu_op.AmoOp.TheVariants.{Amoswap, Amoadd, Amoxor, Amoand, Amoor, Amomin, Amomax, Amominu, Amomaxu}
use Rattle.rv_model.specs.declared.width.Width.{Width}
use Rattle.rv_model.specs.declared.width.Width.TheVariants.{Word, DoubleWord}
use Rattle.rv_model.specs.declared.csr_change.CsrChange.{CsrChange}
use Rattle.rv_model.specs.declared.csr_change.CsrChange.TheVariants.{Replace, Set, Clear}
use Rattle.rv_model.specs.Operands.{r_type, i_type, s_type, b_type, u_type, j_type, shift_type, shift_word_type, load_reserved_type, csr_type, csr_imm_type}

-- ---- the code of a row, by its operation: its opcode and funct fields in place, with every other bit 0

abbrev pub branch_code : Condition → ℕ
branch_code Equal = 0x00000063
branch_code Different = 0x00001063
branch_code Below = 0x00004063
branch_code NotBelow = 0x00005063
branch_code BelowUnsigned = 0x00006063
branch_code NotBelowUnsigned = 0x00007063

abbrev pub load_code : LoadOp → ℕ
load_code Lb = 0x00000003
load_code Lh = 0x00001003
load_code Lw = 0x00002003
load_code Ld = 0x00003003
load_code Lbu = 0x00004003
load_code Lhu = 0x00005003
load_code Lwu = 0x00006003

abbrev pub store_code : Size → ℕ
store_code B1 = 0x00000023
store_code B2 = 0x00001023
store_code B4 = 0x00002023
store_code B8 = 0x00003023

abbrev pub immediate_code : ImmediateOp → ℕ
immediate_code Addi = 0x00000013
immediate_code Slti = 0x00002013
immediate_code Sltiu = 0x00003013
immediate_code Xori = 0x00004013
immediate_code Ori = 0x00006013
immediate_code Andi = 0x00007013
immediate_code Addiw = 0x0000001b

abbrev pub shift_code : ShiftOp → ℕ
shift_code Slli = 0x00001013
shift_code Srli = 0x00005013
shift_code Srai = 0x40005013

abbrev pub word_shift_code : WordShiftOp → ℕ
word_shift_code Slliw = 0x0000101b
word_shift_code Srliw = 0x0000501b
word_shift_code Sraiw = 0x4000501b

abbrev pub register_code : RegisterOp → ℕ
register_code Add = 0x00000033
register_code Sll = 0x00001033
register_code Slt = 0x00002033
register_code Sltu = 0x00003033
register_code Xor = 0x00004033
register_code Srl = 0x00005033
register_code Or = 0x00006033
register_code And = 0x00007033
register_code Sub = 0x40000033
register_code Sra = 0x40005033
register_code Mul = 0x02000033
register_code Mulh = 0x02001033
register_code Mulhsu = 0x02002033
register_code Mulhu = 0x02003033
register_code Div = 0x02004033
register_code Divu = 0x02005033
register_code Rem = 0x02006033
register_code Remu = 0x02007033
register_code Addw = 0x0000003b
register_code Sllw = 0x0000103b
register_code Srlw = 0x0000503b
register_code Subw = 0x4000003b
register_code Sraw = 0x4000503b
register_code Mulw = 0x0200003b
register_code Divw = 0x0200403b
register_code Divuw = 0x0200503b
register_code Remw = 0x0200603b
register_code Remuw = 0x0200703b

abbrev pub load_reserved_code : Width → ℕ
load_reserved_code Word = 0x1000202f
load_reserved_code DoubleWord = 0x1000302f

abbrev pub store_conditional_code : Width → ℕ
store_conditional_code Word = 0x1800202f
store_conditional_code DoubleWord = 0x1800302f

abbrev pub amo_code : AmoOp → Width → ℕ
amo_code Amoswap Word = 0x0800202f
amo_code Amoadd Word = 0x0000202f
amo_code Amoxor Word = 0x2000202f
amo_code Amoand Word = 0x6000202f
amo_code Amoor Word = 0x4000202f
amo_code Amomin Word = 0x8000202f
amo_code Amomax Word = 0xa000202f
amo_code Amominu Word = 0xc000202f
amo_code Amomaxu Word = 0xe000202f
amo_code Amoswap DoubleWord = 0x0800302f
amo_code Amoadd DoubleWord = 0x0000302f
amo_code Amoxor DoubleWord = 0x2000302f
amo_code Amoand DoubleWord = 0x6000302f
amo_code Amoor DoubleWord = 0x4000302f
amo_code Amomin DoubleWord = 0x8000302f
amo_code Amomax DoubleWord = 0xa000302f
amo_code Amominu DoubleWord = 0xc000302f
amo_code Amomaxu DoubleWord = 0xe000302f

abbrev pub csr_code : CsrChange → ℕ
csr_code Replace = 0x00001073
csr_code Set = 0x00002073
csr_code Clear = 0x00003073

abbrev pub csr_immediate_code : CsrChange → ℕ
csr_immediate_code Replace = 0x00005073
csr_immediate_code Set = 0x00006073
csr_immediate_code Clear = 0x00007073

-- the word has the row's code under its mask, and the row's operands are such
pub record Matches (w mask code : ℕ) (Operands : Type 0) : Type 0 where
  pub code_is : bit_and w mask ≡ code
  pub operands_are : Operands

abbrev pub Means : ℕ → Insn → Type 0
Means w (Lui p) = Matches w 0x0000007f 0x00000037 (u_type w ≡ p)
Means w (Auipc p) = Matches w 0x0000007f 0x00000017 (u_type w ≡ p)
Means w (Jal p) = Matches w 0x0000007f 0x0000006f (j_type w ≡ p)
Means w (Jalr p) = Matches w 0x0000707f 0x00000067 (i_type w ≡ p)
Means w (Branch condition p) = Matches w 0x0000707f (branch_code condition) (b_type w ≡ p)
Means w (Load op p) = Matches w 0x0000707f (load_code op) (i_type w ≡ p)
Means w (Store size p) = Matches w 0x0000707f (store_code size) (s_type w ≡ p)
Means w (Immediate op p) = Matches w 0x0000707f (immediate_code op) (i_type w ≡ p)
Means w (Shift op p) = Matches w 0xfc00707f (shift_code op) (shift_type w ≡ p)
Means w (WordShift op p) = Matches w 0xfe00707f (word_shift_code op) (shift_word_type w ≡ p)
Means w (Register op p) = Matches w 0xfe00707f (register_code op) (r_type w ≡ p)
Means w (LoadReserved width p) = Matches w 0xf9f0707f (load_reserved_code width) (load_reserved_type w ≡ p)
Means w (StoreConditional width p) = Matches w 0xf800707f (store_conditional_code width) (r_type w ≡ p)
Means w (Amo op width p) = Matches w 0xf800707f (amo_code op width) (r_type w ≡ p)
Means w Fence = bit_and w 0x0000707f ≡ 0x0000000f
Means w FenceI = bit_and w 0x0000707f ≡ 0x0000100f
Means w (Csr change p) = Matches w 0x0000707f (csr_code change) (csr_type w ≡ p)
Means w (CsrImmediate change p) = Matches w 0x0000707f (csr_immediate_code change) (csr_imm_type w ≡ p)
Means w Ecall = bit_and w 0xffffffff ≡ 0x00000073
Means w Ebreak = bit_and w 0xffffffff ≡ 0x00100073
Means w Mret = bit_and w 0xffffffff ≡ 0x30200073
Means w Wfi = bit_and w 0xffffffff ≡ 0x10500073
