-- The instruction table: one row for each instruction, with the mask and the code that a word must match, and its operands.
-- Opcodes, funct fields and formats are those of the unprivileged manual's "RV32/64G Instruction Set Listings" and of the privileged manual's
-- "Machine-Mode Privileged Instructions"; a word that matches no row means nothing, and is an illegal instruction.
use Rattle.std.specs.Prelude.{ℕ, Bool, ◌==◌, List, [], ◌∷◌, ◌++◌, Option, find, option_map, bit_and}
use Rattle.rv_model.specs.declared.insn.Insn.{Insn}
use Rattle.rv_model.specs.declared.insn.Insn.TheVariants.{Lui, Auipc, Jal, Jalr, Branch, Load, Store, Immediate, Shift, WordShift, Register, LoadReserved}
use Rattle.rv_model.specs.declared.insn.Insn.TheVariants.{StoreConditional, Amo, Fence, FenceI, Csr, CsrImmediate, Ecall, Ebreak, Mret, Wfi}
use Rattle.rv_model.specs.declared.condition.Condition.TheVariants.{Equal, Different, Below, NotBelow, BelowUnsigned, NotBelowUnsigned}
use Rattle.rv_model.specs.declared.load_op.LoadOp.TheVariants.{Lb, Lh, Lw, Ld, Lbu, Lhu, Lwu}
use Rattle.rv_model.specs.declared.size.Size.TheVariants.{B1, B2, B4, B8}
use Rattle.rv_model.specs.declared.alu_op.ImmediateOp.TheVariants.{Addi, Slti, Sltiu, Xori, Ori, Andi, Addiw}
use Rattle.rv_model.specs.declared.alu_op.ShiftOp.TheVariants.{Slli, Srli, Srai}
use Rattle.rv_model.specs.declared.alu_op.WordShiftOp.TheVariants.{Slliw, Srliw, Sraiw}
use Rattle.rv_model.specs.declared.alu_op.RegisterOp.TheVariants.{Add, Sll, Slt, Sltu, Xor, Srl, Or, And, Sub, Sra, Mul, Mulh, Mulhsu, Mulhu, Div, Divu, Rem}
use Rattle.rv_model.specs.declared.alu_op.RegisterOp.TheVariants.{Remu, Addw, Sllw, Srlw, Subw, Sraw, Mulw, Divw, Divuw, Remw, Remuw}
use Rattle.rv_model.specs.declared.alu_op.AmoOp.TheVariants.{Amoswap, Amoadd, Amoxor, Amoand, Amoor, Amomin, Amomax, Amominu, Amomaxu}
use Rattle.rv_model.specs.declared.width.Width.TheVariants.{Word, DoubleWord}
use Rattle.rv_model.specs.declared.csr_change.CsrChange.TheVariants.{Replace, Set, Clear}
use Rattle.rv_model.specs.Operands.{r_type, i_type, s_type, b_type, u_type, j_type, shift_type, shift_word_type, load_reserved_type, csr_type, csr_imm_type}

pub record Row : Type 0 where
  pub mask : ℕ
  pub code : ℕ
  pub operands : ℕ → Insn

abbrev pub row : ℕ → ℕ → (ℕ → Insn) → Row
row mask code operands = record { mask = mask; code = code; operands = operands }

-- opcode 0x37
abbrev pub lui_rows : List Row
lui_rows =
    row 0x0000007f 0x00000037 (λ w. Lui (u_type w)) ∷
    []

-- opcode 0x17
abbrev pub auipc_rows : List Row
auipc_rows =
    row 0x0000007f 0x00000017 (λ w. Auipc (u_type w)) ∷
    []

-- opcode 0x6f
abbrev pub jal_rows : List Row
jal_rows =
    row 0x0000007f 0x0000006f (λ w. Jal (j_type w)) ∷
    []

-- opcode 0x67
abbrev pub jalr_rows : List Row
jalr_rows =
    row 0x0000707f 0x00000067 (λ w. Jalr (i_type w)) ∷
    []

-- opcode 0x63, by funct3
abbrev pub branch_rows : List Row
branch_rows =
    row 0x0000707f 0x00000063 (λ w. Branch Equal (b_type w)) ∷
    row 0x0000707f 0x00001063 (λ w. Branch Different (b_type w)) ∷
    row 0x0000707f 0x00004063 (λ w. Branch Below (b_type w)) ∷
    row 0x0000707f 0x00005063 (λ w. Branch NotBelow (b_type w)) ∷
    row 0x0000707f 0x00006063 (λ w. Branch BelowUnsigned (b_type w)) ∷
    row 0x0000707f 0x00007063 (λ w. Branch NotBelowUnsigned (b_type w)) ∷
    []

-- opcode 0x03, by funct3
abbrev pub load_rows : List Row
load_rows =
    row 0x0000707f 0x00000003 (λ w. Load Lb (i_type w)) ∷
    row 0x0000707f 0x00001003 (λ w. Load Lh (i_type w)) ∷
    row 0x0000707f 0x00002003 (λ w. Load Lw (i_type w)) ∷
    row 0x0000707f 0x00003003 (λ w. Load Ld (i_type w)) ∷
    row 0x0000707f 0x00004003 (λ w. Load Lbu (i_type w)) ∷
    row 0x0000707f 0x00005003 (λ w. Load Lhu (i_type w)) ∷
    row 0x0000707f 0x00006003 (λ w. Load Lwu (i_type w)) ∷
    []

-- opcode 0x23, by funct3
abbrev pub store_rows : List Row
store_rows =
    row 0x0000707f 0x00000023 (λ w. Store B1 (s_type w)) ∷
    row 0x0000707f 0x00001023 (λ w. Store B2 (s_type w)) ∷
    row 0x0000707f 0x00002023 (λ w. Store B4 (s_type w)) ∷
    row 0x0000707f 0x00003023 (λ w. Store B8 (s_type w)) ∷
    []

-- opcode 0x13, by funct3, and for shifts by the upper six bits
abbrev pub immediate_rows : List Row
immediate_rows =
    row 0x0000707f 0x00000013 (λ w. Immediate Addi (i_type w)) ∷
    row 0x0000707f 0x00002013 (λ w. Immediate Slti (i_type w)) ∷
    row 0x0000707f 0x00003013 (λ w. Immediate Sltiu (i_type w)) ∷
    row 0x0000707f 0x00004013 (λ w. Immediate Xori (i_type w)) ∷
    row 0x0000707f 0x00006013 (λ w. Immediate Ori (i_type w)) ∷
    row 0x0000707f 0x00007013 (λ w. Immediate Andi (i_type w)) ∷
    row 0xfc00707f 0x00001013 (λ w. Shift Slli (shift_type w)) ∷
    row 0xfc00707f 0x00005013 (λ w. Shift Srli (shift_type w)) ∷
    row 0xfc00707f 0x40005013 (λ w. Shift Srai (shift_type w)) ∷
    []

-- opcode 0x1b
abbrev pub immediate_word_rows : List Row
immediate_word_rows =
    row 0x0000707f 0x0000001b (λ w. Immediate Addiw (i_type w)) ∷
    row 0xfe00707f 0x0000101b (λ w. WordShift Slliw (shift_word_type w)) ∷
    row 0xfe00707f 0x0000501b (λ w. WordShift Srliw (shift_word_type w)) ∷
    row 0xfe00707f 0x4000501b (λ w. WordShift Sraiw (shift_word_type w)) ∷
    []

-- opcode 0x33, by funct3 and funct7
abbrev pub register_rows : List Row
register_rows =
    row 0xfe00707f 0x00000033 (λ w. Register Add (r_type w)) ∷
    row 0xfe00707f 0x00001033 (λ w. Register Sll (r_type w)) ∷
    row 0xfe00707f 0x00002033 (λ w. Register Slt (r_type w)) ∷
    row 0xfe00707f 0x00003033 (λ w. Register Sltu (r_type w)) ∷
    row 0xfe00707f 0x00004033 (λ w. Register Xor (r_type w)) ∷
    row 0xfe00707f 0x00005033 (λ w. Register Srl (r_type w)) ∷
    row 0xfe00707f 0x00006033 (λ w. Register Or (r_type w)) ∷
    row 0xfe00707f 0x00007033 (λ w. Register And (r_type w)) ∷
    row 0xfe00707f 0x40000033 (λ w. Register Sub (r_type w)) ∷
    row 0xfe00707f 0x40005033 (λ w. Register Sra (r_type w)) ∷
    row 0xfe00707f 0x02000033 (λ w. Register Mul (r_type w)) ∷
    row 0xfe00707f 0x02001033 (λ w. Register Mulh (r_type w)) ∷
    row 0xfe00707f 0x02002033 (λ w. Register Mulhsu (r_type w)) ∷
    row 0xfe00707f 0x02003033 (λ w. Register Mulhu (r_type w)) ∷
    row 0xfe00707f 0x02004033 (λ w. Register Div (r_type w)) ∷
    row 0xfe00707f 0x02005033 (λ w. Register Divu (r_type w)) ∷
    row 0xfe00707f 0x02006033 (λ w. Register Rem (r_type w)) ∷
    row 0xfe00707f 0x02007033 (λ w. Register Remu (r_type w)) ∷
    []

-- opcode 0x3b, by funct3 and funct7
abbrev pub register_word_rows : List Row
register_word_rows =
    row 0xfe00707f 0x0000003b (λ w. Register Addw (r_type w)) ∷
    row 0xfe00707f 0x0000103b (λ w. Register Sllw (r_type w)) ∷
    row 0xfe00707f 0x0000503b (λ w. Register Srlw (r_type w)) ∷
    row 0xfe00707f 0x4000003b (λ w. Register Subw (r_type w)) ∷
    row 0xfe00707f 0x4000503b (λ w. Register Sraw (r_type w)) ∷
    row 0xfe00707f 0x0200003b (λ w. Register Mulw (r_type w)) ∷
    row 0xfe00707f 0x0200403b (λ w. Register Divw (r_type w)) ∷
    row 0xfe00707f 0x0200503b (λ w. Register Divuw (r_type w)) ∷
    row 0xfe00707f 0x0200603b (λ w. Register Remw (r_type w)) ∷
    row 0xfe00707f 0x0200703b (λ w. Register Remuw (r_type w)) ∷
    []

-- opcode 0x2f, by funct3 and the upper five bits; the bits aq and rl may have any value
abbrev pub atomic_rows : List Row
atomic_rows =
    row 0xf9f0707f 0x1000202f (λ w. LoadReserved Word (load_reserved_type w)) ∷
    row 0xf800707f 0x1800202f (λ w. StoreConditional Word (r_type w)) ∷
    row 0xf800707f 0x0800202f (λ w. Amo Amoswap Word (r_type w)) ∷
    row 0xf800707f 0x0000202f (λ w. Amo Amoadd Word (r_type w)) ∷
    row 0xf800707f 0x2000202f (λ w. Amo Amoxor Word (r_type w)) ∷
    row 0xf800707f 0x6000202f (λ w. Amo Amoand Word (r_type w)) ∷
    row 0xf800707f 0x4000202f (λ w. Amo Amoor Word (r_type w)) ∷
    row 0xf800707f 0x8000202f (λ w. Amo Amomin Word (r_type w)) ∷
    row 0xf800707f 0xa000202f (λ w. Amo Amomax Word (r_type w)) ∷
    row 0xf800707f 0xc000202f (λ w. Amo Amominu Word (r_type w)) ∷
    row 0xf800707f 0xe000202f (λ w. Amo Amomaxu Word (r_type w)) ∷
    row 0xf9f0707f 0x1000302f (λ w. LoadReserved DoubleWord (load_reserved_type w)) ∷
    row 0xf800707f 0x1800302f (λ w. StoreConditional DoubleWord (r_type w)) ∷
    row 0xf800707f 0x0800302f (λ w. Amo Amoswap DoubleWord (r_type w)) ∷
    row 0xf800707f 0x0000302f (λ w. Amo Amoadd DoubleWord (r_type w)) ∷
    row 0xf800707f 0x2000302f (λ w. Amo Amoxor DoubleWord (r_type w)) ∷
    row 0xf800707f 0x6000302f (λ w. Amo Amoand DoubleWord (r_type w)) ∷
    row 0xf800707f 0x4000302f (λ w. Amo Amoor DoubleWord (r_type w)) ∷
    row 0xf800707f 0x8000302f (λ w. Amo Amomin DoubleWord (r_type w)) ∷
    row 0xf800707f 0xa000302f (λ w. Amo Amomax DoubleWord (r_type w)) ∷
    row 0xf800707f 0xc000302f (λ w. Amo Amominu DoubleWord (r_type w)) ∷
    row 0xf800707f 0xe000302f (λ w. Amo Amomaxu DoubleWord (r_type w)) ∷
    []

-- opcode 0x0f: the other fields may have any value
abbrev pub fence_rows : List Row
fence_rows =
    row 0x0000707f 0x0000000f (λ w. Fence) ∷
    row 0x0000707f 0x0000100f (λ w. FenceI) ∷
    []

-- opcode 0x73
abbrev pub system_rows : List Row
system_rows =
    row 0x0000707f 0x00001073 (λ w. Csr Replace (csr_type w)) ∷
    row 0x0000707f 0x00002073 (λ w. Csr Set (csr_type w)) ∷
    row 0x0000707f 0x00003073 (λ w. Csr Clear (csr_type w)) ∷
    row 0x0000707f 0x00005073 (λ w. CsrImmediate Replace (csr_imm_type w)) ∷
    row 0x0000707f 0x00006073 (λ w. CsrImmediate Set (csr_imm_type w)) ∷
    row 0x0000707f 0x00007073 (λ w. CsrImmediate Clear (csr_imm_type w)) ∷
    row 0xffffffff 0x00000073 (λ w. Ecall) ∷
    row 0xffffffff 0x00100073 (λ w. Ebreak) ∷
    row 0xffffffff 0x30200073 (λ w. Mret) ∷
    row 0xffffffff 0x10500073 (λ w. Wfi) ∷
    []

-- the whole table
abbrev pub rows : List Row
rows =
    lui_rows ++ (auipc_rows ++ (jal_rows ++ (jalr_rows ++ (branch_rows ++ (load_rows ++ (store_rows
    ++ (immediate_rows ++ (immediate_word_rows ++ (register_rows ++ (register_word_rows
    ++ (atomic_rows ++ (fence_rows ++ (system_rows)))))))))))))

abbrev pub matches : ℕ → Row → Bool
matches w r = bit_and w r.mask == r.code

-- what a word means by a list of rows: the operands of the first row that it matches
abbrev pub meaning_in : List Row → ℕ → Option Insn
meaning_in rs w = option_map (λ r. r.operands w) (find (matches w) rs)

-- what a word means; no word matches two rows, so the order of the rows is of no account
unfoldable pub meaning : ℕ → Option Insn
meaning w = meaning_in rows w
