-- The operands that a word has in each instruction format.
-- Unprivileged manual, "Base Instruction Formats"; the places of rd, rs1 and rs2 are the same in every format that has them.
use Rattle.std.specs.Prelude.{ℕ}
use Rattle.rv_model.specs.declared.operands.RType.{RType}
use Rattle.rv_model.specs.declared.operands.IType.{IType}
use Rattle.rv_model.specs.declared.operands.SType.{SType}
use Rattle.rv_model.specs.declared.operands.BType.{BType}
use Rattle.rv_model.specs.declared.operands.UType.{UType}
use Rattle.rv_model.specs.declared.operands.JType.{JType}
use Rattle.rv_model.specs.declared.operands.ShiftType.{ShiftType}
use Rattle.rv_model.specs.declared.operands.LoadReservedType.{LoadReservedType}
use Rattle.rv_model.specs.declared.operands.CsrType.{CsrType}
use Rattle.rv_model.specs.declared.operands.CsrImmType.{CsrImmType}
use Rattle.rv_model.specs.Fields.{field, imm_i, imm_s, imm_b, imm_u, imm_j}

abbrev pub rd_of : ℕ → ℕ
rd_of w = field 7 5 w

abbrev pub rs1_of : ℕ → ℕ
rs1_of w = field 15 5 w

abbrev pub rs2_of : ℕ → ℕ
rs2_of w = field 20 5 w

abbrev pub r_type : ℕ → RType
r_type w = record { rd = rd_of w; rs1 = rs1_of w; rs2 = rs2_of w }

abbrev pub i_type : ℕ → IType
i_type w = record { rd = rd_of w; rs1 = rs1_of w; imm = imm_i w }

abbrev pub s_type : ℕ → SType
s_type w = record { rs1 = rs1_of w; rs2 = rs2_of w; imm = imm_s w }

abbrev pub b_type : ℕ → BType
b_type w = record { rs1 = rs1_of w; rs2 = rs2_of w; imm = imm_b w }

abbrev pub u_type : ℕ → UType
u_type w = record { rd = rd_of w; imm = imm_u w }

abbrev pub j_type : ℕ → JType
j_type w = record { rd = rd_of w; imm = imm_j w }

-- a shift of 64 bits: its amount has six bits
abbrev pub shift_type : ℕ → ShiftType
shift_type w = record { rd = rd_of w; rs1 = rs1_of w; amount = field 20 6 w }

-- a shift of 32 bits: its amount has five
abbrev pub shift_word_type : ℕ → ShiftType
shift_word_type w = record { rd = rd_of w; rs1 = rs1_of w; amount = field 20 5 w }

abbrev pub load_reserved_type : ℕ → LoadReservedType
load_reserved_type w = record { rd = rd_of w; rs1 = rs1_of w }

-- "CSR Instructions": the number stands where another instruction has its immediate
abbrev pub csr_type : ℕ → CsrType
csr_type w = record { rd = rd_of w; rs1 = rs1_of w; csr = field 20 12 w }

abbrev pub csr_imm_type : ℕ → CsrImmType
csr_imm_type w = record { rd = rd_of w; imm = field 15 5 w; csr = field 20 12 w }
