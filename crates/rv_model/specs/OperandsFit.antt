-- When operands fit the fields of their instruction's format, so that some word has exactly these operands.
-- The widths are those of the unprivileged manual's "Base Instruction Formats" and "Immediate Encoding Variants".
use Rattle.std.specs.Prelude.{◌≡◌, ◌%◌, ◌^◌, ◌<◌}
use Rattle.rv_model.specs.declared.insn.Insn.{Insn}
use Rattle.rv_model.specs.declared.insn.Insn.TheVariants.{Lui, Auipc, Jal, Jalr, Branch, Load, Store, Immediate, Shift, WordShift, Register, LoadReserved}
use Rattle.rv_model.specs.declared.insn.Insn.TheVariants.{StoreConditional, Amo, Fence, FenceI, Csr, CsrImmediate, Ecall, Ebreak, Mret, Wfi}
use Rattle.rv_model.specs.declared.operands.RType.{RType}
use Rattle.rv_model.specs.declared.operands.IType.{IType}
use Rattle.rv_model.specs.declared.operands.SType.{SType}
use Rattle.rv_model.specs.declared.operands.BType.{BType}
use Rattle.rv_model.specs.declared.operands.UType.{UType}
use Rattle.rv_model.specs.declared.operands.JType.{JType}
use Rattle.rv_model.specs.declared.operands.ShiftType.{ShiftType}
use Rattle.rv_model.specs.declared.operands.LoadReservedType.{LoadReservedType}
use Rattle.rv_model.specs.declared.operands.CsrType.{CsrType}
use Rattle.rv_model.specs.declared.operands.CsrImmType.{CsrImmType}
use Rattle.rv_model.specs.Fields.{sign_extended}

pub record RFits (p : RType) : Type 0 where
  pub rd : p.rd < 32
  pub rs1 : p.rs1 < 32
  pub rs2 : p.rs2 < 32

pub record IFits (p : IType) : Type 0 where
  pub rd : p.rd < 32
  pub rs1 : p.rs1 < 32
  pub imm : sign_extended 12 (p.imm % 2 ^ 12) ≡ p.imm

pub record SFits (p : SType) : Type 0 where
  pub rs1 : p.rs1 < 32
  pub rs2 : p.rs2 < 32
  pub imm : sign_extended 12 (p.imm % 2 ^ 12) ≡ p.imm

pub record BFits (p : BType) : Type 0 where
  pub rs1 : p.rs1 < 32
  pub rs2 : p.rs2 < 32
  pub imm : sign_extended 13 (p.imm % 2 ^ 13) ≡ p.imm
  pub even : p.imm % 2 ≡ 0

pub record UFits (p : UType) : Type 0 where
  pub rd : p.rd < 32
  pub imm : sign_extended 32 (p.imm % 2 ^ 32) ≡ p.imm
  pub whole : p.imm % 2 ^ 12 ≡ 0

pub record JFits (p : JType) : Type 0 where
  pub rd : p.rd < 32
  pub imm : sign_extended 21 (p.imm % 2 ^ 21) ≡ p.imm
  pub even : p.imm % 2 ≡ 0

pub record ShiftFits (p : ShiftType) : Type 0 where
  pub rd : p.rd < 32
  pub rs1 : p.rs1 < 32
  pub amount : p.amount < 64

pub record ShiftWordFits (p : ShiftType) : Type 0 where
  pub rd : p.rd < 32
  pub rs1 : p.rs1 < 32
  pub amount : p.amount < 32

pub record LoadReservedFits (p : LoadReservedType) : Type 0 where
  pub rd : p.rd < 32
  pub rs1 : p.rs1 < 32

pub record CsrFits (p : CsrType) : Type 0 where
  pub rd : p.rd < 32
  pub rs1 : p.rs1 < 32
  pub csr : p.csr < 4096

pub record CsrImmFits (p : CsrImmType) : Type 0 where
  pub rd : p.rd < 32
  pub imm : p.imm < 32
  pub csr : p.csr < 4096

abbrev pub OperandsFit : Insn → Type 0
OperandsFit (Lui p) = UFits p
OperandsFit (Auipc p) = UFits p
OperandsFit (Jal p) = JFits p
OperandsFit (Jalr p) = IFits p
OperandsFit (Branch condition p) = BFits p
OperandsFit (Load op p) = IFits p
OperandsFit (Store size p) = SFits p
OperandsFit (Immediate op p) = IFits p
OperandsFit (Shift op p) = ShiftFits p
OperandsFit (WordShift op p) = ShiftWordFits p
OperandsFit (Register op p) = RFits p
OperandsFit (LoadReserved width p) = LoadReservedFits p
OperandsFit (StoreConditional width p) = RFits p
OperandsFit (Amo op width p) = RFits p
OperandsFit Fence = Unit {0}
OperandsFit FenceI = Unit {0}
OperandsFit (Csr change p) = CsrFits p
OperandsFit (CsrImmediate change p) = CsrImmFits p
OperandsFit Ecall = Unit {0}
OperandsFit Ebreak = Unit {0}
OperandsFit Mret = Unit {0}
OperandsFit Wfi = Unit {0}
