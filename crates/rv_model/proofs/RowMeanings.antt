-- A word that means an instruction by its own line of the relation means it by the table.
use Rattle.std.proofs.Common.{◌≡◌, ℕ, Some, refl, ap, ◌∙◌}
use Rattle.rv_model.specs.declared.insn.Insn.{Insn}
use Rattle.rv_model.specs.declared.insn.Insn.TheVariants.{
  Lui,
  Auipc,
  Jal,
  Jalr,
  Branch,
  Load,
  Store,
  Immediate,
  Shift,
  WordShift,
  Register,
  LoadReserved,
  StoreConditional,
  Amo,
  Fence,
  FenceI,
  Csr,
  CsrImmediate,
  Ecall,
  Ebreak,
  Mret,
  Wfi,
}
use Rattle.rv_model.specs.declared.condition.Condition.TheVariants.{Equal, Different, Below, NotBelow, BelowUnsigned, NotBelowUnsigned}
use Rattle.rv_model.specs.declared.load_op.LoadOp.TheVariants.{Lb, Lh, Lw, Ld, Lbu, Lhu, Lwu}
use Rattle.rv_model.specs.declared.size.Size.TheVariants.{B1, B2, B4, B8}
use Rattle.rv_model.specs.declared.alu_op.ImmediateOp.TheVariants.{Addi, Slti, Sltiu, Xori, Ori, Andi, Addiw}
use Rattle.rv_model.specs.declared.alu_op.ShiftOp.TheVariants.{Slli, Srli, Srai}
use Rattle.rv_model.specs.declared.alu_op.WordShiftOp.TheVariants.{Slliw, Srliw, Sraiw}
use Rattle.rv_model.specs.declared.alu_op.RegisterOp.TheVariants.{
  Add,
  Sll,
  Slt,
  Sltu,
  Xor,
  Srl,
  Or,
  And,
  Sub,
  Sra,
  Mul,
  Mulh,
  Mulhsu,
  Mulhu,
  Div,
  Divu,
  Rem,
  Remu,
  Addw,
  Sllw,
  Srlw,
  Subw,
  Sraw,
  Mulw,
  Divw,
  Divuw,
  Remw,
  Remuw,
}
use Rattle.rv_model.specs.declared.alu_op.AmoOp.TheVariants.{Amoswap, Amoadd, Amoxor, Amoand, Amoor, Amomin, Amomax, Amominu, Amomaxu}
use Rattle.rv_model.specs.declared.width.Width.TheVariants.{Word, DoubleWord}
use Rattle.rv_model.specs.declared.csr_change.CsrChange.TheVariants.{Replace, Set, Clear}
use Rattle.rv_model.specs.Rows.{meaning}
use Rattle.rv_model.specs.Means.{Means}
use Rattle.rv_model.proofs.RowLemmas.{meaning_of_row}

-- the number is the row's place in the table
pub meaning_from_row : (w : ℕ) (insn : Insn) → Means w insn → meaning w ≡ Some insn
meaning_from_row w (Lui p) m = meaning_of_row w 0 _ refl m.code_is ∙ ap (λ q. Some (Lui q)) m.operands_are
meaning_from_row w (Auipc p) m = meaning_of_row w 1 _ refl m.code_is ∙ ap (λ q. Some (Auipc q)) m.operands_are
meaning_from_row w (Jal p) m = meaning_of_row w 2 _ refl m.code_is ∙ ap (λ q. Some (Jal q)) m.operands_are
meaning_from_row w (Jalr p) m = meaning_of_row w 3 _ refl m.code_is ∙ ap (λ q. Some (Jalr q)) m.operands_are
meaning_from_row w (Branch Equal p) m = meaning_of_row w 4 _ refl m.code_is ∙ ap (λ q. Some (Branch Equal q)) m.operands_are
meaning_from_row w (Branch Different p) m = meaning_of_row w 5 _ refl m.code_is ∙ ap (λ q. Some (Branch Different q)) m.operands_are
meaning_from_row w (Branch Below p) m = meaning_of_row w 6 _ refl m.code_is ∙ ap (λ q. Some (Branch Below q)) m.operands_are
meaning_from_row w (Branch NotBelow p) m = meaning_of_row w 7 _ refl m.code_is ∙ ap (λ q. Some (Branch NotBelow q)) m.operands_are
meaning_from_row w (Branch BelowUnsigned p) m = meaning_of_row w 8 _ refl m.code_is ∙ ap (λ q. Some (Branch BelowUnsigned q)) m.operands_are
meaning_from_row w (Branch NotBelowUnsigned p) m = meaning_of_row w 9 _ refl m.code_is ∙ ap (λ q. Some (Branch NotBelowUnsigned q)) m.operands_are
meaning_from_row w (Load Lb p) m = meaning_of_row w 10 _ refl m.code_is ∙ ap (λ q. Some (Load Lb q)) m.operands_are
meaning_from_row w (Load Lh p) m = meaning_of_row w 11 _ refl m.code_is ∙ ap (λ q. Some (Load Lh q)) m.operands_are
meaning_from_row w (Load Lw p) m = meaning_of_row w 12 _ refl m.code_is ∙ ap (λ q. Some (Load Lw q)) m.operands_are
meaning_from_row w (Load Ld p) m = meaning_of_row w 13 _ refl m.code_is ∙ ap (λ q. Some (Load Ld q)) m.operands_are
meaning_from_row w (Load Lbu p) m = meaning_of_row w 14 _ refl m.code_is ∙ ap (λ q. Some (Load Lbu q)) m.operands_are
meaning_from_row w (Load Lhu p) m = meaning_of_row w 15 _ refl m.code_is ∙ ap (λ q. Some (Load Lhu q)) m.operands_are
meaning_from_row w (Load Lwu p) m = meaning_of_row w 16 _ refl m.code_is ∙ ap (λ q. Some (Load Lwu q)) m.operands_are
meaning_from_row w (Store B1 p) m = meaning_of_row w 17 _ refl m.code_is ∙ ap (λ q. Some (Store B1 q)) m.operands_are
meaning_from_row w (Store B2 p) m = meaning_of_row w 18 _ refl m.code_is ∙ ap (λ q. Some (Store B2 q)) m.operands_are
meaning_from_row w (Store B4 p) m = meaning_of_row w 19 _ refl m.code_is ∙ ap (λ q. Some (Store B4 q)) m.operands_are
meaning_from_row w (Store B8 p) m = meaning_of_row w 20 _ refl m.code_is ∙ ap (λ q. Some (Store B8 q)) m.operands_are
meaning_from_row w (Immediate Addi p) m = meaning_of_row w 21 _ refl m.code_is ∙ ap (λ q. Some (Immediate Addi q)) m.operands_are
meaning_from_row w (Immediate Slti p) m = meaning_of_row w 22 _ refl m.code_is ∙ ap (λ q. Some (Immediate Slti q)) m.operands_are
meaning_from_row w (Immediate Sltiu p) m = meaning_of_row w 23 _ refl m.code_is ∙ ap (λ q. Some (Immediate Sltiu q)) m.operands_are
meaning_from_row w (Immediate Xori p) m = meaning_of_row w 24 _ refl m.code_is ∙ ap (λ q. Some (Immediate Xori q)) m.operands_are
meaning_from_row w (Immediate Ori p) m = meaning_of_row w 25 _ refl m.code_is ∙ ap (λ q. Some (Immediate Ori q)) m.operands_are
meaning_from_row w (Immediate Andi p) m = meaning_of_row w 26 _ refl m.code_is ∙ ap (λ q. Some (Immediate Andi q)) m.operands_are
meaning_from_row w (Shift Slli p) m = meaning_of_row w 27 _ refl m.code_is ∙ ap (λ q. Some (Shift Slli q)) m.operands_are
meaning_from_row w (Shift Srli p) m = meaning_of_row w 28 _ refl m.code_is ∙ ap (λ q. Some (Shift Srli q)) m.operands_are
meaning_from_row w (Shift Srai p) m = meaning_of_row w 29 _ refl m.code_is ∙ ap (λ q. Some (Shift Srai q)) m.operands_are
meaning_from_row w (Immediate Addiw p) m = meaning_of_row w 30 _ refl m.code_is ∙ ap (λ q. Some (Immediate Addiw q)) m.operands_are
meaning_from_row w (WordShift Slliw p) m = meaning_of_row w 31 _ refl m.code_is ∙ ap (λ q. Some (WordShift Slliw q)) m.operands_are
meaning_from_row w (WordShift Srliw p) m = meaning_of_row w 32 _ refl m.code_is ∙ ap (λ q. Some (WordShift Srliw q)) m.operands_are
meaning_from_row w (WordShift Sraiw p) m = meaning_of_row w 33 _ refl m.code_is ∙ ap (λ q. Some (WordShift Sraiw q)) m.operands_are
meaning_from_row w (Register Add p) m = meaning_of_row w 34 _ refl m.code_is ∙ ap (λ q. Some (Register Add q)) m.operands_are
meaning_from_row w (Register Sll p) m = meaning_of_row w 35 _ refl m.code_is ∙ ap (λ q. Some (Register Sll q)) m.operands_are
meaning_from_row w (Register Slt p) m = meaning_of_row w 36 _ refl m.code_is ∙ ap (λ q. Some (Register Slt q)) m.operands_are
meaning_from_row w (Register Sltu p) m = meaning_of_row w 37 _ refl m.code_is ∙ ap (λ q. Some (Register Sltu q)) m.operands_are
meaning_from_row w (Register Xor p) m = meaning_of_row w 38 _ refl m.code_is ∙ ap (λ q. Some (Register Xor q)) m.operands_are
meaning_from_row w (Register Srl p) m = meaning_of_row w 39 _ refl m.code_is ∙ ap (λ q. Some (Register Srl q)) m.operands_are
meaning_from_row w (Register Or p) m = meaning_of_row w 40 _ refl m.code_is ∙ ap (λ q. Some (Register Or q)) m.operands_are
meaning_from_row w (Register And p) m = meaning_of_row w 41 _ refl m.code_is ∙ ap (λ q. Some (Register And q)) m.operands_are
meaning_from_row w (Register Sub p) m = meaning_of_row w 42 _ refl m.code_is ∙ ap (λ q. Some (Register Sub q)) m.operands_are
meaning_from_row w (Register Sra p) m = meaning_of_row w 43 _ refl m.code_is ∙ ap (λ q. Some (Register Sra q)) m.operands_are
meaning_from_row w (Register Mul p) m = meaning_of_row w 44 _ refl m.code_is ∙ ap (λ q. Some (Register Mul q)) m.operands_are
meaning_from_row w (Register Mulh p) m = meaning_of_row w 45 _ refl m.code_is ∙ ap (λ q. Some (Register Mulh q)) m.operands_are
meaning_from_row w (Register Mulhsu p) m = meaning_of_row w 46 _ refl m.code_is ∙ ap (λ q. Some (Register Mulhsu q)) m.operands_are
meaning_from_row w (Register Mulhu p) m = meaning_of_row w 47 _ refl m.code_is ∙ ap (λ q. Some (Register Mulhu q)) m.operands_are
meaning_from_row w (Register Div p) m = meaning_of_row w 48 _ refl m.code_is ∙ ap (λ q. Some (Register Div q)) m.operands_are
meaning_from_row w (Register Divu p) m = meaning_of_row w 49 _ refl m.code_is ∙ ap (λ q. Some (Register Divu q)) m.operands_are
meaning_from_row w (Register Rem p) m = meaning_of_row w 50 _ refl m.code_is ∙ ap (λ q. Some (Register Rem q)) m.operands_are
meaning_from_row w (Register Remu p) m = meaning_of_row w 51 _ refl m.code_is ∙ ap (λ q. Some (Register Remu q)) m.operands_are
meaning_from_row w (Register Addw p) m = meaning_of_row w 52 _ refl m.code_is ∙ ap (λ q. Some (Register Addw q)) m.operands_are
meaning_from_row w (Register Sllw p) m = meaning_of_row w 53 _ refl m.code_is ∙ ap (λ q. Some (Register Sllw q)) m.operands_are
meaning_from_row w (Register Srlw p) m = meaning_of_row w 54 _ refl m.code_is ∙ ap (λ q. Some (Register Srlw q)) m.operands_are
meaning_from_row w (Register Subw p) m = meaning_of_row w 55 _ refl m.code_is ∙ ap (λ q. Some (Register Subw q)) m.operands_are
meaning_from_row w (Register Sraw p) m = meaning_of_row w 56 _ refl m.code_is ∙ ap (λ q. Some (Register Sraw q)) m.operands_are
meaning_from_row w (Register Mulw p) m = meaning_of_row w 57 _ refl m.code_is ∙ ap (λ q. Some (Register Mulw q)) m.operands_are
meaning_from_row w (Register Divw p) m = meaning_of_row w 58 _ refl m.code_is ∙ ap (λ q. Some (Register Divw q)) m.operands_are
meaning_from_row w (Register Divuw p) m = meaning_of_row w 59 _ refl m.code_is ∙ ap (λ q. Some (Register Divuw q)) m.operands_are
meaning_from_row w (Register Remw p) m = meaning_of_row w 60 _ refl m.code_is ∙ ap (λ q. Some (Register Remw q)) m.operands_are
meaning_from_row w (Register Remuw p) m = meaning_of_row w 61 _ refl m.code_is ∙ ap (λ q. Some (Register Remuw q)) m.operands_are
meaning_from_row w (LoadReserved Word p) m = meaning_of_row w 62 _ refl m.code_is ∙ ap (λ q. Some (LoadReserved Word q)) m.operands_are
meaning_from_row w (StoreConditional Word p) m = meaning_of_row w 63 _ refl m.code_is ∙ ap (λ q. Some (StoreConditional Word q)) m.operands_are
meaning_from_row w (Amo Amoswap Word p) m = meaning_of_row w 64 _ refl m.code_is ∙ ap (λ q. Some (Amo Amoswap Word q)) m.operands_are
meaning_from_row w (Amo Amoadd Word p) m = meaning_of_row w 65 _ refl m.code_is ∙ ap (λ q. Some (Amo Amoadd Word q)) m.operands_are
meaning_from_row w (Amo Amoxor Word p) m = meaning_of_row w 66 _ refl m.code_is ∙ ap (λ q. Some (Amo Amoxor Word q)) m.operands_are
meaning_from_row w (Amo Amoand Word p) m = meaning_of_row w 67 _ refl m.code_is ∙ ap (λ q. Some (Amo Amoand Word q)) m.operands_are
meaning_from_row w (Amo Amoor Word p) m = meaning_of_row w 68 _ refl m.code_is ∙ ap (λ q. Some (Amo Amoor Word q)) m.operands_are
meaning_from_row w (Amo Amomin Word p) m = meaning_of_row w 69 _ refl m.code_is ∙ ap (λ q. Some (Amo Amomin Word q)) m.operands_are
meaning_from_row w (Amo Amomax Word p) m = meaning_of_row w 70 _ refl m.code_is ∙ ap (λ q. Some (Amo Amomax Word q)) m.operands_are
meaning_from_row w (Amo Amominu Word p) m = meaning_of_row w 71 _ refl m.code_is ∙ ap (λ q. Some (Amo Amominu Word q)) m.operands_are
meaning_from_row w (Amo Amomaxu Word p) m = meaning_of_row w 72 _ refl m.code_is ∙ ap (λ q. Some (Amo Amomaxu Word q)) m.operands_are
meaning_from_row w (LoadReserved DoubleWord p) m = meaning_of_row w 73 _ refl m.code_is ∙ ap (λ q. Some (LoadReserved DoubleWord q)) m.operands_are
meaning_from_row w (StoreConditional DoubleWord p) m = meaning_of_row w 74 _ refl m.code_is ∙ ap (λ q. Some (StoreConditional DoubleWord q)) m.operands_are
meaning_from_row w (Amo Amoswap DoubleWord p) m = meaning_of_row w 75 _ refl m.code_is ∙ ap (λ q. Some (Amo Amoswap DoubleWord q)) m.operands_are
meaning_from_row w (Amo Amoadd DoubleWord p) m = meaning_of_row w 76 _ refl m.code_is ∙ ap (λ q. Some (Amo Amoadd DoubleWord q)) m.operands_are
meaning_from_row w (Amo Amoxor DoubleWord p) m = meaning_of_row w 77 _ refl m.code_is ∙ ap (λ q. Some (Amo Amoxor DoubleWord q)) m.operands_are
meaning_from_row w (Amo Amoand DoubleWord p) m = meaning_of_row w 78 _ refl m.code_is ∙ ap (λ q. Some (Amo Amoand DoubleWord q)) m.operands_are
meaning_from_row w (Amo Amoor DoubleWord p) m = meaning_of_row w 79 _ refl m.code_is ∙ ap (λ q. Some (Amo Amoor DoubleWord q)) m.operands_are
meaning_from_row w (Amo Amomin DoubleWord p) m = meaning_of_row w 80 _ refl m.code_is ∙ ap (λ q. Some (Amo Amomin DoubleWord q)) m.operands_are
meaning_from_row w (Amo Amomax DoubleWord p) m = meaning_of_row w 81 _ refl m.code_is ∙ ap (λ q. Some (Amo Amomax DoubleWord q)) m.operands_are
meaning_from_row w (Amo Amominu DoubleWord p) m = meaning_of_row w 82 _ refl m.code_is ∙ ap (λ q. Some (Amo Amominu DoubleWord q)) m.operands_are
meaning_from_row w (Amo Amomaxu DoubleWord p) m = meaning_of_row w 83 _ refl m.code_is ∙ ap (λ q. Some (Amo Amomaxu DoubleWord q)) m.operands_are
meaning_from_row w Fence m = meaning_of_row w 84 _ refl m
meaning_from_row w FenceI m = meaning_of_row w 85 _ refl m
meaning_from_row w (Csr Replace p) m = meaning_of_row w 86 _ refl m.code_is ∙ ap (λ q. Some (Csr Replace q)) m.operands_are
meaning_from_row w (Csr Set p) m = meaning_of_row w 87 _ refl m.code_is ∙ ap (λ q. Some (Csr Set q)) m.operands_are
meaning_from_row w (Csr Clear p) m = meaning_of_row w 88 _ refl m.code_is ∙ ap (λ q. Some (Csr Clear q)) m.operands_are
meaning_from_row w (CsrImmediate Replace p) m = meaning_of_row w 89 _ refl m.code_is ∙ ap (λ q. Some (CsrImmediate Replace q)) m.operands_are
meaning_from_row w (CsrImmediate Set p) m = meaning_of_row w 90 _ refl m.code_is ∙ ap (λ q. Some (CsrImmediate Set q)) m.operands_are
meaning_from_row w (CsrImmediate Clear p) m = meaning_of_row w 91 _ refl m.code_is ∙ ap (λ q. Some (CsrImmediate Clear q)) m.operands_are
meaning_from_row w Ecall m = meaning_of_row w 92 _ refl m
meaning_from_row w Ebreak m = meaning_of_row w 93 _ refl m
meaning_from_row w Mret m = meaning_of_row w 94 _ refl m
meaning_from_row w Wfi m = meaning_of_row w 95 _ refl m
