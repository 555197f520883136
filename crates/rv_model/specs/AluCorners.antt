-- Results of the operations at corner values, over all of which the program's own results are proved.
-- Unprivileged manual, "Semantics for division by zero and division overflow", and for the rest its descriptions, worked by hand.
use Rattle.std.specs.Prelude.{◌≡◌}
use Rattle.rv_model.specs.declared.alu_op.AluOp.TheVariants.{Immediate, Register, Amo}
use Rattle.rv_model.specs.declared.alu_op.ImmediateOp.TheVariants.{Slti, Sltiu, Addiw}
use Rattle.rv_model.specs.declared.alu_op.RegisterOp.TheVariants.{Add, Srl, Sub, Sra, Mulh, Mulhsu, Mulhu, Div, Divu, Rem, Sllw, Srlw, Subw, Sraw, Mulw, Divw}
use Rattle.rv_model.specs.declared.alu_op.RegisterOp.TheVariants.{Divuw, Remw, Remuw}
use Rattle.rv_model.specs.declared.alu_op.AmoOp.TheVariants.{Amomin, Amomax, Amominu, Amomaxu}
use Rattle.rv_model.specs.declared.width.Width.TheVariants.{Word, DoubleWord}
use Rattle.rv_model.specs.Alu.{alu_of}

pub record AluCorners : Type 0 where
  pub most : alu_of (Register Add) 0xffffffffffffffff 2 ≡ 1
  pub under : alu_of (Register Sub) 1 2 ≡ 0xffffffffffffffff
  -- the overflowing signed divisions give the dividend, and remainder 0
  pub overflow_div : alu_of (Register Div) 0x8000000000000000 0xffffffffffffffff ≡ 0x8000000000000000
  pub overflow_rem : alu_of (Register Rem) 0x8000000000000000 0xffffffffffffffff ≡ 0
  pub overflow_divw : alu_of (Register Divw) 0x80000000 0xffffffffffffffff ≡ 0xffffffff80000000
  pub overflow_remw : alu_of (Register Remw) 0xffffffff80000000 0xffffffff ≡ 0
  -- a division by zero gives all ones, and the dividend as remainder
  pub zero_div : alu_of (Register Div) 7 0 ≡ 0xffffffffffffffff
  pub zero_divu : alu_of (Register Divu) 7 0 ≡ 0xffffffffffffffff
  pub zero_rem : alu_of (Register Rem) 0xfffffffffffffff9 0 ≡ 0xfffffffffffffff9
  pub zero_divuw : alu_of (Register Divuw) 7 0x100000000 ≡ 0xffffffffffffffff
  pub zero_remuw : alu_of (Register Remuw) 0x180000007 0x100000000 ≡ 0xffffffff80000007
  pub zero_remw : alu_of (Register Remw) 0x80000007 0 ≡ 0xffffffff80000007
  -- rounded toward 0, the remainder with the dividend's sign: -7 / 2 is -3, remainder -1
  pub round_div : alu_of (Register Div) 0xfffffffffffffff9 2 ≡ 0xfffffffffffffffd
  pub round_rem : alu_of (Register Rem) 0xfffffffffffffff9 2 ≡ 0xffffffffffffffff
  pub round_divw : alu_of (Register Divw) 0xfffffff9 2 ≡ 0xfffffffffffffffd
  pub high_divuw : alu_of (Register Divuw) 0xfffffff9 1 ≡ 0xfffffffffffffff9
  -- high halves: -1 * -1, -1 * (2^64 - 1), (2^64 - 1)^2
  pub high_mulh : alu_of (Register Mulh) 0xffffffffffffffff 0xffffffffffffffff ≡ 0
  pub high_mulhsu : alu_of (Register Mulhsu) 0xffffffffffffffff 0xffffffffffffffff ≡ 0xffffffffffffffff
  pub high_mulhu : alu_of (Register Mulhu) 0xffffffffffffffff 0xffffffffffffffff ≡ 0xfffffffffffffffe
  pub lowest_mulh : alu_of (Register Mulh) 0x8000000000000000 0x8000000000000000 ≡ 0x4000000000000000
  pub word_mulw : alu_of (Register Mulw) 0x10000 0x8000 ≡ 0xffffffff80000000
  -- shifts: -8 >> 1, and amounts modulo 64 and 32
  pub sign_sra : alu_of (Register Sra) 0xfffffffffffffff8 65 ≡ 0xfffffffffffffffc
  pub zeros_srl : alu_of (Register Srl) 0xfffffffffffffff8 1 ≡ 0x7ffffffffffffffc
  pub word_sllw : alu_of (Register Sllw) 1 63 ≡ 0xffffffff80000000
  pub word_srlw : alu_of (Register Srlw) 0x80000000 32 ≡ 0xffffffff80000000
  pub word_sraw : alu_of (Register Sraw) 0x180000000 31 ≡ 0xffffffffffffffff
  pub word_addiw : alu_of (Immediate Addiw) 0x7fffffff 1 ≡ 0xffffffff80000000
  pub word_subw : alu_of (Register Subw) 0 1 ≡ 0xffffffffffffffff
  pub less_slti : alu_of (Immediate Slti) 0xffffffffffffffff 0 ≡ 1
  pub less_sltiu : alu_of (Immediate Sltiu) 0xffffffffffffffff 0 ≡ 0
  -- atomic memory operations on words compare the low halves
  pub min_signed : alu_of (Amo Amomin Word) 0xffffffff80000000 0x17fffffff ≡ 0xffffffff80000000
  pub min_unsigned : alu_of (Amo Amominu Word) 0xffffffff80000000 0x17fffffff ≡ 0x7fffffff
  pub max_signed : alu_of (Amo Amomax DoubleWord) 0xffffffffffffffff 0 ≡ 0
  pub max_unsigned : alu_of (Amo Amomaxu DoubleWord) 0xffffffffffffffff 0 ≡ 0xffffffffffffffff
