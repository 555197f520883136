-- The operations at corner values, computed.
use Rattle.std.proofs.Common.{refl}
use Rattle.rv_model.specs.Alu.{alu_of}
use Rattle.rv_model.specs.AluCorners.{AluCorners}

pub alu_corners : AluCorners
unfolding alu_of
alu_corners = record {
  most = refl;
  under = refl;
  overflow_div = refl;
  overflow_rem = refl;
  overflow_divw = refl;
  overflow_remw = refl;
  zero_div = refl;
  zero_divu = refl;
  zero_rem = refl;
  zero_divuw = refl;
  zero_remuw = refl;
  zero_remw = refl;
  round_div = refl;
  round_rem = refl;
  round_divw = refl;
  high_divuw = refl;
  high_mulh = refl;
  high_mulhsu = refl;
  high_mulhu = refl;
  lowest_mulh = refl;
  word_mulw = refl;
  sign_sra = refl;
  zeros_srl = refl;
  word_sllw = refl;
  word_srlw = refl;
  word_sraw = refl;
  word_addiw = refl;
  word_subw = refl;
  less_slti = refl;
  less_sltiu = refl;
  min_signed = refl;
  min_unsigned = refl;
  max_signed = refl;
  max_unsigned = refl;
}
