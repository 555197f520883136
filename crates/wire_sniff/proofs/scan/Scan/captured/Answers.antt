use Rattle.std.proofs.Common.{refl}
use Rattle.jt_base.specs.BitList.{bits_of, number_of}
use Rattle.debug_model.specs.Port.{captured_code}
use Rattle.wire_sniff.proofs.scan.Scan.captured.Goals as goal

pub returns : goal.returns
unfolding captured_code bits_of number_of
returns c = record {
  count = refl;
  each = refl;
  given_is = c.new.ensures;
  taken_is = cc;
  status_is = cc;
  instruction_is = refl;
}
