use Rattle.std.proofs.Common.{refl}
use Rattle.wire_sniff.proofs.ScanLemmas.{shifted}
use Rattle.wire_sniff.proofs.scan.Scan.shift.Goals as goal

pub returns : goal.returns
returns c = record {
  bit = λ given taken is. shifted _ _ _ _ given taken is refl c.give-self.ensures c.see-self.ensures c.see-self-2.ensures c.shift_instruction-self.ensures;
  count = refl;
}
