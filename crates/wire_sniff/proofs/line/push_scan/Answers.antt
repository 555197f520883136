use Rattle.std.proofs.Common.{arith}
use Rattle.std.proofs.lemmas.Grind.{common_steps}
use Rattle.wire_sniff.proofs.LineLemmas.{short_scan}
use Rattle.wire_sniff.proofs.line.push_scan.Goals as goal

pub returns-clause-bits : goal.returns-clause-bits
returns-clause-bits c = λ given taken is. rw (short_scan _ given taken is (omega arith)) (grind (arith, common_steps))
