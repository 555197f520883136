use Rattle.std.proofs.Common.{arith}
use Rattle.trig_unit.proofs.Addresses.{equal_in}
use Rattle.trig_unit.proofs.access.some_equal.Goals as goal

pub returns : goal.returns
returns c = rw c.from.ensures (equal_in c.args.tdata2 c.args.first c.args.count (omega arith) (omega arith))
