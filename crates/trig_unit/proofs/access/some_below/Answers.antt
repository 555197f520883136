use Rattle.std.proofs.Common.{arith}
use Rattle.trig_unit.proofs.Addresses.{below_in, below_wrapped}
use Rattle.trig_unit.proofs.access.some_below.Goals as goal

pub returns-then-last-first : goal.returns-then-last-first
returns-then-last-first c = below_wrapped c.args.tdata2 c.args.first c.args.count (omega arith) (omega arith)

pub returns-else-last-first : goal.returns-else-last-first
returns-else-last-first c = below_in c.args.tdata2 c.args.first c.args.count (omega arith) (omega arith)
