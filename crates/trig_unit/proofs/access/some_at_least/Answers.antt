use Rattle.std.proofs.Common.{arith, sym}
use Rattle.trig_unit.proofs.Addresses.{at_least_in, at_least_wrapped}
use Rattle.trig_unit.proofs.access.some_at_least.Goals as goal

pub returns-then-last-first : goal.returns-then-last-first
returns-then-last-first c = sym (at_least_wrapped c.args.tdata2 c.args.first c.args.count (omega arith) (omega arith) (omega arith))

pub returns-else-last-first : goal.returns-else-last-first
returns-else-last-first c = at_least_in c.args.tdata2 c.args.first c.args.count _ (omega arith) (omega arith) (omega arith)
