use Rattle.std.proofs.Common.{arith}
use Rattle.jt_base.proofs.BitLists.{cut}
use Rattle.jt_base.proofs.bits.Bits.from_u64.Goals as goal

pub returns-clause-bits : goal.returns-clause-bits
returns-clause-bits c = cut c.args.len c.args.value (omega (arith, c.requires, c.if-len-eq-MOST.false))
