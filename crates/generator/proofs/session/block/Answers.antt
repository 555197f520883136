use Rattle.std.proofs.Common.{◌+◌, ◌*◌, ◌%◌, arith}
use Rattle.generator.proofs.Ranges.{block_within}
use Rattle.generator.proofs.session.block.Goals as goal

pub returns-clause-within : goal.returns-clause-within
returns-clause-within c = block_within (2147483648 + 4 * (c.args.place % 1000)) c.from.result (omega arith)
    (omega (arith, c.from.ensures, c.register.ensures.range))
