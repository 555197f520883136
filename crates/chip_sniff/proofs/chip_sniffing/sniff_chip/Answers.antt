use Rattle.chip_sniff.proofs.Benches.{tells_operations}
use Rattle.chip_sniff.proofs.chip_sniffing.sniff_chip.Goals as goal

pub returns-clause-operations : goal.returns-clause-operations
returns-clause-operations g c = tells_operations c.args.bench.now c.args.stream.now c.args.answers.now c.requires.loaded c.requires.answers
