use Rattle.std.proofs.Common.{rules}
use Rattle.hart_debug.specs.Changes.{start_cause}
use Rattle.chip_core.proofs.Loads.{one_hart_on}
use Rattle.chip_core.proofs.bench.load.make_harts.Goals as goal

pub loop-id-preserved : goal.loop-id-preserved
loop-id-preserved c = let more = one_hart_on c.args.version c.loop-id.id (start_cause c.args.start) in search rules
