use Rattle.ending_tests.proofs.FreshBenches.{is_fresh}
use Rattle.ending_tests.proofs.tests.run_fresh.Goals as goal

pub both_with-requires-clause-fresh : goal.both_with-requires-clause-fresh
both_with-requires-clause-fresh g c = is_fresh c.args.bench.now c.requires.loaded c.requires.fresh
