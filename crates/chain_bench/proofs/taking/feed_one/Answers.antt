use Rattle.chain_bench.proofs.Asking.{ended_by_one, kept_by_one, one_fed_is}
use Rattle.chain_bench.proofs.taking.feed_one.Goals as goal

pub returns-clause-chip : goal.returns-clause-chip
returns-clause-chip g c = one_fed_is c.args.bench.now c.feed-fed.new.self c.args.byte c.feed-fed.ensures.chip

pub returns-clause-ended : goal.returns-clause-ended
returns-clause-ended g c =
    ended_by_one c.args.bench.now c.feed-fed.new.self c.args.byte c.feed-fed.result c.end_told.result c.feed-fed.ensures.chip c.feed-fed.ensures.fed
    c.end_told.ensures

pub returns-clause-timing : goal.returns-clause-timing
returns-clause-timing g c = kept_by_one c.args.bench.now c.feed-fed.new.self c.args.byte c.feed-fed.ensures.chip
