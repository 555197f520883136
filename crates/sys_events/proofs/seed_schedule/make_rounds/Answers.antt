use Rattle.std.proofs.Common.{arith}
use Rattle.sys_events.specs.Seed.{round_at}
use Rattle.sys_events.proofs.Made.{made-more}
use Rattle.sys_events.proofs.seed_schedule.make_rounds.Goals as goal

pub loop-number-preserved : goal.loop-number-preserved
loop-number-preserved c = record {
  made = made-more (λ r. r.items) (round_at c.args.busy c.args.pairs.now) _ _ _ _ c.loop-number.invariant.made
      c.make_round.ensures c.push.ensures.items;
  count = omega arith;
}
