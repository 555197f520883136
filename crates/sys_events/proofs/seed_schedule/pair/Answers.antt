use Rattle.std.proofs.Common.{refl, arith}
use Rattle.sys_events.proofs.Pairs.{paired-made}
use Rattle.sys_events.proofs.seed_schedule.pair.Goals as goal

pub returns : goal.returns
returns c =
    paired-made c.args.harts c.turns.hart c.args.words c.args.words _ _ _ _ (omega arith) refl c.turns.invariant.0
    c.push-2.ensures.items c.push-3.ensures.items c.push-4.ensures.items
