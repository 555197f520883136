use Rattle.std.proofs.Common.{refl}
use Rattle.jtag_run.specs.Jobs.{both_value}
use Rattle.jtag_run.proofs.Runs.{both_chained, both_looped, both_refused, both_straight}
use Rattle.jtag_run.proofs.both.run_both.Goals as goal

pub returns-in-Straight : goal.returns-in-Straight
returns-in-Straight g c = record {
  ended = both_straight (both_value c.args.job) _ _ _ c.prepare.new.bench _ _ _ c.requires.options c.in-Ok.ensures.prepared c.in-Ok.ensures.asked
      c.in-Straight.is refl c.both_with.ensures.within c.both_with.ensures.ended;
}

pub returns-in-Looped : goal.returns-in-Looped
returns-in-Looped g c = record {
  ended = both_looped (both_value c.args.job) _ _ _ c.prepare.new.bench _ _ _ c.requires.options c.in-Ok.ensures.prepared c.in-Ok.ensures.asked
      c.in-Looped.is c.loop_with.ensures.within c.loop_with.ensures.ended;
}

pub returns : goal.returns
returns g c = record {
  ended = both_chained (both_value c.args.job) c.in-Chained.plan _ _ _ c.prepare.new.bench _ _ _ c.requires.options c.in-Ok.ensures.prepared c.in-Ok.ensures.asked
      c.in-Chained.is refl c.chain_with.ensures.within c.chain_with.ensures.ended;
}

pub returns-in-Err : goal.returns-in-Err
returns-in-Err g c = record {
  ended = both_refused (both_value c.args.job) _ _ _ _ _ c.in-Err.refusal c.in-Err.ensures.cause c.refuse.ensures.refused refl
      c.in-Err.ensures.kept;
}
