use Rattle.std.proofs.Common.{subst, sym, arith}
use Rattle.debug_model.specs.Schedule.{RoundPlan, Fair}
use Rattle.sys_events.specs.Seed.{words_of}
use Rattle.sys_events.proofs.Fairness.{paired-fair}
use Rattle.sys_events.proofs.Short.{short_rounds}
use Rattle.sys_events.proofs.seed_schedule.SeedSchedule.new.Goals as goal

pub returns-clause-plan : goal.returns-clause-plan
returns-clause-plan c = cc

pub returns-clause-fair : goal.returns-clause-fair
returns-clause-fair c =
    subst (λ (p : RoundPlan). Fair 32 c.args.harts p) (sym (returns-clause-plan c))
    (paired-fair 32 c.args.busy c.args.harts (words_of c.args.seed) (omega arith) (omega arith))

pub returns-clause-few : goal.returns-clause-few
returns-clause-few c = rw c.make_rounds.ensures.rounds (short_rounds c.args.busy c.as_slice.result.now (omega (arith, c.as_slice.ensures.fits)))
