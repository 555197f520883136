use Rattle.std.proofs.Common.{refl}
use Rattle.jtag_run.specs.Ran.RanGen.{refused}
use Rattle.jtag_run.specs.Jobs.{gen_value}
use Rattle.jtag_run.proofs.Numbers.{gen_summed, gen_unjoined, gen_unsummed}
use Rattle.jtag_run.proofs.generated.run_gen.Goals as goal

pub returns-in-Err : goal.returns-in-Err
returns-in-Err g c = record { ended = refused c.in-Err.refusal c.in-Err.ensures.cause c.refuse.ensures.refused refl c.in-Err.ensures.kept }

pub returns-in-Err-count : goal.returns-in-Err-count
returns-in-Err-count g c = record {
  ended = gen_unjoined (gen_value c.args.job) _ _ _ _ _ c.make.new.bench _ _ c.in-Ok.script c.in-Err-count.fault c.requires.options c.in-Ok.ensures.made
      c.count.ensures.within
      c.in-Err-count.ensures.unjoined c.in-Err-count.ensures.kept
      (rw c.refusal_of.ensures at c.refuse-in-Err-count.ensures.refused);
}

pub returns-in-Ok-put_summary : goal.returns-in-Ok-put_summary
returns-in-Ok-put_summary g c = record {
  ended = gen_summed (gen_value c.args.job) _ _ _
      (record { printed = g.K.Sink.contents c.put_summary.new.out; faults = g.K.Sink.fault_count c.put_summary.new.out }) _ _ c.make.new.bench _ _
      c.in-Ok.script c.count.new.counts c.in-Ok-count.ended c.requires.options
      c.in-Ok.ensures.made c.count.ensures.within c.in-Ok-count.ensures.counted (rw (c.commands.ensures.list, c.errors.ensures, c.lines.ensures) at c.in-Ok-put_summary.ensures.put)
      c.put_summary.ensures.cause.later
      (rw c.at_limit.ensures at c.tell.ensures.told);
}

pub returns : goal.returns
returns g c = record {
  ended = gen_unsummed (gen_value c.args.job) _ _ _ _ _ c.make.new.bench _ _ c.in-Ok.script c.count.new.counts c.in-Ok-count.ended c.requires.options
      c.in-Ok.ensures.made c.count.ensures.within c.in-Ok-count.ensures.counted (rw (c.commands.ensures.list, c.errors.ensures, c.lines.ensures) at c.in-Err-Failed.ensures.front)
      c.in-Err-Failed.ensures.cause.cause refl;
}
