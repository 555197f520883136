use Rattle.std.proofs.Common.{IfSome, ap, refl, sym, subst}
use Rattle.jtag_run.specs.Bounds.{StaysWhereFair, slack_of}
use Rattle.jtag_run.proofs.BenchBounds.{stays_as_loaded}
use Rattle.jtag_run.proofs.Countings.{counted_chained, counted_looped, counted_straight}
use Rattle.jtag_run.proofs.generated.count.Goals as goal

pub returns-in-Straight-clause-counted : goal.returns-in-Straight-clause-counted
returns-in-Straight-clause-counted g c =
    counted_straight c.lines_are_counted.ensures.lines c.lines_are_counted.ensures.errors c.args.way c.args.bench.now _ c.args.script.now _ _ _ _
    c.in-Straight.is refl
    c.run_on_bench.ensures.sink_cause (rw c.requires.nothing at c.run_on_bench.ensures.ran)

pub returns-in-Chained-clause-counted : goal.returns-in-Chained-clause-counted
returns-in-Chained-clause-counted g c =
    counted_chained c.lines_are_counted.ensures.lines c.lines_are_counted.ensures.errors c.args.way c.in-Chained.plan c.args.bench.now _ c.args.script.now _ _
    _ _ c.in-Chained.is refl
    c.run_on_chain.ensures.sink_cause (rw c.requires.nothing at c.run_on_chain.ensures.ran)

pub returns-in-Ok-clause-counted : goal.returns-in-Ok-clause-counted
returns-in-Ok-clause-counted g c =
    counted_looped c.lines_are_counted.ensures.lines c.lines_are_counted.ensures.errors c.args.way c.args.bench.now _ c.args.script.now _
    (record {
      state = g.N.Net.state c.join.new.self;
      peer = g.N.Net.peer c.join.new.self;
      faults = g.N.Net.fault_count c.join.new.self;
      ends =
          g.N.Net.end_count c.join.new.self;
    }) _ _ _ c.in-Looped.is
    (record { called = c.join.ensures.called; opened = c.in-Ok.ensures.opened; later = c.join.ensures.later; ends = c.join.ensures.ends })
    c.run_on_loop.ensures.sink_cause (rw c.requires.nothing at c.run_on_loop.ensures.ran)

pub returns-in-Straight-clause-within : goal.returns-in-Straight-clause-within
returns-in-Straight-clause-within g c =
    subst (λ slack. IfSome c.args.bench.now (λ first. StaysWhereFair slack c.args.script.now first c.run_on_bench.new.bench)) (sym (ap slack_of c.in-Straight.is))
    c.run_on_bench.ensures.within

pub returns-in-Chained-clause-within : goal.returns-in-Chained-clause-within
returns-in-Chained-clause-within g c =
    subst (λ slack. IfSome c.args.bench.now (λ first. StaysWhereFair slack c.args.script.now first c.run_on_chain.new.bench)) (sym (ap slack_of c.in-Chained.is))
    c.run_on_chain.ensures.within

pub returns-in-Ok-clause-within : goal.returns-in-Ok-clause-within
returns-in-Ok-clause-within g c =
    subst (λ slack. IfSome c.args.bench.now (λ first. StaysWhereFair slack c.args.script.now first c.run_on_loop.new.bench)) (sym (ap slack_of c.in-Looped.is))
    c.run_on_loop.ensures.within

pub returns-in-Err-clause-within : goal.returns-in-Err-clause-within
returns-in-Err-clause-within g c = stays_as_loaded (slack_of c.args.way) c.args.script.now c.args.bench.now c.requires.fresh
