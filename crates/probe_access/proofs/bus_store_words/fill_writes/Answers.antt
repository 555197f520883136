use Rattle.std.proofs.Common.{refl, arith}
use Rattle.probe_access.specs.Blocks.{value_at}
use Rattle.probe_access.proofs.BusStoreCalls.{fill_more, fill_none, none_are_puts, puts_one_more, words_none, words_one_more}
use Rattle.probe_access.proofs.bus_store_words.fill_writes.Goals as goal

pub elements-init : goal.elements-init
elements-init c = record {
  from = omega arith;
  within = omega (arith, c.requires.some);
  filled = fill_none c.args.values.now c.args.from;
  puts = none_are_puts c.args.values.now c.args.from;
  at_is = omega (arith, words_none c.args.values.now c.args.from);
  fits = omega arith;
  long = c.requires.room;
}

pub elements-preserved : goal.elements-preserved
elements-preserved c = record {
  from = omega (arith, c.elements.invariant.from);
  within = omega (arith, c.elements-test.true, c.requires.few);
  filled = fill_more c.args.values.now c.args.from c.elements.number c.upper_before-upper.result (value_at c.args.values.now c.elements.number) _ _
      c.elements.invariant.from c.upper_before-upper.ensures refl c.elements.invariant.filled c.put_writes-at.ensures.put;
  puts = puts_one_more c.args.values.now c.args.from c.elements.number c.upper_before-upper.result (value_at c.args.values.now c.elements.number)
      c.elements.invariant.from c.upper_before-upper.ensures refl c.elements.invariant.puts c.put_writes-at.ensures.puts;
  at_is = words_one_more c.args.values.now c.args.from c.elements.number c.upper_before-upper.result
      (value_at c.args.values.now c.elements.number) c.elements.at
      c.put_writes-at.result c.elements.invariant.from c.upper_before-upper.ensures refl c.elements.invariant.at_is c.put_writes-at.ensures.behind;
  fits = omega (arith, c.if-at-words_of-gt-OPERATIONS_MOST.false, c.words_of.ensures, c.put_writes-at.ensures.behind);
  long = omega (arith, c.put_writes-at.ensures.long, c.elements.invariant.long);
}
