use Rattle.std.proofs.Common.{arith, ap, length}
use Rattle.rand_xoshiro.specs.SplitMix64.{mix_u64}
use Rattle.generator.specs.SeedWords.{words_of}
use Rattle.generator.proofs.RandomWords.{one_more, all_drawn}
use Rattle.std.proofs.lemmas.List.{length_push}
use Rattle.generator.proofs.random.random_words.Goals as goal

pub loop-preserved : goal.loop-preserved
loop-preserved c = record {
  drawn = rw c.in_ok-push.ensures.items
      (one_more mix_u64 (words_of c.args.seed) c.loop.words.items 1200 c.loop.counter c.loop.random c.next_word.new.self c.next_word.result
      c.loop-test.true c.next_word.ensures c.loop.invariant.drawn);
  count = omega (arith, ap length c.in_ok-push.ensures.items, length_push c.loop.words.items c.next_word.result, c.loop.invariant.count);
}

pub returns-clause-words : goal.returns-clause-words
returns-clause-words c = all_drawn mix_u64 (words_of c.args.seed) c.loop.words.items 1200 c.loop.counter c.loop.random c.loop-test.false c.loop.invariant.drawn
