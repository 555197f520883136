use Rattle.std.proofs.Common.{length-set}
use Rattle.rand_xoshiro.specs.SplitMix64.{mix_u64}
use Rattle.sys_events.specs.Seed.{words_of}
use Rattle.sys_events.proofs.FirstWords.{first_words-write, first_words-all}
use Rattle.sys_events.proofs.seed_schedule.first_words.Goals as goal

pub loop-word-preserved : goal.loop-word-preserved
loop-word-preserved c = (
  first_words-write mix_u64 (words_of c.args.seed) c.loop-word.word-items 7 c.loop-word.word-index
      c.loop-word.random c.next_word.new.self c.next_word.result c.loop-word-test.true c.loop-word.invariant.1
      c.next_word.ensures c.loop-word.invariant.0,
  simp length-set c.loop-word.invariant.1,
)

pub returns : goal.returns
returns c = first_words-all mix_u64 (words_of c.args.seed) c.loop-word.word-items 7 c.loop-word.word-index c.loop-word.random
    c.loop-word-test.false c.loop-word.invariant.1 c.loop-word.invariant.0
