use Rattle.std.proofs.Common.{◌≡◌, ◌-◌, ◌++◌, length}
use Rattle.rand_core.specs.Steps.{first_words}
use Rattle.rand_xoshiro.specs.SplitMix64.{mix_u64}
use Rattle.generator.specs.SeedWords.{words_of}
use Rattle.generator.proofs.random.random_words.Given as goal

abbrev pub invariant-loop : goal.invariant-loop
invariant-loop l = record {
  drawn : l.words.items ++ first_words mix_u64 (1200 - l.counter) l.random ≡ words_of l.seed;
  count : length l.words.items ≡ l.counter;
}
