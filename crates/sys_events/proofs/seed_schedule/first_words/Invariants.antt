use Rattle.std.proofs.Common.{◌≡◌, ◌-◌, ◌++◌, take, length}
use Rattle.rand_core.specs.Steps.{first_words}
use Rattle.rand_xoshiro.specs.SplitMix64.{mix_u64}
use Rattle.sys_events.specs.Seed.{words_of}
use Rattle.sys_events.proofs.seed_schedule.first_words.Given as goal

abbrev pub invariant-loop-word : goal.invariant-loop-word
invariant-loop-word l = (take l.word-index l.word-items ++ first_words mix_u64 (7 - l.word-index) l.random ≡ words_of l.fn.seed)
    × (length l.word-items ≡ 7)
