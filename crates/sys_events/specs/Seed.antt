-- The schedule of a seed: in which rounds each event stands, by one word of the seed for each event.
-- The Debug Specification leaves the timing open; the words are SplitMix64's (Steele, Lea and Flood, 2014).
use Rattle.std.specs.Prelude.{ℕ, ◌+◌, ◌%◌, ◌==◌, List, [], ◌∷◌, ◌++◌, map, filter, slice_index}
use Rattle.std.specs.List.{range_with_len}
use Rattle.std.specs.Int.{w64, from_le_bytes, to_le_bytes}
use Rattle.rand_core.specs.Steps.{first_words}
use Rattle.rand_xoshiro.specs.SplitMix64.{mix_u64}
use Rattle.debug_model.specs.Schedule.{RoundPlan}
use Rattle.debug_model.specs.declared.event.Event.{Event}
use Rattle.debug_model.specs.declared.event.Event.TheVariants.{Turn, DmiDone, CmdStep, BusDone}

-- the first seven words of SplitMix64 made from the seed's eight little-endian bytes
abbrev pub words_of : ℕ → List ℕ
words_of seed = first_words mix_u64 7 (from_le_bytes w64 (to_le_bytes w64 seed))

-- the events of a schedule in the order of a round, each with its word
abbrev pub paired : ℕ → List ℕ → List (Event × ℕ)
paired harts words =
    map (λ h. (Turn h, slice_index words h)) (range_with_len 0 harts)
    ++ (DmiDone, slice_index words 4) ∷ (CmdStep, slice_index words 5) ∷ (BusDone, slice_index words 6) ∷ []

-- round k: the events whose word and k together are a multiple of `busy`
abbrev pub round_at : ℕ → List (Event × ℕ) → ℕ → List Event
round_at busy pairs k = map (λ p. p.0) (filter (λ p. (k + p.1) % busy == 0) pairs)

-- the rounds from 0 on, of which round k and round k + busy are the same
abbrev pub rounds_of : ℕ → List (Event × ℕ) → List (List Event)
rounds_of busy pairs = map (round_at busy pairs) (range_with_len 0 busy)

-- the schedule of a seed, before its first round
abbrev pub seed_plan : ℕ → ℕ → ℕ → RoundPlan
seed_plan seed busy harts = record { rounds = rounds_of busy (paired harts (words_of seed)); place = 0 }
