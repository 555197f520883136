-- The random words of a seed: those of SplitMix64 (Vigna, splitmix64.c; Steele, Lea and Flood, 2014).
use Rattle.std.specs.Prelude.{ℕ, ◌+◌, ◌*◌, List, take, drop}
use Rattle.std.specs.Int.{w64, from_le_bytes, to_le_bytes}
use Rattle.rand_core.specs.Steps.{first_words}
use Rattle.rand_xoshiro.specs.SplitMix64.{mix_u64}

-- the instructions of an image before its jump back
abbrev pub instructions : ℕ
instructions = 1000

-- the blocks of a script
abbrev pub blocks : ℕ
blocks = 100

-- the first words of SplitMix64 made from the seed's eight little-endian bytes: one for each instruction of the image, and two for each block of the script
abbrev pub words_of : ℕ → List ℕ
words_of seed = first_words mix_u64 (instructions + 2 * blocks) (from_le_bytes w64 (to_le_bytes w64 seed))

-- those of the image
abbrev pub program_words : ℕ → List ℕ
program_words seed = take instructions (words_of seed)

-- those of the script
abbrev pub session_words : ℕ → List ℕ
session_words seed = drop instructions (words_of seed)
