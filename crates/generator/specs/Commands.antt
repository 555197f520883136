-- The script of a seed: it halts the hart, and then stops it in the image again and again.
use Rattle.std.specs.Prelude.{ℕ, ◌+◌, ◌*◌, ◌%◌, List, [], ◌∷◌, flat_map, slice_index}
use Rattle.std.specs.List.{range_with_len}
use Rattle.rv_model.specs.Memory.{ram_base}
use Rattle.rv_model.specs.Registers.{first_x_number}
use Rattle.debug_model.specs.declared.command.Command.{Command}
use Rattle.debug_model.specs.declared.command.Command.TheVariants.{Halt, Resume, Step, Wait, Reg, Break, Clear}
use Rattle.generator.specs.Image.{register}
use Rattle.generator.specs.SeedWords.{blocks, instructions, session_words}

-- the Looks of each wait
abbrev pub looks : ℕ
looks = 1000

-- the commands of two random words: a breakpoint at an instruction of the image that the first picks, a run up to it, one step,
-- and a register that the second picks
abbrev pub block : ℕ → ℕ → List Command
block a b =
    Break (ram_base + 4 * (a % instructions)) ∷ Resume ∷ Wait looks ∷ Step 1
    ∷ Reg (record { 0 = first_x_number + register b }) ∷ Clear 0 ∷ []

-- the k-th block of random words that come two by two
abbrev pub block_at : List ℕ → ℕ → List Command
block_at words k = block (slice_index words (2 * k)) (slice_index words (2 * k + 1))

-- so many blocks behind the halt
abbrev pub session : ℕ → List ℕ → List Command
session count words = Halt ∷ flat_map (block_at words) (range_with_len 0 count)

-- the commands of a seed's script
abbrev pub commands : ℕ → List Command
commands seed = session blocks (session_words seed)
