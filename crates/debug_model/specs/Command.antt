-- The ranges of the numbers in a script's commands, and what a list of commands keeps to be a script.
-- They are this project's own (docs/SCRIPT.md, "Commands").
use Rattle.std.specs.Prelude.{ℕ, ◌+◌, ◌*◌, ◌^◌, ◌<◌, ◌≤◌, List, length, All, IsTrue}
use Rattle.rv_model.specs.Size.{count_of}
use Rattle.debug_model.specs.declared.command.Command.{Command}
use Rattle.debug_model.specs.declared.command.Command.TheVariants.{Idcode, Hart, State, Halt, Resume, Step, Wait, Regs, Reg, SetReg, Read, Write, Dump, Via}
use Rattle.debug_model.specs.declared.command.Command.TheVariants.{Break, Watch, Count, Clear, Slots, Ebreak, End}
use Rattle.debug_model.specs.Registers.{is_register}

abbrev pub most_commands : ℕ
most_commands = 1000

abbrev pub last_hart : ℕ
last_hart = 1023

-- steps in one `step`, and looks in one `wait`
abbrev pub most_repeats : ℕ
most_repeats = 1000

-- elements of one `read` or `write`, and bytes of one `dump`
abbrev pub most_elements : ℕ
most_elements = 512

-- executed turns after which a counting slot stops: the count field of icount has 14 bits
abbrev pub most_turns : ℕ
most_turns = 16383

abbrev pub last_slot : ℕ
last_slot = 3

-- the number of addresses, and of values of eight bytes
abbrev pub all_addresses : ℕ
all_addresses = 2 ^ 64

-- so many elements of that size from an address on end at or below the last address
abbrev pub IsBlock : ℕ → ℕ → ℕ → Type 0
IsBlock size address count = (1 ≤ count) × (count ≤ most_elements) × (address + size * count ≤ all_addresses)

abbrev pub IsWithinRanges : Command → Type 0
IsWithinRanges Idcode = Unit {0}
IsWithinRanges (Hart hart) = hart ≤ last_hart
IsWithinRanges State = Unit {0}
IsWithinRanges Halt = Unit {0}
IsWithinRanges Resume = Unit {0}
IsWithinRanges (Step repeats) = (1 ≤ repeats) × (repeats ≤ most_repeats)
IsWithinRanges (Wait repeats) = (1 ≤ repeats) × (repeats ≤ most_repeats)
IsWithinRanges Regs = Unit {0}
IsWithinRanges (Reg register) = IsTrue (is_register register.0)
IsWithinRanges (SetReg register value) = IsTrue (is_register register.0) × (value < 2 ^ 64)
IsWithinRanges (Read size address count) = IsBlock (count_of size) address count
IsWithinRanges (Write size address value count) = IsBlock (count_of size) address count × (value < 256 ^ count_of size)
IsWithinRanges (Dump address count) = IsBlock 1 address count
IsWithinRanges (Via path) = Unit {0}
IsWithinRanges (Break address) = address < all_addresses
IsWithinRanges (Watch kind address) = address < all_addresses
IsWithinRanges (Count turns) = (1 ≤ turns) × (turns ≤ most_turns)
IsWithinRanges (Clear slot) = slot ≤ last_slot
IsWithinRanges Slots = Unit {0}
IsWithinRanges (Ebreak is_on) = Unit {0}
IsWithinRanges End = Unit {0}

-- a script is a list of at most 1,000 commands, each within its ranges
pub record IsScript (commands : List Command) : Type 0 where
  pub few : length commands ≤ most_commands
  pub within : All IsWithinRanges commands
