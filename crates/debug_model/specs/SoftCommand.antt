-- The ranges of the commands for software breakpoints, and what a list of commands keeps to be a script with them.
-- They are this project's own (docs/SCRIPT.md, "Software breakpoints").
use Rattle.std.specs.Prelude.{◌≡◌, ℕ, ◌%◌, ◌<◌, ◌≤◌, List, length, All}
use Rattle.rv_model.specs.Memory.{ram_base}
use Rattle.debug_model.specs.declared.soft_command.SoftCommand.{SoftCommand}
use Rattle.debug_model.specs.declared.soft_command.SoftCommand.TheVariants.{Plain, Soft, Unsoft}
use Rattle.debug_model.specs.Command.{IsWithinRanges, all_addresses, most_commands}

-- the bytes of the word that an ebreak takes
abbrev pub word_bytes : ℕ
word_bytes = 4

-- an address that a breakpoint may be asked for: that of a word, from the base of RAM on
abbrev pub IsSoftAddress : ℕ → Type 0
IsSoftAddress a = (a % word_bytes ≡ 0) × (ram_base ≤ a)

abbrev pub IsSoftCommand : SoftCommand → Type 0
IsSoftCommand (Plain command) = IsWithinRanges command
IsSoftCommand (Soft address) = IsSoftAddress address × (address < all_addresses)
IsSoftCommand (Unsoft address) = IsSoftAddress address × (address < all_addresses)

-- a script is a list of at most 1,000 commands, each within its ranges
pub record IsSoftScript (commands : List SoftCommand) : Type 0 where
  pub few : length commands ≤ most_commands
  pub within : All IsSoftCommand commands
