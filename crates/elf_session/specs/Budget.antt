-- How much a session that loads a file first lets TCK rise, where a chip is told whose schedule is fair: what the loading may cost, and what its script may.
-- It is this project's own.
use Rattle.std.specs.Prelude.{◌+◌, ℕ, List, Option}
use Rattle.debug_model.specs.declared.command.Command.{Command}
use Rattle.debug_model.specs.Pacing.{Paced}
use Rattle.debug_model.specs.Rises.{PacedWithin}
use Rattle.debug_model.specs.Scan.{WhereTold}
use Rattle.debug_model.specs.Told.{Far}
use Rattle.elf_load.specs.Runs.{load_rises}
use Rattle.probe_session.specs.Budget.{script_rises}

-- two Looks, the entry, and the hits of the slots
abbrev pub entry_rises : ℕ
entry_rises = 164

abbrev pub loading_rises : List ℕ → ℕ
loading_rises file = load_rises file + entry_rises

abbrev pub elf_rises : List ℕ → List Command → ℕ
elf_rises file script = loading_rises file + script_rises script

-- over a wire, whose scans have no slack, or over scans with this slack
pub record ElfWithinBudget (slack : Option ℕ) (file : List ℕ) (script : List Command) (old new : Option Far) : Type 0 where
  pub told : WhereTold (λ c now. Paced c.inside → PacedWithin slack (elf_rises file script) c now) old new
