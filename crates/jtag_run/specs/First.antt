-- The chip that a run loads: which images can be loaded with which options, and what stands on the bench then.
-- How a program comes into the chip is this project's own (docs/FORMATS.md, "Images").
use Rattle.std.specs.Prelude.{ℕ, List}
use Rattle.chip_core.specs.Loads.{loaded_as}
use Rattle.debug_model.specs.Chip.{Live}
use Rattle.debug_model.specs.Loaded.{Fits, RightHarts}
use Rattle.jtag_run.specs.Jobs.{plan_of, start_of}
use Rattle.command_line.specs.declared.job.ChipOptions.{ChipOptions}
use Rattle.rv_model.specs.Memory.{IsRamSize}

pub record CanLoad (options : ChipOptions) (image : List ℕ) : Type 0 where
  pub harts : RightHarts options.harts
  pub size : IsRamSize options.ram
  pub fits : Fits image options.ram

-- the chip that is loaded
abbrev pub first_chip : ChipOptions → List ℕ → Live
first_chip options image = loaded_as options.version image options.harts options.ram (start_of options.halted) (plan_of options) options.events
