-- How much a session over scans or over a wire lets TCK rise, with the sign that ends its stream: what its script may cost, where a chip is told whose schedule
-- is fair. It is this project's own.
use Rattle.std.specs.Prelude.{ℕ, List, Option, Some}
use Rattle.debug_model.specs.declared.command.Command.{Command}
use Rattle.debug_model.specs.Pacing.{Paced}
use Rattle.debug_model.specs.Rises.{PacedWithin}
use Rattle.debug_model.specs.Scan.{WhereTold}
use Rattle.debug_model.specs.Told.{Far}
use Rattle.probe_session.specs.Budget.{script_rises}

-- over what scans with this slack
pub record WithinBudget (slack : Option ℕ) (script : List Command) (old new : Option Far) : Type 0 where
  pub told : WhereTold (λ c now. Paced c.inside → PacedWithin slack (script_rises script) c now) old new

-- over a wire a scan has a rise for each clock of its path, and no more
abbrev pub slack_of_wire : Option ℕ
slack_of_wire = Some 0
