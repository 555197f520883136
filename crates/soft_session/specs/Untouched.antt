-- The commands that a session with software breakpoints does as one without them.
-- It is this project's own.
use Rattle.std.specs.Prelude.{◌≡◌, ℕ, not, ◌&&◌, false, List}
use Rattle.debug_model.specs.declared.command.Command.{Command}
use Rattle.debug_model.specs.declared.command.Command.TheVariants as command
use Rattle.soft_laws.specs.SoftBreaks.{has_some}

-- whatever breakpoints are set
abbrev pub IsUntouched : Command → Type 0
IsUntouched command.Resume = ⊥
IsUntouched (command.Step k) = ⊥
IsUntouched (command.Read size a count) = ⊥
IsUntouched (command.Write size a v count) = ⊥
IsUntouched (command.Dump a count) = ⊥
IsUntouched command.End = ⊥
IsUntouched _ = Unit {0}

-- an ebreak goes on halting where some are set
abbrev pub Leaves : List ℕ → Command → Type 0
Leaves planted (command.Ebreak on) = (not on && has_some planted) ≡ false
Leaves planted _ = Unit {0}
