-- A worked example of how much a script lets TCK rise at most.
use Rattle.std.specs.Prelude.{◌≡◌, ℕ, List, [], ◌∷◌}
use Rattle.debug_model.specs.declared.command.Command.{Command}
use Rattle.debug_model.specs.declared.command.Command.TheVariants.{State, Resume, Step, Wait, Regs, Reg, Dump, Break, Watch, Clear}
use Rattle.debug_model.specs.declared.command.WatchKind.{WatchKind}
use Rattle.debug_model.specs.declared.register_name.RegName.{RegName}
use Rattle.probe_session.specs.Budget.{script_rises}

-- `state`, `regs`, three `break`, `watch`, `step 20`, `reg`, a `dump` of 256 bytes, `clear`, `break`, `resume` and a `wait` of 64 Looks
abbrev pub usual_script : RegName → WatchKind → (address slot : ℕ) → List Command
usual_script register kind address slot =
    State ∷ Regs ∷ Break address ∷ Break address ∷ Break address ∷ Watch kind address ∷ Step 20 ∷ Reg register ∷ Dump address 256 ∷ Clear slot ∷ Break address
    ∷ Resume ∷ Wait 64 ∷ []

abbrev pub UsualScriptRises : Type 0
UsualScriptRises = (register : RegName) (kind : WatchKind) (address slot : ℕ) → script_rises (usual_script register kind address slot) ≡ 54173
