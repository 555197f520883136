-- How often TCK rises in a call on a transport's registers, whatever it answers. IEEE 1149.1 for the clocks of each path.
use Rattle.std.specs.Prelude.{◌≡◌, ℕ, zero, suc, ◌+◌, ◌*◌, ◌≤◌, Option, Some, IfSome, nat_lt, if◌then◌else◌}
use Rattle.debug_model.specs.Chip.{Chip}
use Rattle.debug_model.specs.Kept.{ScanSeen}
use Rattle.debug_model.specs.Rises.{rises_in}
use Rattle.debug_model.specs.Scan.{WhereTold}
use Rattle.debug_model.specs.Told.{Far, chip_of}
use Rattle.probe_dmi.specs.declared.state.State.{State}
use Rattle.probe_dmi.specs.declared.state.State.TheVariants.{New, Idle, Dead}
use Rattle.probe_dmi.specs.Pace.{pause_most}

-- so many clocks, and so many calls on scans that may each take the slack
pub record Rose (slack : Option ℕ) (scans clocks : ℕ) (c : Chip) (new : Option Far) : Type 0 where
  pub far : Far
  pub is : new ≡ Some far
  pub most : IfSome slack (λ s. rises_in (chip_of far).inside ≤ rises_in c.inside + (clocks + scans * s))

pub record RoseWithin (scans clocks : ℕ) (old new : ScanSeen) : Type 0 where
  pub told : WhereTold (Rose old.fixed.slack scans clocks) old.far new.far

-- the resets of a call: a link's first one makes one
abbrev pub resets : State → ℕ
resets New = 1
resets Idle = 0
resets Dead = 1

-- the calls for so many clocks in Run-Test/Idle
abbrev pub pauses : ℕ → ℕ
pauses zero = 0
pauses (suc n) = 1

-- an instruction, and a scan of dtmcs
abbrev pub clearing_clocks : ℕ
clearing_clocks = 48

-- a call of so many operations waits before a scan for so many clocks at most: one operation on its own never waits
abbrev pub waits_most : ℕ → ℕ
waits_most operations = if nat_lt 1 operations then pause_most else 0
