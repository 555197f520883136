-- What has become of a wait whose Look failed.
-- RISC-V Debug Specification 1.0, "Debug Module Status".
use Rattle.std.specs.Prelude.{◌++◌, ◌<◌, ℕ, List, map, All, length, Bool, Option}
use Rattle.debug_model.specs.Addresses.{dmstatus_address}
use Rattle.debug_model.specs.declared.dmi.DmiFault.{DmiFault}
use Rattle.debug_model.specs.declared.dmi_op.DmiOp.TheVariants.{Read}
use Rattle.debug_model.specs.Told.{Far}
use Rattle.abstract_debugger.specs.Debugger.{Seen, most_looks}
use Rattle.probe_run.specs.Acts.{Act, Broke, Tells}
use Rattle.probe_run.specs.Acts.Attempt.{Operation}
use Rattle.probe_run.specs.Looks.{ShowsNot, look_act}

-- a Look failed behind these calls
abbrev pub LookBroke : List Act → ℕ → ℕ → Tells → Option Far → DmiFault → Type 0
LookBroke first old_count new_count old told fault = Broke first (Operation (Read dmstatus_address)) old_count new_count old told fault

-- and behind fewer than 64 Looks in vain
pub record WaitBroke (test : Seen → Bool) (first : List Act) (old_count new_count : ℕ) (old : Tells) (told : Option Far) (fault : DmiFault) : Type 0 where
  pub vain : List ℕ
  pub none : All (ShowsNot test) vain
  pub few : length vain < most_looks
  pub broke : LookBroke (first ++ map look_act vain) old_count new_count old told fault
