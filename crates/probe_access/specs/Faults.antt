-- Which fault is the link's, and where among its calls a call broke off.
-- It is this project's own.
use Rattle.std.specs.Prelude.{◌≡◌, ◌++◌, ℕ, List, ◌∷◌, map, Option, Some, None}
use Rattle.debug_model.specs.declared.dmi.DmiFault.{DmiFault}
use Rattle.debug_model.specs.Told.{Far}
use Rattle.probe_access.specs.declared.fault.AccessFault.{AccessFault}
use Rattle.probe_access.specs.declared.fault.AccessFault.TheVariants as fault
use Rattle.debug_model.specs.declared.dmi_op.DmiOp.{DmiOp}
use Rattle.debug_model.specs.Course.{Operation as ThePerformed}
use Rattle.debug_model.specs.Many.{op_of}
use Rattle.probe_run.specs.Acts.{Act, Attempt, Broke, Tells, act_of}
use Rattle.probe_run.specs.Acts.Attempt.{Scan, Operation, Several}
use Rattle.probe_run.specs.Outcomes.{run_why}

-- which of the faults is the link's
abbrev pub access_why : AccessFault → Option DmiFault
access_why (fault.Dmi why) = Some why
access_why (fault.Memory address) = None
access_why (fault.Register number) = None
access_why fault.StillBusy = None
access_why (fault.Run why) = run_why why
access_why (fault.Odd shown) = None

-- behind some calls that were Ok one failed, at such a place
pub record BrokeIn (Begun : List Act → Attempt → Type 0) (old_count new_count : ℕ) (old : Tells) (told : Option Far) (why : DmiFault) : Type 0 where
  pub acts : List Act
  pub failed : Attempt
  pub begun : Begun acts failed
  pub broke : Broke acts failed old_count new_count old told why

-- such an operation alone, or some of them together in one call, each at its place
abbrev pub Among : (List Act → Attempt → Type 0) → List Act → Attempt → Type 0
Among Begun acts Scan = ⊥
Among Begun acts (Operation op) = Begun acts (Operation op)
Among Begun acts (Several op ops) =
    (done : List ThePerformed) (next : DmiOp) (left : List DmiOp) → map op_of done ++ next ∷ left ≡ op ∷ ops → Begun (acts ++ map act_of done) (Operation next)
