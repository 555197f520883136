-- How soon a hart is seen to do what it is asked, where the chip's schedule is fair: a call makes few Looks, and none of its waits is in vain.
-- RISC-V Debug Specification 1.0, "Halt Control" and "Run Control", leaves the time to the hart; the schedule's fairness is this project's own.
use Rattle.std.specs.Prelude.{◌≡◌, ◌⊎◌, ◌++◌, ◌≤◌, ℕ, List, length, map, All, Bool, true, Option, Some, IfSome, slice_get, ◌+◌}
use Rattle.rv_model.specs.Board.{Hart}
use Rattle.debug_model.specs.Kept.{DmiSeen}
use Rattle.debug_model.specs.Pacing.{Paced}
use Rattle.debug_model.specs.Rises.{FailsByWire, Within}
use Rattle.debug_model.specs.Told.{Far, chip_of, site_of}
use Rattle.abstract_debugger.specs.Debugger.{Seen as Sight, most_looks}
use Rattle.probe_run.specs.declared.control.Request.{Request}
use Rattle.probe_run.specs.declared.fault.ConnectFault.{ConnectFault}
use Rattle.probe_run.specs.declared.fault.ConnectFault.TheVariants as connect
use Rattle.probe_run.specs.declared.fault.RunFault.{RunFault}
use Rattle.probe_run.specs.declared.fault.RunFault.TheVariants.{Dmi, NoHalt, NoAck}
use Rattle.probe_run.specs.declared.wait.Waited.{Waited}
use Rattle.probe_run.specs.declared.wait.Waited.TheVariants as waited
use Rattle.probe_run.specs.Acts.{Did, Tells}
use Rattle.probe_run.specs.Looks.{ShowsNot, look_act}
use Rattle.probe_run.specs.Outcomes.{asks}
use Rattle.probe_run.specs.Told.{told}

-- no chip is told whose schedule is fair
abbrev pub Unpaced : DmiSeen → Type 0
Unpaced old = IfSome old.far (λ f. Paced (chip_of f).inside → ⊥)

-- so many Looks were made behind this request, and none showed what is waited for
pub record VainLooks (looks : ℕ) (request : Request) (test : Sight → Bool) (h : ℕ) (old : Tells) : Type 0 where
  pub words : List ℕ
  pub count : length words ≡ looks
  pub none : All (ShowsNot test) words
  pub mid : Tells
  pub did : Did old (asks request h ++ map look_act words) mid

-- a call has made a request, and at most so many Looks; or as many were in vain
abbrev pub WithinLooks : Request → (Sight → Bool) → ℕ → DmiSeen → DmiSeen → Type 0
WithinLooks request test h old new = (looks : ℕ) → 1 ≤ looks → Within (1 + looks) old new ⊎ VainLooks looks request test h (told old)

-- a wait that did not see it
abbrev pub WaitedInVain : Request → (Sight → Bool) → ℕ → DmiSeen → Waited → Type 0
WaitedInVain request test h old waited.Shown = Unit {0}
WaitedInVain request test h old (waited.Unshown acknowledged) = (looks : ℕ) → 1 ≤ looks → looks ≤ most_looks → VainLooks looks request test h (told old)

-- no wait is in vain, and where an operation failed it was by the wire
abbrev pub NeverInVain : DmiSeen → RunFault → Type 0
NeverInVain old (Dmi why) = FailsByWire old why
NeverInVain old (NoHalt looks) = Unpaced old
NeverInVain old (NoAck looks) = Unpaced old

-- where an operation of an opening failed it was by the wire; a register that is not as it must be is no wait
abbrev pub OpeningByWire : DmiSeen → ConnectFault → Type 0
OpeningByWire old (connect.Dtm word) = Unit {0}
OpeningByWire old (connect.Module word is_activation) = Unit {0}
OpeningByWire old (connect.Abstract word) = Unit {0}
OpeningByWire old (connect.Bus word) = Unit {0}
OpeningByWire old (connect.Dmi why) = FailsByWire old why

-- the step flag of hart h is set, where it is told
abbrev pub StepSet : ℕ → Option Far → Type 0
StepSet h told = IfSome told (λ f. (x : Hart) → slice_get (site_of f).board.harts h ≡ Some x → x.debug.step ≡ true)
