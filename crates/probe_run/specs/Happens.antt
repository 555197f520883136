-- What a call of run control makes happen at the harts of a told chip: turns, and the points of its requests and Looks, in order, and nothing else.
-- RISC-V Debug Specification 1.0, "Halt Control" and "Run Control".
use Rattle.std.specs.Prelude.{◌≡◌, ◌⊎◌, ◌<◌, ◌+◌, ℕ, Bool, true, false, Option, Some, IfSome}
use Rattle.debug_model.specs.declared.point.Point.{Point}
use Rattle.debug_model.specs.declared.point.Point.TheVariants.{Look, HaltReq, HaltClear, ResumeReq}
use Rattle.debug_model.specs.Chip.{Chip}
use Rattle.debug_model.specs.Module.{Site}
use Rattle.debug_model.specs.Told.{Far, HartExists, IsHalted, site_of}
use Rattle.abstract_debugger.specs.Debugger.{Seen as Sight, most_looks, sees_ack, sees_both, sees_halted, unseen}
use Rattle.abstract_debugger.specs.Stands.{Cut, Looked, Pointed, Target}
use Rattle.probe_run.specs.declared.fault.RunFault.{RunFault}
use Rattle.probe_run.specs.declared.fault.RunFault.TheVariants.{Dmi, NoHalt, NoAck}
use Rattle.probe_run.specs.declared.hart.Seen.{Seen}
use Rattle.probe_run.specs.declared.hart.Seen.TheVariants as seen
use Rattle.debug_model.specs.Scan.{WhereTold}
use Rattle.probe_run.specs.Outcomes.{IsSeen}

-- the harts of a site, and its journal
abbrev pub target_of : Site → Target
target_of s = record { board = s.board; journal = s.journal }

-- where the chip is told, hart h is there
abbrev pub Exists : ℕ → Option Far → Type 0
Exists h told = IfSome told (λ f. HartExists h (site_of f).board)

-- ---- at the harts

-- so many Looks of hart h, none of which showed what was wanted, and what the last of them showed
pub data InVain (test : Sight → Bool) (h : ℕ) (old : Target) : ℕ → Sight → Target → Type 0 where
  none : InVain test h old 0 unseen old
  again : (n : ℕ) (last now : Sight) (mid new : Target) → InVain test h old n last mid → Looked h now mid new → test now ≡ false
      → InVain test h old (n + 1) now new

-- a request, and at most 64 Looks, of which the last alone showed what was wanted
pub record MetAt (request : Point) (test : Sight → Bool) (h : ℕ) (old new : Target) : Type 0 where
  pub asked : Target
  pub asks : Pointed request old asked
  pub looks : ℕ
  pub last : Sight
  pub mid : Target
  pub in_vain : InVain test h asked looks last mid
  pub few : looks < most_looks
  pub now : Sight
  pub look : Looked h now mid new
  pub shown : test now ≡ true

-- a request, and 64 Looks, none of which showed what was wanted
pub record MissedAt (request : Point) (test : Sight → Bool) (h : ℕ) (last : Sight) (old new : Target) : Type 0 where
  pub asked : Target
  pub asks : Pointed request old asked
  pub in_vain : InVain test h asked most_looks last new

-- the same, cut at the request or at a Look, whose answer was lost or which was not made
pub record LookCut (request : Point) (test : Sight → Bool) (h : ℕ) (old new : Target) : Type 0 where
  pub asked : Target
  pub asks : Pointed request old asked
  pub looks : ℕ
  pub last : Sight
  pub mid : Target
  pub in_vain : InVain test h asked looks last mid
  pub few : looks < most_looks
  pub cut : Cut (Look h) mid new

pub data RunCut (request : Point) (test : Sight → Bool) (h : ℕ) (old new : Target) : Type 0 where
  at_request : Cut request old new → RunCut request test h old new
  at_look : LookCut request test h old new → RunCut request test h old new

-- a halt: the request, the Looks, and the request cleared
pub record HaltsAt (h : ℕ) (old new : Target) : Type 0 where
  pub mid : Target
  pub met : MetAt (HaltReq h) sees_halted h old mid
  pub clears : Pointed (HaltClear h) mid new

pub record ClearCut (h : ℕ) (old new : Target) : Type 0 where
  pub mid : Target
  pub met : MetAt (HaltReq h) sees_halted h old mid
  pub cut : Cut (HaltClear h) mid new

pub data HaltCut (h : ℕ) (old new : Target) : Type 0 where
  before_halt : RunCut (HaltReq h) sees_halted h old new → HaltCut h old new
  at_clear : ClearCut h old new → HaltCut h old new

abbrev pub ResumesAt : ℕ → Target → Target → Type 0
ResumesAt h = MetAt (ResumeReq h) sees_ack h

abbrev pub StepsAt : ℕ → Target → Target → Type 0
StepsAt h = MetAt (ResumeReq h) sees_both h

-- one Look, whose sight is the one that was handed out
pub record LooksAt (h : ℕ) (s : Seen) (old new : Target) : Type 0 where
  pub now : Sight
  pub look : Looked h now old new
  pub is : IsSeen h now s

-- ---- at the chip

-- this happened at the harts; hart h is selected, and all else of the debug module is as it was
pub record Leaves (R : Target → Target → Type 0) (h : ℕ) (c : Chip) (new : Option Far) : Type 0 where
  pub far : Far
  pub is : new ≡ Some far
  pub happened : R (target_of c.inside.works.site) (target_of (site_of far))
  pub unit : (site_of far).unit ≡ record c.inside.works.site.unit { hartsel = h }

-- the same, where the selection may be lost
pub record LeftBy (R : Target → Target → Type 0) (h : ℕ) (c : Chip) (new : Option Far) : Type 0 where
  pub far : Far
  pub is : new ≡ Some far
  pub happened : R (target_of c.inside.works.site) (target_of (site_of far))
  pub unit : ((site_of far).unit ≡ c.inside.works.site.unit) ⊎ ((site_of far).unit ≡ record c.inside.works.site.unit { hartsel = h })

-- ---- by the fault

abbrev pub LookLeft : ℕ → Option Far → Option Far → RunFault → Type 0
LookLeft h old new (Dmi fault) = WhereTold (LeftBy (Cut (Look h)) h) old new
LookLeft h old new (NoHalt looks) = ⊥
LookLeft h old new (NoAck looks) = ⊥

abbrev pub HaltLeft : ℕ → Option Far → Option Far → RunFault → Type 0
HaltLeft h old new (Dmi fault) = WhereTold (LeftBy (HaltCut h) h) old new
HaltLeft h old new (NoHalt looks) = (last : Sight) × WhereTold (Leaves (MissedAt (HaltReq h) sees_halted h last) h) old new
HaltLeft h old new (NoAck looks) = ⊥

abbrev pub ResumeLeft : ℕ → Option Far → Option Far → RunFault → Type 0
ResumeLeft h old new (Dmi fault) = WhereTold (LeftBy (RunCut (ResumeReq h) sees_ack h) h) old new
ResumeLeft h old new (NoHalt looks) = ⊥
ResumeLeft h old new (NoAck looks) = (last : Sight) × WhereTold (Leaves (MissedAt (ResumeReq h) sees_ack h last) h) old new

abbrev pub StepLeft : ℕ → Option Far → Option Far → RunFault → Type 0
StepLeft h old new (Dmi fault) = WhereTold (LeftBy (RunCut (ResumeReq h) sees_both h) h) old new
StepLeft h old new (NoHalt looks) = (last : Sight) × (sees_ack last ≡ true) × WhereTold (Leaves (MissedAt (ResumeReq h) sees_both h last) h) old new
StepLeft h old new (NoAck looks) = (last : Sight) × (sees_ack last ≡ false) × WhereTold (Leaves (MissedAt (ResumeReq h) sees_both h last) h) old new

-- ---- what a Look hands out

-- a hart that was seen halted is halted, and one that was seen running is there
abbrev pub IsAsSeen : Option Far → Seen → Type 0
IsAsSeen told seen.Absent = Unit {0}
IsAsSeen told (seen.Running r) = Exists r.number told
IsAsSeen told (seen.Halted x) = IsHalted x.number told
