-- What setting a software breakpoint and taking it out does at a told chip, and which calls on the link it is.
-- It is this project's own. RISC-V Debug Specification 1.0, "System Bus Access".
use Rattle.std.specs.Prelude.{◌≡◌, ◌≤◌, ◌==◌, ℕ, List, length, true, false, Option, Some, Ok, Err, Result}
use Rattle.rv_model.specs.declared.size.Size.TheVariants.{B4}
use Rattle.rv_model.specs.Memory.{loaded}
use Rattle.debug_model.specs.Chip.{Chip}
use Rattle.debug_model.specs.Kept.{DmiSeen, Stands, StandsUnless}
use Rattle.debug_model.specs.Module.{Site}
use Rattle.debug_model.specs.Told.{Far}
use Rattle.abstract_debugger.specs.Turns.{after_turns}
use Rattle.probe_run.specs.Acts.{Tells}
use Rattle.probe_access.specs.declared.fault.AccessFault.{AccessFault}
use Rattle.probe_access.specs.Accesses.{BusLoadRefused, BusLoadedAt, BusStoreRefused, BusStoredAt, IfMemory, OneBusAccess, unchanged}
use Rattle.probe_access.specs.BusRuns.{BusLoadFailed, BusLoaded, BusStoreFailed, BusStored}
use Rattle.probe_access.specs.Cuts.{BusLeftOff, LoadLeaves, StoreLeaves}
use Rattle.probe_access.specs.Faults.{access_why}
use Rattle.soft_laws.specs.SoftBreaks.{ebreak_word, is_listed}
use Rattle.soft_laws.specs.SoftDebugger.{most_planted}
use Rattle.soft_break.specs.declared.fault.SoftFault.{SoftFault}
use Rattle.soft_break.specs.declared.fault.SoftFault.TheVariants.{Access, Full, Set, NotSet}
use Rattle.soft_break.specs.Patches.{Patches, original_of, with_patch, without_patch}

-- ---- faults

-- what an access that failed says
abbrev pub IfAccess : (AccessFault → Type 0) → SoftFault → Type 0
IfAccess P (Access fault) = P fault
IfAccess P Full = Unit {0}
IfAccess P Set = Unit {0}
IfAccess P NotSet = Unit {0}

-- a fact that holds behind a fault of memory, and where no call was made
abbrev pub IfStill : Type 0 → SoftFault → Type 0
IfStill P (Access fault) = IfMemory P fault
IfStill P Full = P
IfStill P Set = P
IfStill P NotSet = P

-- no call was made, and so nothing has changed, or the link stands as behind each call
abbrev pub SoftBehind : {A : Type 0} → DmiSeen → DmiSeen → Result A SoftFault → Type 0
SoftBehind old new (Ok value) = Stands new
SoftBehind old new (Err (Access fault)) = StandsUnless new (access_why fault)
SoftBehind old new (Err Full) = new ≡ old
SoftBehind old new (Err Set) = new ≡ old
SoftBehind old new (Err NotSet) = new ≡ old

pub record SoftKeeps {A : Type 0} (old new : DmiSeen) (result : Result A SoftFault) : Type 0 where
  pub later : old.fault_count ≤ new.fault_count
  pub fixed : new.fixed ≡ old.fixed
  pub behind : SoftBehind old new result

-- ---- which answer comes

pub record CanPlant (at : ℕ) (p : Patches) : Type 0 where
  pub free : is_listed p.addresses at ≡ false
  pub room : (length p.addresses == most_planted) ≡ false

pub record NoRoom (at : ℕ) (p : Patches) : Type 0 where
  pub free : is_listed p.addresses at ≡ false
  pub full : (length p.addresses == most_planted) ≡ true

-- that one is set there comes before that all are
abbrev pub PlantAnswers : {A : Type 0} → ℕ → Patches → Result A SoftFault → Type 0
PlantAnswers at p (Ok value) = CanPlant at p
PlantAnswers at p (Err (Access fault)) = CanPlant at p
PlantAnswers at p (Err Full) = NoRoom at p
PlantAnswers at p (Err Set) = is_listed p.addresses at ≡ true
PlantAnswers at p (Err NotSet) = ⊥

abbrev pub UnplantAnswers : {A : Type 0} → ℕ → Patches → Result A SoftFault → Type 0
UnplantAnswers at p (Ok value) = is_listed p.addresses at ≡ true
UnplantAnswers at p (Err (Access fault)) = is_listed p.addresses at ≡ true
UnplantAnswers at p (Err Full) = ⊥
UnplantAnswers at p (Err Set) = ⊥
UnplantAnswers at p (Err NotSet) = is_listed p.addresses at ≡ false

-- ---- the table

-- one patch more, with what was read, or as it was
abbrev pub PlantTable : {A : Type 0} → ℕ → Patches → Patches → Result A SoftFault → Type 0
PlantTable at p q (Ok value) = q ≡ with_patch at (original_of at q) p
PlantTable at p q (Err fault) = q ≡ p

abbrev pub UnplantTable : {A : Type 0} → ℕ → Patches → Patches → Result A SoftFault → Type 0
UnplantTable at p q (Ok value) = q ≡ without_patch at p
UnplantTable at p q (Err fault) = q ≡ p

-- ---- at the chip: the word is read by one access, and an ebreak stored by another

pub record PlantedAt (at original : ℕ) (c : Chip) (new : Option Far) : Type 0 where
  pub mid : Far
  pub read : BusLoadedAt B4 at original c (Some mid)
  pub wrote : BusStoredAt B4 at ebreak_word mid.live.chip new

pub data PlantRefused (at : ℕ) (c : Chip) (new : Option Far) : Type 0 where
  at_read : BusLoadRefused B4 at c new → PlantRefused at c new
  at_write : (original : ℕ) (mid : Far) → BusLoadedAt B4 at original c (Some mid) → BusStoreRefused B4 at mid.live.chip new → PlantRefused at c new

pub record ReadOne (at original : ℕ) (s t : Site) : Type 0 where
  pub before : List ℕ
  pub behind : List ℕ
  pub value_is : loaded (after_turns before s.board).memory at B4 ≡ Ok original
  pub access : OneBusAccess unchanged before behind s t

pub data PlantCut (at : ℕ) (s t : Site) : Type 0 where
  in_read : BusLeftOff LoadLeaves s t → PlantCut at s t
  in_write : (original : ℕ) (mid : Site) → ReadOne at original s mid → BusLeftOff (StoreLeaves B4 at ebreak_word) mid t → PlantCut at s t

-- ---- the calls on the link

pub record Planted (at original : ℕ) (old new : Tells) : Type 0 where
  pub mid : Tells
  pub read : BusLoaded B4 at original old mid
  pub wrote : BusStored B4 at ebreak_word mid new

pub data PlantFailed (at old_count new_count : ℕ) (old new : Tells) (e : AccessFault) : Type 0 where
  in_read : BusLoadFailed B4 at old_count new_count old new e → PlantFailed at old_count new_count old new e
  in_write : (original mid_count : ℕ) (mid : Tells) → BusLoaded B4 at original old mid → old_count ≤ mid_count → mid_count ≤ new_count
      → BusStoreFailed B4 at ebreak_word mid_count new_count mid new e → PlantFailed at old_count new_count old new e
