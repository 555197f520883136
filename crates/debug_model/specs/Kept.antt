-- What each call on a link keeps: what no call changes, what none lowers, what each Ok leaves, and each fault. A further promise of every call is a field
-- here: unchanged, of `Fixed`; monotone, of `ScanKeeps` and `Keeps`; left by each Ok, of `ScanRests` and `Stands`; left by each fault, of `Fallen`.
use Rattle.std.specs.Prelude.{◌≡◌, ◌≤◌, ℕ, List, Bool, true, false, Option, Some, None, Result, Ok, Err}
use Rattle.debug_model.specs.declared.asked.Asked.{Asked}
use Rattle.debug_model.specs.declared.dmi.DmiFault.{DmiFault}
use Rattle.debug_model.specs.declared.dmi.DmiFault.TheVariants.{Wire, Failed, StillBusy}
use Rattle.debug_model.specs.declared.wire.WireFault.{WireFault}
use Rattle.debug_model.specs.declared.wire.WireFault.TheVariants.{SendFailed, RecvFailed, Ended, BadAnswer}
use Rattle.debug_model.specs.Asked.{Asking}
use Rattle.debug_model.specs.Dmi.{CanOperate, DmiCause, DmiComing, LeavesStream, ScannedCause}
use Rattle.debug_model.specs.Many.{ManyCause}
use Rattle.debug_model.specs.Scan.{Coming, ScanCause}
use Rattle.debug_model.specs.Ties.{Ties}
use Rattle.debug_model.specs.Told.{Far, IsFree, IsIdle, IsLive, IsOpen, IsRead}

-- what no call changes
pub record Fixed : Type 0 where
  pub slack : Option ℕ  -- how much oftener than its path has clocks a scan may let TCK rise, where that is bounded
  pub ties : Ties
  pub gives : WireFault → Bool  -- the faults of the wire that a call may answer

-- of what carries nothing, and can only have no more to answer
abbrev pub gives_end_of_answers : WireFault → Bool
gives_end_of_answers SendFailed = false
gives_end_of_answers RecvFailed = true
gives_end_of_answers Ended = false
gives_end_of_answers (BadAnswer b) = false

-- ---- scans

-- what is seen of what scans a TAP's registers
pub record ScanSeen : Type 0 where
  pub far : Option Far  -- the chip at the far end and its unread answers, where they are told
  pub coming : Option Coming  -- what is to come out of scans, where it is told beside a chip or without one
  pub asked : Option (List Asked)  -- what was asked for, one call after another, where it is told
  pub bypassed : Bool  -- whether each device beside the chip in one chain, where there is any, stands in BYPASS
  pub fault_count : ℕ  -- how many calls of what carries the scans have failed
  pub fixed : Fixed

-- what a reset finds
pub record CanReset (s : ScanSeen) : Type 0 where
  pub unended : IsOpen s.far
  pub read : IsRead s.far
  pub free : IsFree s.far

-- what a scan finds
pub record CanShift (s : ScanSeen) : Type 0 where
  pub unended : IsOpen s.far
  pub read : IsRead s.far
  pub free : IsFree s.far
  pub idle : IsIdle s.far

-- what each Ok leaves
pub record ScanRests (s : ScanSeen) : Type 0 where
  pub live : IsLive s.far
  pub read : IsRead s.far
  pub free : IsFree s.far
  pub idle : IsIdle s.far
  pub bypassed : s.bypassed ≡ true

abbrev pub ScanBehind : {A : Type 0} → ScanSeen → Result A WireFault → Type 0
ScanBehind s (Ok value) = ScanRests s
ScanBehind s (Err why) = s.fixed.gives why ≡ true

pub record ScanKeeps {A : Type 0} (old new : ScanSeen) (result : Result A WireFault) : Type 0 where
  pub later : old.fault_count ≤ new.fault_count
  pub fixed : new.fixed ≡ old.fixed
  pub behind : ScanBehind new result

-- how a scan failed, by what was seen before and behind it
abbrev pub ScanFails : ScanSeen → ScanSeen → WireFault → Type 0
ScanFails old new why = ScanCause old.fault_count new.fault_count new.far old.coming why

-- ---- operations

-- what is seen of what operates on a debug module
pub record DmiSeen : Type 0 where
  pub far : Option Far  -- the chip at the far end and its unread answers, where they are told
  pub coming : Option DmiComing  -- what is to be heard, where it is told beside a chip or without one
  pub asked : Option Asking  -- what scans were asked for, where it is told
  pub is_alive : Bool  -- whether calls can be made: no call has failed
  pub fault_count : ℕ  -- how many calls of what carries the operations have failed
  pub fixed : Fixed

-- what a call finds
pub record CanCall (s : DmiSeen) : Type 0 where
  pub alive : s.is_alive ≡ true
  pub link : CanOperate s.far

-- what each Ok leaves, and each fault that is not the link's
pub record Stands (s : DmiSeen) : Type 0 where
  pub alive : s.is_alive ≡ true
  pub link : CanOperate s.far
  pub live : IsLive s.far
  pub idle : IsIdle s.far

-- a fault of the wire is one that the wire gives
abbrev pub IsOwn : Fixed → DmiFault → Type 0
IsOwn f (Wire why) = f.gives why ≡ true
IsOwn f Failed = Unit {0}
IsOwn f StillBusy = Unit {0}

-- what a fault of the link leaves
pub record Fallen (s : DmiSeen) (why : DmiFault) : Type 0 where
  pub dead : s.is_alive ≡ false
  pub stream : LeavesStream s.far why
  pub own : IsOwn s.fixed why

abbrev pub StandsUnless : DmiSeen → Option DmiFault → Type 0
StandsUnless s None = Stands s
StandsUnless s (Some why) = Fallen s why

-- by what a call answered, where `fault_of` says which of its faults is the link's
abbrev pub Behind : {A E : Type 0} → (E → Option DmiFault) → DmiSeen → Result A E → Type 0
Behind fault_of s (Ok value) = Stands s
Behind fault_of s (Err fault) = StandsUnless s (fault_of fault)

pub record Keeps {A E : Type 0} (fault_of : E → Option DmiFault) (old new : DmiSeen) (result : Result A E) : Type 0 where
  pub later : old.fault_count ≤ new.fault_count
  pub fixed : new.fixed ≡ old.fixed
  pub behind : Behind fault_of new result

-- how an operation failed, and how a call that only scans a register, by what was seen before and behind it
abbrev pub OperationFails : DmiSeen → DmiSeen → DmiFault → Type 0
OperationFails old new why = DmiCause old.fault_count new.fault_count old.far new.far old.coming why

abbrev pub RegisterScanFails : DmiSeen → DmiSeen → DmiFault → Type 0
RegisterScanFails old new why = ScannedCause old.fault_count new.fault_count new.far old.coming why

-- and how several in one call failed, by how many were asked for
abbrev pub ManyFails : ℕ → DmiSeen → DmiSeen → DmiFault → Type 0
ManyFails operations old new why = ManyCause operations old.fault_count new.fault_count old.far new.far old.coming why
