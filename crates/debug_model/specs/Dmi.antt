-- Operations on the debug module interface: what a call does to a told chip, what is heard of a scripted one, and why a call fails.
-- RISC-V Debug Specification 1.0, "Debug Module Interface Access". That the reserved op 1 is taken as busy, and that a call gives up behind 64 busy
-- answers, are this project's own choices.
use Rattle.std.specs.Prelude.{◌≡◌, ◌⊎◌, ◌++◌, ℕ, suc, ◌+◌, ◌%◌, ◌^◌, ◌<◌, ◌≤◌, List, [], ◌∷◌, length, Bool, true, false, Option, Some, None, IfSome}
use Rattle.jt_base.specs.BitList.{number_of}
use Rattle.debug_model.specs.declared.dmi.DmiFault.{DmiFault}
use Rattle.debug_model.specs.declared.dmi.DmiFault.TheVariants.{Wire, Failed, StillBusy}
use Rattle.debug_model.specs.declared.counts.Counts.{Counts}
use Rattle.debug_model.specs.declared.dmi_op.DmiOp.{DmiOp}
use Rattle.debug_model.specs.declared.dmi_op.DmiOp.TheVariants.{Read, Write}
use Rattle.debug_model.specs.declared.dmi_scan.DmiScan.{DmiScan}
use Rattle.debug_model.specs.Chip.{Chip}
use Rattle.debug_model.specs.Course.{Course, DeedsAlone, Happening, OneOperation, Spans}
use Rattle.debug_model.specs.Course.Happening.{Launched, Performed, Lost}
use Rattle.debug_model.specs.Module.{Site}
use Rattle.debug_model.specs.Pacing.{Paced, PacedAlong, harts_in}
use Rattle.debug_model.specs.Scan.{Coming, ScanCause, StoodAtRest, TookOut}
use Rattle.debug_model.specs.Scan.Coming.{Numbers}
use Rattle.debug_model.specs.Told.{Far, IsClean, IsFree, IsOpen, IsRead, chip_of, site_of}
use Rattle.debug_model.specs.Transport.{dmi_width, dtmcs_width}
use Rattle.debug_model.specs.TransportWords.{dmi_of, status_busy, status_done, status_failed}

-- ---- when a call may be made

-- an operation that the fields of dmi hold
abbrev pub IsOperation : DmiOp → Type 0
IsOperation (Read address) = address < 2 ^ 7
IsOperation (Write address value) = (address < 2 ^ 7) × (value < 2 ^ 32)

-- the TAP stands in Test-Logic-Reset or in Run-Test/Idle
abbrev pub IsAtRest : Option Far → Type 0
IsAtRest told = IfSome told (λ f. StoodAtRest (chip_of f))

-- what a call finds, and what each Ok leaves
pub record CanOperate (told : Option Far) : Type 0 where
  pub unended : IsOpen told
  pub read : IsRead told
  pub free : IsFree told
  pub rest : IsAtRest told
  pub clean : IsClean told

-- the stream can be ended: of a link that is alive, and of one that lost its session but no byte
pub record CanQuit (told : Option Far) : Type 0 where
  pub unended : IsOpen told
  pub read : IsRead told
  pub free : IsFree told

-- ---- what a call did to a told chip

abbrev pub counts_of : Far → Counts
counts_of f = (chip_of f).inside.works.counts

-- the field `value` of dmi holds so many bits of a result
abbrev pub value_of : ℕ → ℕ
value_of result = result % 2 ^ 32

-- just this operation was put in flight and performed, once, and this word is its result; and none was lost: however many rounds
-- passed, and however often the transport was found busy
pub record Operated (op : DmiOp) (value : ℕ) (c : Chip) (new : Option Far) : Type 0 where
  pub far : Far
  pub is : new ≡ Some far
  pub result : ℕ
  pub path : Spans (record { op = op; result = result } ∷ []) c.inside (chip_of far).inside
  pub site : OneOperation op result c.inside.works.site (site_of far)
  pub value_is : value ≡ value_of result
  pub pace : Paced c.inside → PacedAlong (harts_in c.inside) c.inside.works.site (record { op = op; result = result } ∷ []) (site_of far)

-- no operation was put in flight, performed or lost
pub record NoneOperated (c : Chip) (new : Option Far) : Type 0 where
  pub far : Far
  pub is : new ≡ Some far
  pub path : Spans [] c.inside (chip_of far).inside
  pub site : DeedsAlone c.inside.works.site (site_of far)

-- what may become of the one operation of a call that fails
pub data AtMostOnce (op : DmiOp) : List Happening → Type 0 where
  not_sent : AtMostOnce op []
  in_flight : AtMostOnce op (Launched op ∷ [])
  performed_once : (result : ℕ) → AtMostOnce op (Launched op ∷ Performed op result ∷ [])
  lost_once : AtMostOnce op (Launched op ∷ Lost op ∷ [])

-- what stands behind the transport then
pub data SiteCut (op : DmiOp) (s t : Site) : Type 0 where
  unperformed : DeedsAlone s t → SiteCut op s t
  was_performed : (result : ℕ) → OneOperation op result s t → SiteCut op s t

-- the operation was performed at most once, and no other was put in flight
pub record OperationCut (op : DmiOp) (c : Chip) (new : Option Far) : Type 0 where
  pub far : Far
  pub is : new ≡ Some far
  pub happened : List Happening
  pub path : Course c.inside happened (chip_of far).inside
  pub once : AtMostOnce op happened
  pub site : SiteCut op c.inside.works.site (site_of far)

-- ---- a scripted link: what is to be heard is given beforehand

pub data DmiComing : Type 0 where
  Results : (results : List ℕ) → DmiComing  -- each call that reads answers the next number
  Scans : (coming : Coming) → DmiComing  -- the link's scans take this out

-- scans took these bits out, one after another
abbrev pub TookAll : List (List Bool) → Coming → Coming → Type 0
TookAll [] coming new = new ≡ coming
TookAll (out ∷ outs) coming new = (next : Coming) × TookOut out coming (Some next) × TookAll outs next new

abbrev pub heard : List Bool → DmiScan
heard out = dmi_of (number_of out)

abbrev pub WasBusy : List Bool → Type 0
WasBusy out = ((heard out).op ≡ status_busy) ⊎ ((heard out).op ≡ 1)

abbrev pub WasDone : List Bool → Type 0
WasDone out = (heard out).op ≡ status_done

-- a scan of dmi carries op, value and an address of at least 7 bits
abbrev pub IsDmi : List Bool → Type 0
IsDmi out = dmi_width ≤ length out

abbrev pub IsDtmcs : List Bool → Type 0
IsDtmcs out = length out ≡ dtmcs_width

-- the scans of an operation so far, with what came out: so many found the transport busy, each followed by one of dtmcs; and whether the transport
-- has taken the operation. One that carried it and found the transport busy was ignored.
pub data Awaited : ℕ → Bool → List (List Bool) → Type 0 where
  begun : Awaited 0 false []
  busy : (n : ℕ) (taken : Bool) (outs : List (List Bool)) → Awaited n taken outs
      → (out cleared : List Bool) → IsDmi out → WasBusy out → IsDtmcs cleared → Awaited (suc n) taken (outs ++ (out ∷ cleared ∷ []))
  carried : (n : ℕ) (outs : List (List Bool)) → Awaited n false outs
      → (out : List Bool) → IsDmi out → WasDone out → Awaited n true (outs ++ (out ∷ []))

-- so many busy answers in one call are too many
abbrev pub busy_most : ℕ
busy_most = 64

-- the scans of an operation whose result this is
pub record Fetched (result : ℕ) (coming new : Coming) : Type 0 where
  pub busy_answers : ℕ
  pub few : busy_answers < busy_most
  pub outs : List (List Bool)
  pub awaited : Awaited busy_answers true outs
  pub out : List Bool
  pub width : IsDmi out
  pub done : WasDone out
  pub result_is : result ≡ (heard out).value
  pub took : TookAll (outs ++ (out ∷ [])) coming new

abbrev pub TookResult : ℕ → DmiComing → Option DmiComing → Type 0
TookResult result (Results results) new = (rest : List ℕ) × (results ≡ result ∷ rest) × (new ≡ Some (Results rest))
TookResult result (Scans coming) new = (next : Coming) × Fetched result coming next × (new ≡ Some (Scans next))

-- a call that reads answered this
abbrev pub Answers : ℕ → Option DmiComing → Option DmiComing → Type 0
Answers result None new = new ≡ None
Answers result (Some coming) new = TookResult result coming new

abbrev pub TookNothing : DmiComing → Option DmiComing → Type 0
TookNothing (Results results) new = new ≡ Some (Results results)
TookNothing (Scans coming) new = (result : ℕ) × (next : Coming) × Fetched result coming next × (new ≡ Some (Scans next))

-- a call that writes answers nothing, and its scans take out what they do
abbrev pub Passes : Option DmiComing → Option DmiComing → Type 0
Passes None new = new ≡ None
Passes (Some coming) new = TookNothing coming new

-- one scan of 32 bits
pub record TookWord (value : ℕ) (coming new : Coming) : Type 0 where
  pub out : List Bool
  pub width : length out ≡ 32
  pub value_is : value ≡ number_of out
  pub took : TookOut out coming (Some new)

abbrev pub TookRegister : ℕ → DmiComing → Option DmiComing → Type 0
TookRegister value (Results results) new = (rest : List ℕ) × (results ≡ value ∷ rest) × (new ≡ Some (Results rest))
TookRegister value (Scans coming) new = (next : Coming) × TookWord value coming next × (new ≡ Some (Scans next))

-- idcode or dtmcs was read as this
abbrev pub Shows : ℕ → Option DmiComing → Option DmiComing → Type 0
Shows value None new = new ≡ None
Shows value (Some coming) new = TookRegister value coming new

-- ---- why a call failed. Behind a fault the link is not alive.

-- an operation was lost in this call
pub record LostOne (c : Chip) (new : Option Far) : Type 0 where
  pub far : Far
  pub is : new ≡ Some far
  pub more : c.inside.works.counts.dmi_failed < (counts_of far).dmi_failed

-- the transport was found busy so often in this call
pub record FoundBusy (c : Chip) (new : Option Far) : Type 0 where
  pub far : Far
  pub is : new ≡ Some far
  pub more : c.inside.works.counts.dmi_busy + busy_most ≤ (counts_of far).dmi_busy

-- the last scan took out op 2
pub record HeardFailed (coming : Coming) : Type 0 where
  pub busy_answers : ℕ
  pub few : busy_answers < busy_most
  pub taken : Bool
  pub outs : List (List Bool)
  pub awaited : Awaited busy_answers taken outs
  pub out : List Bool
  pub width : IsDmi out
  pub failed : (heard out).op ≡ status_failed
  pub new : Coming
  pub took : TookAll (outs ++ (out ∷ [])) coming new

-- 64 scans took out op 3 or op 1
pub record HeardBusy (coming : Coming) : Type 0 where
  pub taken : Bool
  pub outs : List (List Bool)
  pub awaited : Awaited busy_most taken outs
  pub new : Coming
  pub took : TookAll outs coming new

abbrev pub WhereScanned : (Coming → Type 0) → DmiComing → Type 0
WhereScanned P (Results results) = ⊥
WhereScanned P (Scans coming) = P coming

-- a bad answer is one of the scans: results hold none
abbrev pub scans_of : DmiComing → Coming
scans_of (Results results) = Numbers []
scans_of (Scans coming) = coming

abbrev pub scanned_coming : Option DmiComing → Option Coming
scanned_coming None = None
scanned_coming (Some coming) = Some (scans_of coming)

-- by the counts of faults before and behind, the far end before and behind, and what was to be heard before
abbrev pub DmiCause : ℕ → ℕ → Option Far → Option Far → Option DmiComing → DmiFault → Type 0
DmiCause old new was told coming (Wire fault) = ScanCause old new told (scanned_coming coming) fault
DmiCause old new was told coming Failed = IfSome was (λ f. LostOne (chip_of f) told) × IfSome coming (WhereScanned HeardFailed)
DmiCause old new was told coming StillBusy = IfSome was (λ f. FoundBusy (chip_of f) told) × IfSome coming (WhereScanned HeardBusy)

-- a register that is only scanned is never awaited
abbrev pub ScannedCause : ℕ → ℕ → Option Far → Option DmiComing → DmiFault → Type 0
ScannedCause old new told coming (Wire fault) = ScanCause old new told (scanned_coming coming) fault
ScannedCause old new told coming Failed = ⊥
ScannedCause old new told coming StillBusy = ⊥

-- only behind a fault of the wire the stream may be cut
abbrev pub LeavesStream : Option Far → DmiFault → Type 0
LeavesStream told (Wire fault) = Unit {0}
LeavesStream told Failed = CanQuit told
LeavesStream told StillBusy = CanQuit told
