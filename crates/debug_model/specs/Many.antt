-- Several operations in one call: what the call does to a told chip, what is heard of a scripted one, and why it fails.
-- RISC-V Debug Specification 1.0, "Debug Module Interface Access": the scan that fetches the result of one operation carries the next, and one that finds the
-- transport busy is ignored. That each operation has 64 busy answers of its own is this project's choice.
use Rattle.std.specs.Prelude.{◌≡◌, ◌++◌, ℕ, suc, ◌<◌, ◌≤◌, List, [], ◌∷◌, length, map, Bool, true, false, Option, Some, None, IfSome}
use Rattle.debug_model.specs.declared.dmi.DmiFault.{DmiFault}
use Rattle.debug_model.specs.declared.dmi.DmiFault.TheVariants.{Wire, Failed, StillBusy}
use Rattle.debug_model.specs.declared.dmi_op.DmiOp.{DmiOp}
use Rattle.debug_model.specs.declared.dmi_op.DmiOp.TheVariants.{Read, Write}
use Rattle.debug_model.specs.Chip.{Chip}
use Rattle.debug_model.specs.Course.{Course, Happening, Operation, SitePath, Spans, each_once, performed}
use Rattle.debug_model.specs.Dmi.{
  AtMostOnce,
  DmiComing,
  FoundBusy,
  IsDmi,
  IsDtmcs,
  LostOne,
  Results,
  Scans,
  TookAll,
  WasBusy,
  WasDone,
  WhereScanned,
  busy_most,
  heard,
  scanned_coming,
  value_of,
}
use Rattle.debug_model.specs.Pacing.{Paced, PacedAlong, harts_in}
use Rattle.debug_model.specs.Scan.{Coming, ScanCause}
use Rattle.debug_model.specs.Told.{Far, chip_of, site_of}
use Rattle.debug_model.specs.TransportWords.{status_failed}

-- a call takes at most so many
abbrev pub operations_most : ℕ
operations_most = 128

-- ---- what a call did to a told chip

abbrev pub op_of : Operation → DmiOp
op_of o = o.op

abbrev pub answer_of : Operation → ℕ
answer_of o = value_of o.result

-- just these operations were put in flight and performed, each once and in this order, and these words are their results; and none was
-- lost: however many rounds passed, and however often the transport was found busy
pub record OperatedAll (ops : List DmiOp) (results : List ℕ) (c : Chip) (new : Option Far) : Type 0 where
  pub far : Far
  pub is : new ≡ Some far
  pub done : List Operation
  pub asked : map op_of done ≡ ops
  pub results_are : results ≡ map answer_of done
  pub path : Spans done c.inside (chip_of far).inside
  pub site : SitePath c.inside.works.site done (site_of far)
  pub pace : Paced c.inside → PacedAlong (harts_in c.inside) c.inside.works.site done (site_of far)

-- what may become of the first that was not finished; where all were, nothing more
abbrev pub NextAtMostOnce : List DmiOp → List Happening → Type 0
NextAtMostOnce [] happened = happened ≡ []
NextAtMostOnce (op ∷ ops) happened = AtMostOnce op happened

-- the first of these operations were performed, each once and in this order, the next at most once, and no other was put in flight
pub record OperationsCut (ops : List DmiOp) (c : Chip) (new : Option Far) : Type 0 where
  pub far : Far
  pub is : new ≡ Some far
  pub done : List Operation
  pub rest : List DmiOp
  pub asked : map op_of done ++ rest ≡ ops
  pub happened : List Happening
  pub path : Course c.inside (each_once done ++ happened) (chip_of far).inside
  pub once : NextAtMostOnce rest happened
  pub site : SitePath c.inside.works.site (done ++ performed happened) (site_of far)

-- ---- what is heard of a scripted link

-- the scans of several operations so far, with what came out: how many the transport has taken, how often in a row it was found busy since, each followed by
-- a scan of dtmcs, whether one is in flight, and the results of the others. One that found it busy was ignored.
pub data Streamed : ℕ → ℕ → Bool → List ℕ → List (List Bool) → Type 0 where
  none_yet : Streamed 0 0 false [] []
  found_busy : (taken busy : ℕ) (flight : Bool) (results : List ℕ) (outs : List (List Bool)) → Streamed taken busy flight results outs
      → (out cleared : List Bool) → IsDmi out → WasBusy out → IsDtmcs cleared
      → Streamed taken (suc busy) flight results (outs ++ (out ∷ cleared ∷ []))
  took_first : (busy : ℕ) (outs : List (List Bool)) → Streamed 0 busy false [] outs → busy < busy_most
      → (out : List Bool) → IsDmi out → WasDone out → Streamed 1 0 true [] (outs ++ (out ∷ []))
  took_next : (taken busy : ℕ) (results : List ℕ) (outs : List (List Bool)) → Streamed taken busy true results outs → busy < busy_most
      → (out : List Bool) → IsDmi out → WasDone out → Streamed (suc taken) 0 true (results ++ ((heard out).value ∷ [])) (outs ++ (out ∷ []))

-- the scans of so many operations, whose results these are
pub record FetchedAll (operations : ℕ) (results : List ℕ) (coming new : Coming) : Type 0 where
  pub busy_answers : ℕ
  pub few : busy_answers < busy_most
  pub earlier : List ℕ
  pub outs : List (List Bool)
  pub streamed : Streamed operations busy_answers true earlier outs
  pub out : List Bool
  pub width : IsDmi out
  pub done : WasDone out
  pub results_are : results ≡ earlier ++ ((heard out).value ∷ [])
  pub took : TookAll (outs ++ (out ∷ [])) coming new

-- a read answers the next number, and a write its data
abbrev pub TakesOne : DmiOp → ℕ → List ℕ → List ℕ → Type 0
TakesOne (Read address) value numbers new = numbers ≡ value ∷ new
TakesOne (Write address written) value numbers new = (value ≡ written) × (new ≡ numbers)

-- and so all of them, one after another
abbrev pub TookEach : List DmiOp → List ℕ → List ℕ → Option DmiComing → Type 0
TookEach [] results numbers new = (results ≡ []) × (new ≡ Some (Results numbers))
TookEach (op ∷ ops) results numbers new =
    (value : ℕ) × (more : List ℕ) × (others : List ℕ) × (results ≡ value ∷ more) × TakesOne op value numbers others × TookEach ops more others new

abbrev pub TookResults : List DmiOp → List ℕ → DmiComing → Option DmiComing → Type 0
TookResults ops results (Results numbers) new = TookEach ops results numbers new
TookResults ops results (Scans coming) new = (next : Coming) × FetchedAll (length ops) results coming next × (new ≡ Some (Scans next))

-- a call with these operations answered these results
abbrev pub AnswersAll : List DmiOp → List ℕ → Option DmiComing → Option DmiComing → Type 0
AnswersAll ops results None new = new ≡ None
AnswersAll ops results (Some coming) new = TookResults ops results coming new

-- ---- why a call failed. Behind a fault the link is not alive.

-- the last scan took out op 2, of so many operations
pub record HeardManyFailed (operations : ℕ) (coming : Coming) : Type 0 where
  pub taken : ℕ
  pub some : taken ≤ operations
  pub busy_answers : ℕ
  pub few : busy_answers < busy_most
  pub flight : Bool
  pub results : List ℕ
  pub outs : List (List Bool)
  pub streamed : Streamed taken busy_answers flight results outs
  pub out : List Bool
  pub width : IsDmi out
  pub failed : (heard out).op ≡ status_failed
  pub new : Coming
  pub took : TookAll (outs ++ (out ∷ [])) coming new

-- 64 scans in a row took out op 3 or op 1
pub record HeardManyBusy (operations : ℕ) (coming : Coming) : Type 0 where
  pub taken : ℕ
  pub some : taken ≤ operations
  pub flight : Bool
  pub results : List ℕ
  pub outs : List (List Bool)
  pub streamed : Streamed taken busy_most flight results outs
  pub new : Coming
  pub took : TookAll outs coming new

-- by how many operations were asked for, the counts of faults before and behind, the far end before and behind, and what was to be heard before
abbrev pub ManyCause : ℕ → ℕ → ℕ → Option Far → Option Far → Option DmiComing → DmiFault → Type 0
ManyCause operations old new was told coming (Wire fault) = ScanCause old new told (scanned_coming coming) fault
ManyCause operations old new was told coming Failed =
    IfSome was (λ f. LostOne (chip_of f) told) × IfSome coming (WhereScanned (HeardManyFailed operations))
ManyCause operations old new was told coming StillBusy =
    IfSome was (λ f. FoundBusy (chip_of f) told) × IfSome coming (WhereScanned (HeardManyBusy operations))
