-- What lies between two states of a chip: the path of atomic steps, and the DMI operations that were put in flight, performed and lost on the way.
-- It is this project's own word for the steps that RISC-V Debug Specification 1.0 leaves to the chip's time.
use Rattle.std.specs.Prelude.{◌≡◌, ℕ, Bool, List, [], ◌∷◌, ◌++◌, Option, Some, None}
use Rattle.debug_model.specs.declared.data_register.DataRegister.{DataRegister}
use Rattle.debug_model.specs.declared.data_register.DataRegister.TheVariants as register
use Rattle.debug_model.specs.declared.dmi_op.DmiOp.{DmiOp}
use Rattle.debug_model.specs.declared.event.Event.{Event}
use Rattle.debug_model.specs.declared.event.Event.TheVariants.{Turn, DmiDone, DmiFail, CmdStep, BusDone}
use Rattle.debug_model.specs.declared.sticky.Sticky.{Sticky}
use Rattle.debug_model.specs.declared.sticky.Sticky.TheVariants.{Clear, Failed, Busy}
use Rattle.jt_base.specs.BitList.{number_of}
use Rattle.debug_model.specs.Deeds.{Deed, after_deed, ran}
use Rattle.debug_model.specs.Module.{Site, operated, operation_result}
use Rattle.debug_model.specs.Chip.{Inside, Works, after_event, counted, tick}
use Rattle.debug_model.specs.Scan.{capture, dtm_of, update}
use Rattle.debug_model.specs.Schedule.{round_of}
use Rattle.debug_model.specs.Transport.{Dtm, operation_of}
use Rattle.debug_model.specs.TransportWords.{dmi_of}

-- ---- what happens to operations

pub data Happening : Type 0 where
  Launched : (op : DmiOp) → Happening  -- put in flight
  Performed : (op : DmiOp) → (result : ℕ) → Happening
  Lost : (op : DmiOp) → Happening  -- dropped unperformed

abbrev pub performs : Option DmiOp → Site → List Happening
performs (Some op) s = Performed op (operation_result op s) ∷ []
performs None s = []

abbrev pub loses : Option DmiOp → List Happening
loses (Some op) = Lost op ∷ []
loses None = []

abbrev pub in_event : Event → Works → List Happening
in_event (Turn h) w = []
in_event DmiDone w = performs w.dtm.flight w.site
in_event DmiFail w = loses w.dtm.flight
in_event CmdStep w = []
in_event BusDone w = []

unfoldable pub in_events : List Event → Works → List Happening
in_events [] w = []
in_events (e ∷ es) w = in_event e w ++ in_events es (after_event e w)

-- in the next round of the schedule
abbrev pub in_round : Inside → List Happening
in_round i = in_events (round_of i.plan) (counted i.works)

abbrev pub launches_by : Sticky → Option DmiOp → List Happening
launches_by Clear (Some op) = Launched op ∷ []
launches_by Clear None = []
launches_by Failed op = []
launches_by Busy op = []

-- at an update of the selected register with these bits
abbrev pub in_update : DataRegister → List Bool → Dtm → List Happening
in_update register.Dmi bits d = launches_by d.sticky (operation_of (dmi_of (number_of bits)))
in_update register.Dtmcs bits d = []
in_update register.Idcode bits d = []
in_update register.Bypass bits d = []

-- ---- the path

-- rounds, captures and updates lead from one state to the other, and this happened to operations on the way, in order
pub data Course (i : Inside) : List Happening → Inside → Type 0 where
  nothing : Course i [] i
  round : (hs : List Happening) → (j : Inside) → Course i hs j → Course i (hs ++ in_round j) (tick j)
  captured : (r : DataRegister) → (hs : List Happening) → (j : Inside) → Course i hs j → Course i hs (capture r j)
  updated : (r : DataRegister) → (bits : List Bool) → (hs : List Happening) → (j : Inside) → Course i hs j
      → Course i (hs ++ in_update r bits (dtm_of j)) (update r bits j)

-- an operation, and its result
pub record Operation : Type 0 where
  pub op : DmiOp
  pub result : ℕ

abbrev pub each_once : List Operation → List Happening
each_once [] = []
each_once (o ∷ os) = Launched o.op ∷ Performed o.op o.result ∷ each_once os

-- just these operations were put in flight and performed, each once and in this order, and none was lost
abbrev pub Spans : List Operation → Inside → Inside → Type 0
Spans os i j = Course i (each_once os) j

-- ---- what stands behind the transport sees of it

abbrev pub performed_in : Happening → List Operation
performed_in (Launched op) = []
performed_in (Performed op result) = record { op = op; result = result } ∷ []
performed_in (Lost op) = []

abbrev pub performed : List Happening → List Operation
performed [] = []
performed (h ∷ hs) = performed_in h ++ performed hs

-- deeds and operations lead from one site to the other; these operations were performed, with these results
pub data SitePath (s : Site) : List Operation → Site → Type 0 where
  nowhere : SitePath s [] s
  did : (d : Deed) → (os : List Operation) → (t : Site) → SitePath s os t → SitePath s os (after_deed d t)
  did_operation : (op : DmiOp) → (os : List Operation) → (t : Site) → SitePath s os t
      → SitePath s (os ++ record { op = op; result = operation_result op t } ∷ []) (operated op t)

-- what stands behind the transport is as deeds alone leave it
pub record DeedsAlone (s t : Site) : Type 0 where
  pub deeds : List Deed
  pub is : t ≡ ran deeds s

-- deeds, one operation with this result, and deeds
pub record OneOperation (op : DmiOp) (result : ℕ) (s t : Site) : Type 0 where
  pub before : List Deed
  pub behind : List Deed
  pub is : t ≡ ran behind (operated op (ran before s))
  pub result_is : result ≡ operation_result op (ran before s)

-- ---- laws

-- every path of a chip is a path of its site, with the operations that were performed
abbrev pub CoursesAreSitePaths : Type 0
CoursesAreSitePaths = (i j : Inside) (hs : List Happening) → Course i hs j → SitePath i.works.site (performed hs) j.works.site

-- a path without an operation is deeds alone
abbrev pub NoOperationIsDeeds : Type 0
NoOperationIsDeeds = (s t : Site) → SitePath s [] t → DeedsAlone s t

-- and one with one operation is that operation between deeds
abbrev pub OneOperationBetweenDeeds : Type 0
OneOperationBetweenDeeds = (s t : Site) (o : Operation) → SitePath s (o ∷ []) t → OneOperation o.op o.result s t
