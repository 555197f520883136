-- What a session leaves of a told chip where an access to memory failed: of mip, or of a block. Each law takes what a constructor of `Goes.Fault` says, at
-- its place. A store whose answer was lost was made, and the replay makes it.
-- RISC-V Debug Specification 1.0, "Program Buffer" and "System Bus Access".
use Rattle.std.specs.Prelude.{ℕ, List, Option, None}
use Rattle.rv_model.specs.declared.size.Size.{Size}
use Rattle.rv_model.specs.Board.{Machine}
use Rattle.debug_model.specs.declared.command.Path.{Path}
use Rattle.debug_model.specs.declared.command.Path.TheVariants.{Progbuf, Bus}
use Rattle.debug_model.specs.Told.{Far}
use Rattle.abstract_debugger.specs.Debugger.{showing_mip}
use Rattle.abstract_debugger.specs.Laws.{Quiet, WritesOnly}
use Rattle.abstract_debugger.specs.Lines.{Line}
use Rattle.abstract_debugger.specs.Plan.{Plan}
use Rattle.abstract_debugger.specs.Stands.{Origin}
use Rattle.abstract_debugger.specs.Ways.{Way}
use Rattle.probe_run.specs.Acts.{Tells}
use Rattle.probe_session.specs.declared.fault.Failure.{Failure}
use Rattle.probe_session.specs.BlockCalls.{BlockLoadFell, BlockStoreFell}
use Rattle.probe_session.specs.Blocks.{MayLoad, Stores}
use Rattle.probe_session.specs.Calls.{PendingFell}
use Rattle.probe_session.specs.Led.{DealsAt}
use Rattle.probe_session.specs.Places.{place, still}
use Rattle.cut_laws.specs.Cut.{LeftLosing, LeftWhole}

abbrev pub AskingPendingCut : Type 0
AskingPendingCut = (h : ℕ) (n : Option ℕ) (next : Plan) (old_count new_count : ℕ) (old new : Tells) (f : Failure)
    → PendingFell h old_count new_count old new f
    → (m : Machine) (o : Origin) (lines : List Line) → WritesOnly h n next → DealsAt m o (still h (showing_mip h next)) lines old.far
    → LeftLosing h n o new.far

-- ---- blocks

-- behind a fault of memory, and behind the whole block, the plan changes nothing up to its next point
abbrev pub QuietLoads : {path : Path} {size : Size} {address count : ℕ} {p : Plan} → MayLoad path size address count p → Type 0
QuietLoads (MayLoad.nothing {p = p}) = Quiet p
QuietLoads (MayLoad.further faulted read said next says may) = Quiet faulted × ((value : ℕ) → QuietLoads (may value))

abbrev pub QuietStores : {path : Path} {size : Size} {address : ℕ} {values : List ℕ} {p to : Plan} → Stores path size address values p to → Type 0
QuietStores (Stores.nothing {p = p}) = Quiet p
QuietStores (Stores.further faulted next rest) = Quiet faulted × QuietStores rest

-- an access by the place's hart loses its x8 and x9
abbrev pub LeftByPath : Path → (h : ℕ) → Origin → (new : Option Far) → Type 0
LeftByPath Progbuf h o new = LeftLosing h None o new
LeftByPath Bus h o new = LeftWhole o new

abbrev pub LoadingBlockCut : Type 0
LoadingBlockCut = (path : Path) (way : Way) (h : ℕ) (size : Size) (address count : ℕ) (p : Plan) (old_count new_count : ℕ) (old new : Tells) (f : Failure)
    → (may : MayLoad path size address count p) → QuietLoads may → BlockLoadFell path way h size address count old_count new_count old new f
    → (m : Machine) (o : Origin) (lines : List Line) → DealsAt m o (place way h p) lines old.far → LeftByPath path h o new.far

abbrev pub StoringBlockCut : Type 0
StoringBlockCut = (path : Path) (way : Way) (h : ℕ) (size : Size) (address : ℕ) (values : List ℕ) (p to : Plan) (old_count new_count : ℕ)
    (old new : Tells) (f : Failure) → (stores : Stores path size address values p to) → QuietStores stores
    → BlockStoreFell path way h size address values old_count new_count old new f
    → (m : Machine) (o : Origin) (lines : List Line) → DealsAt m o (place way h p) lines old.far → LeftByPath path h o new.far
