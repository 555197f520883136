-- What an object that carries a link may tell of its far end: the chip, and its answers that are not read yet.
-- The named conditions recur in the contracts of the links; each of them holds of an object that tells no chip.
use Rattle.std.specs.Prelude.{◌≡◌, ◌<◌, ◌^◌, ℕ, List, [], false, true, Option, None, Some, IfSome, slice_get, is_some}
use Rattle.rv_model.specs.declared.slot.Slot.{Slot}
use Rattle.rv_model.specs.Board.{Board, Hart, IsHart}
use Rattle.rv_model.specs.DebugRegisters.{debug_value}
use Rattle.rv_model.specs.Widths.{MemoryReady}
use Rattle.debug_model.specs.declared.chip_end.ChipEnd.{ChipEnd}
use Rattle.debug_model.specs.declared.chip_end.ChipEnd.TheVariants.{Quitted, BadByte, AtLimit}
use Rattle.debug_model.specs.declared.cmderr.Cmderr.TheVariants as cmderr
use Rattle.debug_model.specs.declared.sberror.Sberror.TheVariants as sberror
use Rattle.debug_model.specs.declared.sticky.Sticky.TheVariants.{Clear}
use Rattle.debug_model.specs.declared.tap_state.TapState.TheVariants.{RunTestIdle}
use Rattle.debug_model.specs.Chip.{Chip, Live}
use Rattle.debug_model.specs.Commands.{CommandUnit, no_auto}
use Rattle.debug_model.specs.Loaded.{AsLoaded}
use Rattle.debug_model.specs.Module.{DebugModule, Site}
use Rattle.debug_model.specs.SystemBus.{BusUnit}
use Rattle.debug_model.specs.Transport.{Dtm}

pub record Far : Type 0 where
  pub live : Live
  pub unread : List ℕ

-- a far end that has answered all that was asked
abbrev pub read_out : Live → Far
read_out l = record { live = l; unread = [] }

abbrev pub chip_of : Far → Chip
chip_of f = f.live.chip

abbrev pub site_of : Far → Site
site_of f = f.live.chip.inside.works.site

-- ---- ends

-- neither `Q` nor a byte that isn't a sign: a chip at its limit may still be sent to
abbrev pub StaysOpen : Option ChipEnd → Type 0
StaysOpen None = Unit {0}
StaysOpen (Some AtLimit) = Unit {0}
StaysOpen (Some Quitted) = ⊥
StaysOpen (Some (BadByte b)) = ⊥

-- ---- a ready chip

-- no register of the commands asks for anything, and none is under way
pub record CommandsReady (u : CommandUnit) : Type 0 where
  pub idle : u.steps ≡ []
  pub fine : u.error ≡ cmderr.Fine
  pub no_autoexec : u.auto ≡ no_auto
  pub none_late : u.late ≡ false

pub record BusReady (u : BusUnit) : Type 0 where
  pub idle : u.pending ≡ None
  pub fine : u.error ≡ sberror.Fine
  pub no_busyerror : u.busyerror ≡ false

pub record ModuleReady (m : DebugModule) : Type 0 where
  pub active : m.active ≡ true
  pub commands : CommandsReady m.commands
  pub bus : BusReady m.bus

-- no request waits at the hart, it is whole, and each of its registers has at most 64 bits
pub record HartReady (h : ℕ) (hart : Hart) : Type 0 where
  pub no_halt_request : hart.debug.halt_request ≡ false
  pub no_resume_request : hart.debug.resume_request ≡ false
  pub whole : IsHart h hart
  pub registers : (number value : ℕ) → debug_value hart number ≡ Some value → value < 2 ^ 64
  pub compared : (slot : ℕ) (s : Slot) → slice_get hart.debug.slots slot ≡ Some s → s.tdata2 < 2 ^ 64

pub record SiteReady (s : Site) : Type 0 where
  pub unit : ModuleReady s.unit
  pub harts : (h : ℕ) (hart : Hart) → slice_get s.board.harts h ≡ Some hart → HartReady h hart
  pub memory : MemoryReady s.board.memory

-- hart h is there, and halted
pub record HartHalted (h : ℕ) (b : Board) : Type 0 where
  pub hart : Hart
  pub is : slice_get b.harts h ≡ Some hart
  pub halted : is_some hart.debug.halted ≡ true

-- hart h is there
abbrev pub HartExists : ℕ → Board → Type 0
HartExists h b = is_some (slice_get b.harts h) ≡ true

-- ---- a clean transport

pub record DtmClean (d : Dtm) : Type 0 where
  pub none_in_flight : d.flight ≡ None
  pub clear : d.sticky ≡ Clear
  pub not_failed : d.failed ≡ false

-- ---- the conditions, where told

-- the chip is as it was loaded
abbrev pub IsAsLoaded : Option Far → Type 0
IsAsLoaded told = IfSome told (λ f. AsLoaded f.live)

-- no `Q` and no byte that isn't a sign has ended the chip
abbrev pub IsOpen : Option Far → Type 0
IsOpen told = IfSome told (λ f. StaysOpen f.live.ended)

-- nothing has ended the chip
abbrev pub IsLive : Option Far → Type 0
IsLive told = IfSome told (λ f. f.live.ended ≡ None)

-- the chip is told, and has met its limit
abbrev pub MetLimit : Option Far → Type 0
MetLimit None = ⊥
MetLimit (Some f) = f.live.ended ≡ Some AtLimit

-- no answer is unread
abbrev pub IsRead : Option Far → Type 0
IsRead told = IfSome told (λ f. f.unread ≡ [])

-- the TAP stands in Run-Test/Idle
abbrev pub IsIdle : Option Far → Type 0
IsIdle told = IfSome told (λ f. (chip_of f).port.state ≡ RunTestIdle)

-- no operation is in flight, the sticky status is 0, and the last result is no failed one
abbrev pub IsClean : Option Far → Type 0
IsClean told = IfSome told (λ f. DtmClean (chip_of f).inside.works.dtm)

-- nothing is under way, no error is set, no request waits
abbrev pub IsReady : Option Far → Type 0
IsReady told = IfSome told (λ f. SiteReady (site_of f))

-- hart h is selected
abbrev pub Selects : ℕ → Option Far → Type 0
Selects h told = IfSome told (λ f. (site_of f).unit.hartsel ≡ h)

-- hart h is halted
abbrev pub IsHalted : ℕ → Option Far → Type 0
IsHalted h told = IfSome told (λ f. HartHalted h (site_of f).board)

-- TRST is 0
abbrev pub IsFree : Option Far → Type 0
IsFree told = IfSome told (λ f. (chip_of f).port.held ≡ false)
