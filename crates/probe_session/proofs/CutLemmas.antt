-- Loaded values are ones of their size: what lies above it in what was handed out is left out.
use Rattle.std.proofs.Common.{◌≡◌, ◌<◌, ◌∙◌, ◌+◌, ◌^◌, ℕ, List, [], ◌∷◌, map, Option, Some, None, refl, sym, ap, subst, arith}
use Rattle.rv_model.specs.declared.size.Size.{Size}
use Rattle.rv_model.specs.declared.size.Size.TheVariants.{B1, B2, B4, B8}
use Rattle.rv_model.specs.Size.{count_of}
use Rattle.debug_model.specs.Module.{Site}
use Rattle.debug_model.specs.Scan.{WhereTold}
use Rattle.debug_model.specs.Told.{Far, IsReady, site_of}
use Rattle.abstract_debugger.specs.Turns.{after_turns}
use Rattle.probe_access.specs.Blocks.{BlockLoadRefused, BlockLoadedAt}
use Rattle.probe_access.specs.BusBlocks.{BusBlockLoadRefused, BusBlockLoadedAt}
use Rattle.probe_access.specs.BusRuns.{cut_to}
use Rattle.probe_access.proofs.ReadyTurns.{BoardReady, board_ready_turns}
use Rattle.rv_model.proofs.WideMemory.{loaded_small}
use Rattle.probe_session.proofs.BlockDeals.{EachLoaded, LoadedOnce, each_bus_loaded, each_loaded}

cut_same : (size : Size) (v : ℕ) → v < 256 ^ count_of size → cut_to size v ≡ v
cut_same B1 v small = omega arith
cut_same B2 v small = omega arith
cut_same B4 v small = omega arith
cut_same B8 v small = omega arith

-- an access that changes nothing leaves a board ready
ready_behind : (size : Size) (address value : ℕ) (s t : Site) → LoadedOnce size address value s t → BoardReady s.board → BoardReady t.board
ready_behind size address value s t one ready =
    let b : BoardReady (after_turns one.before s.board) = board_ready_turns one.before s.board ready in
    subst BoardReady (sym one.access.board) (board_ready_turns one.behind _ (record { harts = b.harts; memory = b.memory }))

all_same : (size : Size) {address : ℕ} (values : List ℕ) {s t : Site} → BoardReady s.board → EachLoaded size address s values t
    → map (cut_to size) values ≡ values
all_same size [] ready EachLoaded.nothing = refl
all_same size {address} (v ∷ values) {s} ready (EachLoaded.further m one each) =
    let b : BoardReady (after_turns one.before s.board) = board_ready_turns one.before s.board ready in
    let small : v < 256 ^ count_of size = loaded_small _ address size v b.memory one.value_is in
    ap (λ x. x ∷ map (cut_to size) values) (cut_same size v small)
    ∙ ap (λ (xs : List ℕ). v ∷ xs) (all_same size {address = address + count_of size} values (ready_behind size address v s m one ready) each)

board_of : (f : Far) → IsReady (Some f) → BoardReady (site_of f).board
board_of f ready = record { harts = ready.harts; memory = ready.memory }

-- ---- at the chip

pub loaded_cut : (size : Size) (address : ℕ) (held : List ℕ) (old new : Option Far) → IsReady old → WhereTold (BlockLoadedAt size address held) old new
    → WhereTold (BlockLoadedAt size address (map (cut_to size) held)) old new
loaded_cut size address held None new ready w = w
loaded_cut size address held (Some f) new ready w =
    subst (λ vs. BlockLoadedAt size address vs f.live.chip new)
    (sym (all_same size held (board_of f ready) (each_loaded size address (site_of f) (site_of w.far) held w.each))) w

pub refused_cut : (size : Size) (address : ℕ) (held : List ℕ) (old new : Option Far) → IsReady old
    → WhereTold (BlockLoadRefused size address held) old new → WhereTold (BlockLoadRefused size address (map (cut_to size) held)) old new
refused_cut size address held None new ready w = w
refused_cut size address held (Some f) new ready w =
    subst (λ vs. BlockLoadRefused size address vs f.live.chip new)
    (sym (all_same size held (board_of f ready) (each_loaded size address (site_of f) w.mid held w.each))) w

pub bus_loaded_cut : (size : Size) (address : ℕ) (held : List ℕ) (old new : Option Far) → IsReady old
    → WhereTold (BusBlockLoadedAt size address held) old new → WhereTold (BusBlockLoadedAt size address (map (cut_to size) held)) old new
bus_loaded_cut size address held None new ready w = w
bus_loaded_cut size address held (Some f) new ready w =
    subst (λ vs. BusBlockLoadedAt size address vs f.live.chip new)
    (sym (all_same size held (board_of f ready) (each_bus_loaded size address (site_of f) (site_of w.far) held w.each))) w

pub bus_refused_cut : (size : Size) (address : ℕ) (held : List ℕ) (old new : Option Far) → IsReady old
    → WhereTold (BusBlockLoadRefused size address held) old new → WhereTold (BusBlockLoadRefused size address (map (cut_to size) held)) old new
bus_refused_cut size address held None new ready w = w
bus_refused_cut size address held (Some f) new ready w =
    subst (λ vs. BusBlockLoadRefused size address vs f.live.chip new)
    (sym (all_same size held (board_of f ready) (each_bus_loaded size address (site_of f) w.mid held w.each))) w
