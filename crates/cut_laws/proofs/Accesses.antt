-- Turns, or an access among turns, with a halted hart changed beside them: the chip's machine is that without the change, but for what may be lost.
use Rattle.std.proofs.Common.{◌≡◌, ◌∙◌, ◌++◌, ◌∷◌, ℕ, List, Option, Result, Ok, Err, refl, sym, ap}
use Rattle.std.specs.Prelude.{⊤}
use Rattle.rv_model.specs.declared.mem_fault.MemFault.{MemFault}
use Rattle.rv_model.specs.declared.size.Size.{Size}
use Rattle.rv_model.specs.Board.{Board, Hart, Machine, machine_of}
use Rattle.rv_model.specs.Memory.{Memory, after_store, loaded, store_answer}
use Rattle.rv_model.specs.Size.{count_of}
use Rattle.rv_model.proofs.MemoryLemmas.{after_store_refused, after_store_taken}
use Rattle.debug_model.specs.declared.point.Point.TheVariants.{Access}
use Rattle.debug_model.specs.Module.{Site}
use Rattle.abstract_debugger.specs.Debugger.{by_load, by_store}
use Rattle.abstract_debugger.specs.Laws.{IsFrozenAt, Quiet}
use Rattle.abstract_debugger.specs.Lines.{Line}
use Rattle.abstract_debugger.specs.Plan.{Plan}
use Rattle.abstract_debugger.specs.Plan.Change.{WriteMem}
use Rattle.abstract_debugger.specs.Plan.Plan.{change, see, take}
use Rattle.abstract_debugger.specs.Stands.{Deals, Origin, Target}
use Rattle.abstract_debugger.specs.Turns.{after_turns, turns}
use Rattle.abstract_debugger.specs.Ways.{Way}
use Rattle.abstract_debugger.proofs.DealsLemmas.{deals_loaded, deals_stored}
use Rattle.abstract_debugger.proofs.FrozenLemmas.{stays_same}
use Rattle.abstract_debugger.proofs.StandsLemmas.{at_plan}
use Rattle.probe_access.specs.Accesses.{with_memory}
use Rattle.probe_access.specs.Cuts.{LeftAside, LeftBehind, Scratched}
use Rattle.probe_run.specs.Happens.{target_of}
use Rattle.left_laws.specs.Left.{Spared, scratch, wiped}
use Rattle.left_laws.proofs.Puts.{stays_between}
use Rattle.left_laws.proofs.RegisterLemmas.{alone_both}
use Rattle.cut_laws.specs.Cut.{EndsBut, lost, to_write}
use Rattle.cut_laws.proofs.Ends.{quiet_ends}
use Rattle.cut_laws.proofs.Wiping.{Loses, alike_put, scratch_loses}

pub scratched_loses : (n : Option ℕ) (x y : Hart) → Scratched x y → Loses n x.core y.core
scratched_loses n x y s = scratch_loses n x.core y.core (alone_both x y s.x8 s.x9 s.is).core

-- where a chip stands behind an access among turns that left this memory
abbrev pub behind_access : List ℕ → List ℕ → Memory → Site → Site → Target
behind_access before behind k s t = record { board = after_turns behind (with_memory k (after_turns before s.board)); journal = t.journal }

-- ---- the chip's side

pub aside_alike : (Y : Hart → Hart → Type 0) (h : ℕ) (n : Option ℕ) (s t : Site) → IsFrozenAt h s.board → ((x y : Hart) → Y x y → Loses n x.core y.core)
    → (c : LeftAside Y h s t) → wiped (lost h n) (machine_of (after_turns c.harts s.board)) ≡ wiped (lost h n) (machine_of t.board)
aside_alike Y h n s t frozen loses c =
    sym (ap (λ b. wiped (lost h n) (machine_of b)) c.board
    ∙ alike_put (to_write n ++ scratch) h c.hart c.left (after_turns c.harts s.board) (stays_same h s.board c.harts frozen ∙ c.here)
    (loses c.hart c.left c.one))

pub behind_alike : (Y : Hart → Hart → Type 0) (N : Memory → Memory → Type 0) (h : ℕ) (n : Option ℕ) (s t : Site) → IsFrozenAt h s.board
    → ((x y : Hart) → Y x y → Loses n x.core y.core) → (c : LeftBehind Y N h s t)
    → wiped (lost h n) (machine_of (behind_access c.before c.behind c.memory s t).board) ≡ wiped (lost h n) (machine_of t.board)
behind_alike Y N h n s t frozen loses c =
    let b : Board = (behind_access c.before c.behind c.memory s t).board in
    sym (ap (λ z. wiped (lost h n) (machine_of z)) c.board
    ∙ alike_put (to_write n ++ scratch) h c.hart c.left b (stays_between h c.before c.behind c.memory s.board frozen ∙ c.here) (loses c.hart c.left c.one))

-- ---- the replay's side

by_load_quiet : (r : Result ℕ MemFault) (faulted : Plan) (read : ℕ → Plan) → Quiet faulted → ((v : ℕ) → Quiet (read v)) → Quiet (by_load r faulted read)
by_load_quiet (Ok v) faulted read fault reads = reads v
by_load_quiet (Err why) faulted read fault reads = fault

-- a load was made, whatever it met
pub load_ends : (sp : Spared) (m : Machine) (h : ℕ) (way : Way) (size : Size) (address : ℕ) (o : Origin) (faulted : Plan) (read : ℕ → Plan)
    (lines : List Line) (before behind : List ℕ) (k : Memory) (s t : Site) → Quiet faulted → ((v : ℕ) → Quiet (read v))
    → k ≡ (after_turns before s.board).memory → t.journal ≡ (s.journal ++ turns before) ++ Access ∷ turns behind
    → Deals m h way o (take Access (see (λ b. by_load (loaded b.memory address size) faulted read))) lines (target_of s)
    → EndsBut sp o (behind_access before behind k s t)
load_ends sp m h way size address o faulted read lines before behind k s t fault reads is journal d =
    let b : Board = after_turns before s.board in
    quiet_ends sp o (by_load (loaded b.memory address size) faulted read) lines (behind_access before behind k s t)
    (by_load_quiet (loaded b.memory address size) faulted read fault reads)
    (deals_loaded m h way o (λ c. by_load (loaded c.memory address size) faulted read) lines (target_of s) (behind_access before behind k s t) d
    (record { before = before; behind = behind; board = ap (λ j. after_turns behind (with_memory j b)) is; journal = journal })).stands

-- and a store, which the plan makes where memory takes it
store_by : (r : Result ⊤ MemFault) (sp : Spared) (m : Machine) (h : ℕ) (way : Way) (size : Size) (address value : ℕ) (o : Origin) (faulted stored : Plan)
    (lines : List Line) (before behind : List ℕ) (k : Memory) (s t : Site) → store_answer (after_turns before s.board).memory address size ≡ r
    → Quiet faulted → Quiet stored
    → k ≡ after_store (after_turns before s.board).memory address size value → t.journal ≡ (s.journal ++ turns before) ++ Access ∷ turns behind
    → Deals m h way o (take Access (see (λ b. by_store (store_answer b.memory address size) faulted (change (WriteMem address (count_of size) value) stored))))
    lines (target_of s)
    → EndsBut sp o (behind_access before behind k s t)
store_by (Ok tt) sp m h way size address value o faulted stored lines before behind k s t is fault stores made journal d =
    let b : Board = after_turns before s.board in
    quiet_ends sp o stored lines (behind_access before behind k s t) stores
    (deals_stored m h way o address (count_of size) value (λ c. by_store (store_answer c.memory address size) faulted
    (change (WriteMem address (count_of size) value) stored)) stored lines (target_of s) (behind_access before behind k s t) d
    (record {
      before = before;
      behind = behind;
      board = ap (λ j. after_turns behind (with_memory j b)) (made ∙ after_store_taken b.memory address size value is);
      journal = journal;
    })
    (ap (λ r. by_store r faulted (change (WriteMem address (count_of size) value) stored)) is)).stands
store_by (Err why) sp m h way size address value o faulted stored lines before behind k s t is fault stores made journal d =
    let b : Board = after_turns before s.board in
    let next : Board → Plan = λ c. by_store (store_answer c.memory address size) faulted (change (WriteMem address (count_of size) value) stored) in
    quiet_ends sp o faulted lines (behind_access before behind k s t) fault
    (at_plan o (next b) faulted lines (behind_access before behind k s t)
    (ap (λ r. by_store r faulted (change (WriteMem address (count_of size) value) stored)) is)
    (deals_loaded m h way o next lines (target_of s) (behind_access before behind k s t) d
    (record {
      before = before;
      behind = behind;
      board = ap (λ j. after_turns behind (with_memory j b)) (made ∙ after_store_refused b.memory address size value why is);
      journal = journal;
    })).stands)

pub store_ends : (sp : Spared) (m : Machine) (h : ℕ) (way : Way) (size : Size) (address value : ℕ) (o : Origin) (faulted stored : Plan)
    (lines : List Line) (before behind : List ℕ) (k : Memory) (s t : Site) → Quiet faulted → Quiet stored
    → k ≡ after_store (after_turns before s.board).memory address size value → t.journal ≡ (s.journal ++ turns before) ++ Access ∷ turns behind
    → Deals m h way o (take Access (see (λ b. by_store (store_answer b.memory address size) faulted (change (WriteMem address (count_of size) value) stored))))
    lines (target_of s)
    → EndsBut sp o (behind_access before behind k s t)
store_ends sp m h way size address value o faulted stored lines before behind k s t fault stores made journal d =
    store_by (store_answer (after_turns before s.board).memory address size) sp m h way size address value o faulted stored lines before behind k s t refl
    fault stores made journal d
