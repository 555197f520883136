-- One access after the other, with the hart that makes them held aside: each leads from one base to the next, and turns alone lead on to where it stands.
use Rattle.std.proofs.Common.{◌≡◌, ◌∙◌, ◌<◌, ◌++◌, ℕ, List, [], ◌∷◌, length, sym, ap, subst, append_assoc, arith}
use Rattle.rv_model.specs.declared.size.Size.{Size}
use Rattle.rv_model.specs.Board.{Board, Hart}
use Rattle.rv_model.specs.Memory.{Memory}
use Rattle.rv_model.specs.Widths.{MemoryReady}
use Rattle.debug_model.specs.declared.point.Point.{Point}
use Rattle.debug_model.specs.declared.point.Point.TheVariants.{Access}
use Rattle.debug_model.specs.Module.{DebugModule, Site}
use Rattle.debug_model.specs.SystemBus.{BusUnit}
use Rattle.abstract_debugger.specs.Turns.{after_turns, turns}
use Rattle.abstract_debugger.proofs.StandsLemmas.{after_turns-append, turns-append}
use Rattle.probe_access.specs.Accesses.{OneAccess, with_memory}
use Rattle.probe_access.specs.Blocks.{LoadedEach, NotLoadedOne, NotStoredOne, StoredEach}
use Rattle.probe_access.specs.Blocks.LoadedEach.{nothing as none_loaded, further as loaded_further}
use Rattle.probe_access.specs.Blocks.StoredEach.{nothing as none_stored, further as stored_further}
use Rattle.probe_access.specs.Registers.{TurnsPassed}
use Rattle.probe_access.proofs.Aside.{accessed, passed}
use Rattle.probe_access.proofs.ReadyTurns.{BoardReady, Passed, board_ready_turns, passed_turns}
use Rattle.probe_access.proofs.ReadyUnit.{Kept}
use Rattle.probe_access.proofs.RegAnswers.{stood_board}
use Rattle.probe_access.proofs.RegisterTold.{Stood}
use Rattle.probe_access.proofs.Turns.{unit_passed}

-- ---- one access

pub access_on : (M : Memory → Memory) (before : List ℕ) (n : Memory) (base : Site) → n ≡ M (passed before base).board.memory
    → OneAccess M (passed_turns before base).harts [] base (accessed n (passed before base))
access_on M before n base is =
    let p : Passed base (passed before base) = passed_turns before base in
    record {
      board = ap (λ (o : Memory). with_memory o (passed before base).board) is ∙ ap (λ (b : Board). with_memory (M b.memory) b) p.board;
      journal = ap (λ (j : List Point). j ++ Access ∷ []) p.journal;
      bus = ap (λ (m : DebugModule). m.bus) (unit_passed before base);
    }

pub access_ready : (before : List ℕ) (n : Memory) (base : Site) → BoardReady base.board → (MemoryReady (passed before base).board.memory → MemoryReady n)
    → BoardReady (accessed n (passed before base)).board
access_ready before n base ready memory =
    let p : Passed base (passed before base) = passed_turns before base in
    let r : BoardReady (passed before base).board = subst (λ (b : Board). BoardReady b) (sym p.board) (board_ready_turns p.harts base.board ready) in
    record { harts = r.harts; memory = memory r.memory }

pub passed_ready : (before : List ℕ) (base : Site) → BoardReady base.board → BoardReady (passed before base).board
passed_ready before base ready =
    let p : Passed base (passed before base) = passed_turns before base in
    subst (λ (b : Board). BoardReady b) (sym p.board) (board_ready_turns p.harts base.board ready)

-- ---- turns behind it

pub stood_turns : (h : ℕ) (bus : BusUnit) (x : Hart) (base : Site) (k : Kept) (t : Site) → base.unit.bus ≡ bus → Stood h bus x base x k t → TurnsPassed base t
stood_turns h bus x base k t bus_is st =
    let p : Passed base (passed st.at.harts base) = passed_turns st.at.harts base in
    record {
      harts = p.harts;
      board = stood_board h bus base x k t st ∙ p.board;
      journal = ap (λ (u : Site). u.journal) st.at.is ∙ p.journal;
      bus = ap (λ (u : Site). u.unit.bus) st.at.is ∙ sym bus_is;
    }

pub turns_ready : (base t : Site) → TurnsPassed base t → BoardReady base.board → BoardReady t.board
turns_ready base t p ready = subst (λ (b : Board). BoardReady b) (sym p.board) (board_ready_turns p.harts base.board ready)

access_more : (M : Memory → Memory) (before behind : List ℕ) (s m t : Site) → OneAccess M before behind s m → (p : TurnsPassed m t)
    → OneAccess M before (behind ++ p.harts) s t
access_more M before behind s m t a p = record {
  board = p.board ∙ ap (after_turns p.harts) a.board ∙ sym (after_turns-append behind p.harts _);
  journal =
      p.journal ∙ ap (λ (j : List Point). j ++ turns p.harts) a.journal ∙ append_assoc (s.journal ++ turns before) (Access ∷ turns behind) (turns p.harts)
      ∙ ap (λ (j : List Point). (s.journal ++ turns before) ++ Access ∷ j) (sym (turns-append behind p.harts));
  bus = p.bus ∙ a.bus;
}

pub loaded_more : (size : Size) (address : ℕ) (s : Site) (values : List ℕ) (m t : Site) → LoadedEach size address s values m → 0 < length values
    → TurnsPassed m t → LoadedEach size address s values t
loaded_more size address s _ m t none_loaded some p = absurd (omega arith)
loaded_more size address s _ m t (loaded_further values value mid _ each one) some p =
    loaded_further values value mid t each
    (record {
      before = one.before;
      behind = one.behind ++ p.harts;
      value_is = one.value_is;
      access = access_more _ one.before one.behind mid m t one.access p;
    })

pub not_loaded_more : (size : Size) (at : ℕ) (s m t : Site) → NotLoadedOne size at s m → TurnsPassed m t → NotLoadedOne size at s t
not_loaded_more size at s m t one p = record {
  before = one.before;
  behind = one.behind ++ p.harts;
  why = one.why;
  refused = one.refused;
  access = access_more _ one.before one.behind s m t one.access p;
}

pub stored_more : (size : Size) (address value n : ℕ) (s m t : Site) → StoredEach size address value s n m → 0 < n → TurnsPassed m t
    → StoredEach size address value s n t
stored_more size address value _ s m t none_stored some p = absurd (omega arith)
stored_more size address value _ s m t (stored_further n mid _ each one) some p =
    stored_further n mid t each
    (record {
      before = one.before;
      behind = one.behind ++ p.harts;
      done = one.done;
      taken = one.taken;
      access = access_more _ one.before one.behind mid m t one.access p;
    })

pub not_stored_more : (size : Size) (at : ℕ) (s m t : Site) → NotStoredOne size at s m → TurnsPassed m t → NotStoredOne size at s t
not_stored_more size at s m t one p = record {
  before = one.before;
  behind = one.behind ++ p.harts;
  why = one.why;
  refused = one.refused;
  access = access_more _ one.before one.behind s m t one.access p;
}
