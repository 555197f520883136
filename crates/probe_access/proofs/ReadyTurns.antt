-- A ready site stays ready through turns.
use Rattle.std.proofs.Common.{◌≡◌, ◌∙◌, ◌++◌, ℕ, List, [], ◌∷◌, Option, Some, None, slice_get, refl, sym, ap, append_assoc, append-nil}
use Rattle.rv_model.specs.Board.{Board, Hart}
use Rattle.rv_model.specs.Turn.{place_of, turn_by}
use Rattle.probe_run.proofs.Asking.{Unasked, hart_turned, unasked_kept}
use Rattle.probe_run.proofs.Wide.{BoardWide, each_turns, wide_turns}
use Rattle.debug_model.specs.Deeds.{turned, turned_by}
use Rattle.debug_model.specs.Module.{Site}
use Rattle.rv_model.specs.Widths.{MemoryReady}
use Rattle.debug_model.specs.Told.{HartReady}
use Rattle.abstract_debugger.specs.Turns.{after_turns, turns}
use Rattle.probe_access.proofs.Aside.{passed}

-- ---- the turns of harts that are there

pub record Passed (s t : Site) : Type 0 where
  pub harts : List ℕ
  pub board : t.board ≡ after_turns harts s.board
  pub journal : t.journal ≡ s.journal ++ turns harts

turned_passed : (o : Option Hart) (g : ℕ) (s t : Site) → slice_get s.board.harts g ≡ o → Passed (turned_by o g s) t → Passed s t
turned_passed None g s t at p = p
turned_passed (Some x) g s t at p = record {
  harts = g ∷ p.harts;
  board = p.board ∙ ap (λ o. after_turns p.harts (turn_by o g s.board)) (sym at);
  journal = p.journal ∙ append_assoc s.journal _ (turns p.harts);
}

pub passed_turns : (harts : List ℕ) (s : Site) → Passed s (passed harts s)
unfolding passed
passed_turns [] s = record { harts = []; board = refl; journal = sym (append-nil s.journal) }
passed_turns (g ∷ harts) s = turned_passed (slice_get s.board.harts g) g s (passed harts (turned g s)) refl (passed_turns harts (turned g s))

-- ---- ready boards

pub record BoardReady (b : Board) : Type 0 where
  pub harts : (h : ℕ) (hart : Hart) → slice_get b.harts h ≡ Some hart → HartReady h hart
  pub memory : MemoryReady b.memory

each_by : (b : Board) → BoardReady b → BoardWide b
each_by b r = record {
  harts = λ h x is. record { whole = (r.harts h x is).whole; registers = (r.harts h x is).registers; compared = (r.harts h x is).compared };
  memory = r.memory;
}

unasked_turns : (harts : List ℕ) (b : Board) → ((h : ℕ) (x : Hart) → slice_get b.harts h ≡ Some x → Unasked x.debug) → (h : ℕ) (x : Hart)
    → slice_get (after_turns harts b).harts h ≡ Some x → Unasked x.debug
unasked_turns harts b u = each_turns (λ h x. Unasked x.debug) (λ j x m p. unasked_kept x.debug (place_of x m).hart.debug (hart_turned x m) p) harts b u

pub board_ready_turns : (harts : List ℕ) (b : Board) → BoardReady b → BoardReady (after_turns harts b)
board_ready_turns harts b r =
    let w : BoardWide (after_turns harts b) = wide_turns harts b (each_by b r) in
    let u = unasked_turns harts b (λ h x is. record { no_halt = (r.harts h x is).no_halt_request; no_resume = (r.harts h x is).no_resume_request }) in
    record {
      harts = λ h x is. record {
        no_halt_request = (u h x is).no_halt;
        no_resume_request = (u h x is).no_resume;
        whole = (w.harts h x is).whole;
        registers = (w.harts h x is).registers;
        compared = (w.harts h x is).compared;
      };
      memory = w.memory;
    }
