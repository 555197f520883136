-- Where nothing is lost: turns, points, Looks, and changes of a debug part are paths, one behind another.
use Rattle.std.proofs.Common.{◌≡◌, ◌∙◌, ℕ, Bool, List, [], ◌∷◌, ◌++◌, refl, sym, ap, subst}
use Rattle.std.proofs.Common.{append_assoc, append-nil}
use Rattle.rv_model.specs.Board.{Board, DebugPart}
use Rattle.debug_model.specs.Journal.{after_point}
use Rattle.debug_model.specs.declared.point.Point.{Point}
use Rattle.debug_model.specs.declared.point.Point.TheVariants.{Look, HaltReq, HaltClear}
use Rattle.abstract_debugger.specs.Debugger.{Seen as Sight}
use Rattle.abstract_debugger.specs.Plan.{hart_over, with_debug_part}
use Rattle.abstract_debugger.specs.Stands.{Cut, Looked, Pointed, Rewrote, Target, WentOn}
use Rattle.abstract_debugger.specs.Stands.Cut.{before, behind}
use Rattle.abstract_debugger.specs.Turns.{after_turns, turns}
use Rattle.probe_run.specs.Happens.{HaltCut, HaltsAt, InVain, LookCut, MetAt, MissedAt, RunCut}
use Rattle.probe_run.specs.Happens.HaltCut.{before_halt, at_clear}
use Rattle.probe_run.specs.Happens.InVain.{none, again}
use Rattle.probe_run.specs.Happens.RunCut.{at_request, at_look}
use Rattle.left_laws.specs.Left.{IsAmong, InScope, LeavesRunning, LeftBut, Lives, Scope, Spared}
use Rattle.left_laws.specs.Left.Lives.{stays, takes, changes}
use Rattle.left_laws.proofs.PathLemmas.{lives_then, lives_turns}

-- a path to the very board
pub record Led (s : Scope) (old new : Target) : Type 0 where
  pub points : List Point
  pub lives : Lives s old.board points new.board
  pub journal : new.journal ≡ old.journal ++ points

-- nothing is lost, so that it may be said that anything is
pub led_left : (s : Scope) (spared : Spared) (old new : Target) → Led s old new → LeftBut s spared old new
led_left s spared old new l =
    record { points = l.points; board = new.board; lives = l.lives; journal = l.journal; alike = refl; parts = refl }

-- ---- one behind another

pub led_then : (s : Scope) (old mid new : Target) → Led s old mid → Led s mid new → Led s old new
led_then s old mid new a b = record {
  points = a.points ++ b.points;
  lives = lives_then s old.board mid.board new.board a.points b.points a.lives b.lives;
  journal = b.journal ∙ ap (λ (j : List Point). j ++ b.points) a.journal ∙ append_assoc old.journal a.points b.points;
}

pub led_but : (s : Scope) (spared : Spared) (old mid new : Target) → Led s old mid → LeftBut s spared mid new → LeftBut s spared old new
led_but s spared old mid new a b = record {
  points = a.points ++ b.points;
  board = b.board;
  lives = lives_then s old.board mid.board b.board a.points b.points a.lives b.lives;
  journal = b.journal ∙ ap (λ (j : List Point). j ++ b.points) a.journal ∙ append_assoc old.journal a.points b.points;
  alike = b.alike;
  parts = b.parts;
}

pub led_stays : (s : Scope) (t : Target) → Led s t t
led_stays s t = record { points = []; lives = stays t.board; journal = sym (append-nil t.journal) }

-- ---- turns, and a point among them

pub led_turns : (s : Scope) (harts : List ℕ) (old new : Target) → new.board ≡ after_turns harts old.board → new.journal ≡ old.journal ++ turns harts
    → Led s old new
led_turns s harts old new board journal = record {
  points = turns harts;
  lives = subst (λ b. Lives s old.board (turns harts) b) (sym board) (lives_turns s harts old.board);
  journal = journal;
}

pub led_went : (s : Scope) (old new : Target) → WentOn old new → Led s old new
led_went s old new w = led_turns s w.harts old new w.board w.journal

pub led_pointed : (s : Scope) (p : Point) (old new : Target) → InScope s p → Pointed p old new → Led s old new
led_pointed s p old new ok w =
    let mid : Board = after_turns w.before old.board in
    let end : Board = after_turns w.behind (after_point p mid) in
    record {
      points = turns w.before ++ p ∷ turns w.behind;
      lives = subst (λ b. Lives s old.board (turns w.before ++ p ∷ turns w.behind) b) (sym w.board)
          (lives_then s old.board mid end (turns w.before) (p ∷ turns w.behind) (lives_turns s w.before old.board)
          (takes p mid (turns w.behind) end ok (lives_turns s w.behind (after_point p mid))));
      journal = w.journal ∙ append_assoc old.journal (turns w.before) (p ∷ turns w.behind);
    }

pub led_cut : (s : Scope) (p : Point) (old new : Target) → InScope s p → Cut p old new → Led s old new
led_cut s p old new ok (before went) = led_went s old new went
led_cut s p old new ok (behind pointed) = led_pointed s p old new ok pointed

-- ---- a debug part is written

pub led_change : (s : Scope) (f : DebugPart → DebugPart) (h : ℕ) (t new : Target) → IsAmong h s.changes → LeavesRunning f h t.board
    → new.board ≡ hart_over (with_debug_part f) h t.board → new.journal ≡ t.journal → Led s t new
led_change s f h t new ok keeps board journal = record {
  points = [];
  lives = subst (λ b. Lives s t.board [] b) (sym board)
      (changes f h t.board [] (hart_over (with_debug_part f) h t.board) ok keeps (stays (hart_over (with_debug_part f) h t.board)));
  journal = journal ∙ sym (append-nil t.journal);
}

pub led_rewrote : (s : Scope) (f : DebugPart → DebugPart) (h : ℕ) (old new : Target) (w : Rewrote (with_debug_part f) h old new) → IsAmong h s.changes
    → LeavesRunning f h (after_turns w.harts old.board) → Led s old new
led_rewrote s f h old new w ok keeps =
    let mid : Target = record { board = after_turns w.harts old.board; journal = old.journal ++ turns w.harts } in
    led_then s old mid new (led_turns s w.harts old mid refl refl) (led_change s f h mid new ok keeps w.board w.journal)

-- ---- run control

led_looked : (s : Scope) (h : ℕ) (now : Sight) (old new : Target) → IsAmong h s.asks → Looked h now old new → Led s old new
led_looked s h now old new ok l = led_pointed s (Look h) old new ok l.pointed

led_vain : (s : Scope) (test : Sight → Bool) (h : ℕ) (old : Target) (n : ℕ) (last : Sight) (new : Target) → IsAmong h s.asks → InVain test h old n last new
    → Led s old new
led_vain s test h old n last new ok none = led_stays s old
led_vain s test h old n last new ok (again k earlier now mid end vain look shown) =
    led_then s old mid end (led_vain s test h old k earlier mid ok vain) (led_looked s h now mid end ok look)

pub led_met : (s : Scope) (request : Point) (test : Sight → Bool) (h : ℕ) (old new : Target) → InScope s request → IsAmong h s.asks
    → MetAt request test h old new → Led s old new
led_met s request test h old new may ok m =
    led_then s old m.asked new (led_pointed s request old m.asked may m.asks)
    (led_then s m.asked m.mid new (led_vain s test h m.asked m.looks m.last m.mid ok m.in_vain) (led_looked s h m.now m.mid new ok m.look))

pub led_missed : (s : Scope) (request : Point) (test : Sight → Bool) (h : ℕ) (last : Sight) (old new : Target) → InScope s request → IsAmong h s.asks
    → MissedAt request test h last old new → Led s old new
led_missed s request test h last old new may ok m =
    led_then s old m.asked new (led_pointed s request old m.asked may m.asks) (led_vain s test h m.asked _ last new ok m.in_vain)

led_look_cut : (s : Scope) (request : Point) (test : Sight → Bool) (h : ℕ) (old new : Target) → InScope s request → IsAmong h s.asks
    → LookCut request test h old new → Led s old new
led_look_cut s request test h old new may ok m =
    led_then s old m.asked new (led_pointed s request old m.asked may m.asks)
    (led_then s m.asked m.mid new (led_vain s test h m.asked m.looks m.last m.mid ok m.in_vain) (led_cut s (Look h) m.mid new ok m.cut))

pub led_run_cut : (s : Scope) (request : Point) (test : Sight → Bool) (h : ℕ) (old new : Target) → InScope s request → IsAmong h s.asks
    → RunCut request test h old new → Led s old new
led_run_cut s request test h old new may ok (at_request c) = led_cut s request old new may c
led_run_cut s request test h old new may ok (at_look c) = led_look_cut s request test h old new may ok c

pub led_halts : (s : Scope) (h : ℕ) (old new : Target) → IsAmong h s.asks → HaltsAt h old new → Led s old new
led_halts s h old new ok m =
    led_then s old m.mid new (led_met s (HaltReq h) _ h old m.mid ok ok m.met) (led_pointed s (HaltClear h) m.mid new ok m.clears)

pub led_halt_cut : (s : Scope) (h : ℕ) (old new : Target) → IsAmong h s.asks → HaltCut h old new → Led s old new
led_halt_cut s h old new ok (before_halt c) = led_run_cut s (HaltReq h) _ h old new ok ok c
led_halt_cut s h old new ok (at_clear c) =
    led_then s old c.mid new (led_met s (HaltReq h) _ h old c.mid ok ok c.met) (led_cut s (HaltClear h) c.mid new ok c.cut)
