-- A site between the operations of a call: the debug module is ready, every hart is wide, and of all harts but one nothing is asked.
use Rattle.std.proofs.Common.{◌≡◌, ◌∙◌, ℕ, zero, suc, List, [], ◌∷◌, true, false, set, Option, Some, None, is_some, slice_get, refl, sym, ap, inl, inr}
use Rattle.std.proofs.lemmas.Bool.{cases_eq}
use Rattle.rv_model.specs.Board.{Board, DebugPart, Hart}
use Rattle.rv_model.specs.Turn.{turn, turn_by}
use Rattle.rv_model.specs.declared.cause.Cause.{Cause}
use Rattle.debug_model.specs.declared.point.Point.TheVariants.{HaltReq, HaltClear, ResumeReq}
use Rattle.debug_model.specs.Journal.{after_point, debug_changed, debug_changed_by, halt_requested, resume_asked, resume_asked_by}
use Rattle.debug_model.specs.Module.{Site}
use Rattle.debug_model.specs.Told.{HartExists, HartReady, ModuleReady, SiteReady}
use Rattle.abstract_debugger.specs.Turns.{after_turns}
use Rattle.probe_run.specs.Sites.{spun}
use Rattle.probe_run.proofs.Asking.{GoAsked, HaltAsked, HaltSeen, KeptByTurns, OnlyAt, Stopped, Unasked, only_at_kept}
use Rattle.probe_run.proofs.Wide.{BoardWide, EachHart, each_changed, each_turns, wide_turns}
use Rattle.rv_model.proofs.WideHart.{HartWide}

pub record Between (P : DebugPart → Type 0) (h : ℕ) (s : Site) : Type 0 where
  pub unit : ModuleReady s.unit
  pub wide : BoardWide s.board
  pub harts : EachHart (OnlyAt h P) s.board

-- ---- a ready site

ready_at : (h j : ℕ) (x : Hart) → HartReady j x → OnlyAt h Unasked j x
ready_at h j x r = record {
  here = λ same. record { no_halt = r.no_halt_request; no_resume = r.no_resume_request };
  others =
      λ other. record { no_halt = r.no_halt_request; no_resume = r.no_resume_request };
}

pub ready_between : (h : ℕ) (s : Site) → SiteReady s → Between Unasked h s
ready_between h s r = record {
  unit = r.unit;
  wide = record {
    harts = λ j x is. let q : HartReady j x = r.harts j x is in record { whole = q.whole; registers = q.registers; compared = q.compared };
    memory = r.memory;
  };
  harts = λ j x is. ready_at h j x (r.harts j x is);
}

unasked_at : (h j : ℕ) (x : Hart) → OnlyAt h Unasked j x → Unasked x.debug
unasked_at h j x o = elim (cases_eq j h) [ inl same ↦ o.here same | inr other ↦ o.others other ]

pub between_ready : (h : ℕ) (s : Site) → Between Unasked h s → SiteReady s
between_ready h s b = record {
  unit = b.unit;
  harts = λ j x is.
      let w : HartWide j x = b.wide.harts j x is in
      let u : Unasked x.debug = unasked_at h j x (b.harts j x is) in
      record { no_halt_request = u.no_halt; no_resume_request = u.no_resume; whole = w.whole; registers = w.registers; compared = w.compared };
  memory = b.wide.memory;
}

pub only_weaker : (P R : DebugPart → Type 0) (h : ℕ) (b : Board) → ((x : Hart) → slice_get b.harts h ≡ Some x → P x.debug → R x.debug)
    → EachHart (OnlyAt h P) b → EachHart (OnlyAt h R) b
only_weaker P R h b to each j x is = record {
  here = λ same. to x (ap (slice_get b.harts) (sym same) ∙ is) ((each j x is).here same);
  others = (each j x is).others;
}

pub between_weaker : (P R : DebugPart → Type 0) (h : ℕ) (s : Site) → ((d : DebugPart) → P d → R d) → Between P h s → Between R h s
between_weaker P R h s to b = record { unit = b.unit; wide = b.wide; harts = only_weaker P R h s.board (λ x is p. to x.debug p) b.harts }

pub stopped_unasked : (d : DebugPart) → Stopped d → Unasked d
stopped_unasked d p = record { no_halt = p.no_halt; no_resume = p.no_resume }

-- ---- turns

pub between_spun : (P : DebugPart → Type 0) (h : ℕ) (s : Site) → KeptByTurns P → (harts : List ℕ) → Between P h s → Between P h (spun harts s)
between_spun P h s keeps harts b = record {
  unit = b.unit;
  wide = wide_turns harts s.board b.wide;
  harts = each_turns (OnlyAt h P) (only_at_kept h P keeps) harts s.board b.harts;
}

set_there : (hs : List Hart) (g h : ℕ) (v : Hart) → is_some (slice_get hs h) ≡ true → is_some (slice_get (set hs g v) h) ≡ true
set_there [] g h v is = is
set_there (x ∷ xs) zero zero v is = refl
set_there (x ∷ xs) zero (suc h) v is = is
set_there (x ∷ xs) (suc g) zero v is = refl
set_there (x ∷ xs) (suc g) (suc h) v is = set_there xs g h v is

turn_there : (o : Option Hart) (g h : ℕ) (b : Board) → HartExists h b → HartExists h (turn_by o g b)
turn_there None g h b is = is
turn_there (Some x) g h b is = set_there b.harts g h _ is

pub there_turns : (harts : List ℕ) (h : ℕ) (b : Board) → HartExists h b → HartExists h (after_turns harts b)
there_turns [] h b is = is
there_turns (g ∷ harts) h b is = there_turns harts h (turn g b) (turn_there (slice_get b.harts g) g h b is)

changed_there_by : (o : Option Hart) (f : DebugPart → DebugPart) (g h : ℕ) (b : Board) → HartExists h b → HartExists h (debug_changed_by o f g b)
changed_there_by None f g h b is = is
changed_there_by (Some x) f g h b is = set_there b.harts g h _ is

pub changed_there : (f : DebugPart → DebugPart) (g h : ℕ) (b : Board) → HartExists h b → HartExists h (debug_changed f g b)
changed_there f g h b is = changed_there_by (slice_get b.harts g) f g h b is

-- ---- what requests make of what is known

pub halt_asks : (h : ℕ) (b : Board) → EachHart (OnlyAt h Unasked) b → EachHart (OnlyAt h HaltAsked) (after_point (HaltReq h) b)
halt_asks h b each = each_changed (OnlyAt h Unasked) (OnlyAt h HaltAsked) (halt_requested true) h b
    (λ x o. record { here = λ same. record { asked = refl; no_resume = (o.here refl).no_resume }; others = λ other. absurd (other refl) })
    (λ j x other o. record { here = λ same. absurd (other same); others = o.others })
    each

asked_part : (halted : Option Cause) (d : DebugPart) → Unasked d → GoAsked (resume_asked_by halted d)
asked_part (Some why) d u = record { no_halt = u.no_halt; waits = λ _. refl }
asked_part None d u = record { no_halt = u.no_halt; waits = λ _. refl }

pub resume_asks : (h : ℕ) (b : Board) → EachHart (OnlyAt h Unasked) b → EachHart (OnlyAt h GoAsked) (after_point (ResumeReq h) b)
resume_asks h b each = each_changed (OnlyAt h Unasked) (OnlyAt h GoAsked) resume_asked h b
    (λ x o. record { here = λ same. asked_part x.debug.halted x.debug (o.here refl); others = λ other. absurd (other refl) })
    (λ j x other o. record { here = λ same. absurd (other same); others = o.others })
    each

pub halt_clears : (h : ℕ) (b : Board) → EachHart (OnlyAt h HaltSeen) b → EachHart (OnlyAt h Stopped) (after_point (HaltClear h) b)
halt_clears h b each = each_changed (OnlyAt h HaltSeen) (OnlyAt h Stopped) (halt_requested false) h b
    (λ x o. record {
      here = λ same. record { no_halt = refl; no_resume = (o.here refl).no_resume; halted = (o.here refl).halted };
      others =
          λ other. absurd (other refl);
    })
    (λ j x other o. record { here = λ same. absurd (other same); others = o.others })
    each
