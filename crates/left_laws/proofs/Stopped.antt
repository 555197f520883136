-- A hart that a Look shows halted behind a resume that was acknowledged stands halted, and nobody asks it to go on.
use Rattle.std.proofs.Common.{◌≡◌, ◌∙◌, ℕ, Bool, true, false, Option, Some, None, is_some, refl, sym, subst}
use Rattle.std.proofs.lemmas.Bool.{false≢true}
use Rattle.std.proofs.lemmas.Option.{same_Some}
use Rattle.rv_model.specs.declared.cause.Cause.{Cause}
use Rattle.rv_model.specs.Board.{Board, DebugPart, Hart}
use Rattle.rv_model.specs.DebugLaws.{SameRequests}
use Rattle.debug_model.specs.Told.{Far, SiteReady, site_of}
use Rattle.debug_model.specs.declared.point.Point.TheVariants.{ResumeReq}
use Rattle.abstract_debugger.specs.Debugger.{Seen as Sight, sees_both}
use Rattle.abstract_debugger.specs.Laws.{IsFrozen, IsFrozenAt}
use Rattle.abstract_debugger.specs.Plan.{with_debug_part}
use Rattle.abstract_debugger.specs.Stands.{Looked, Pointed, Rewrote, Target}
use Rattle.abstract_debugger.specs.Turns.{after_turns}
use Rattle.probe_run.specs.Happens.{InVain, StepsAt}
use Rattle.probe_run.specs.Happens.InVain.{none, again}
use Rattle.probe_run.specs.Told.{Serving}
use Rattle.probe_run.proofs.Asking.{GoAsked, OnlyAt, Stopped, Unasked, go_asked_kept, only_at_kept, stopped_kept, unasked_kept}
use Rattle.probe_run.proofs.Between.{only_weaker, ready_between, resume_asks}
use Rattle.probe_run.proofs.HartControl.{reveals_both}
use Rattle.probe_run.proofs.Wide.{EachHart, each_changed, each_turns}
use Rattle.left_laws.proofs.BoardLemmas.{changed_over}

-- ---- a chip that serves a halted hart

-- nothing is asked of any hart
pub ready_unasked : (h : ℕ) (f : Far) → SiteReady (site_of f) → EachHart (OnlyAt h Unasked) (site_of f).board
ready_unasked h f ready = (ready_between h (site_of f) ready).harts

pub frozen_by : (d : DebugPart) (o : Option Cause) → d.halted ≡ o → is_some o ≡ true → d.resume_request ≡ false → IsFrozen d
frozen_by d (Some why) is some quiet = record { why = why; halted = is; not_asked = quiet }
frozen_by d None is some quiet = absurd (false≢true some)

pub serving_frozen : (h : ℕ) (f : Far) → Serving h (Some f) → IsFrozenAt h (site_of f).board
serving_frozen h f s x is =
    subst (λ (z : Hart). IsFrozen z.debug) (same_Some s.halted.hart x (sym s.halted.is ∙ is))
    (frozen_by s.halted.hart.debug s.halted.hart.debug.halted refl s.halted.halted (s.ready.harts h s.halted.hart s.halted.is).no_resume_request)

-- ---- its debug part is written

unasked_again : (j : ℕ) (x : Hart) (h : ℕ) (f : DebugPart → DebugPart) → SameRequests x.debug (f x.debug) → OnlyAt h Unasked j x
    → OnlyAt h Unasked j (with_debug_part f x)
unasked_again j x h f same o = record {
  here = λ e. record { no_halt = same.halt_request ∙ (o.here e).no_halt; no_resume = same.resume_request ∙ (o.here e).no_resume };
  others = λ other. record { no_halt = same.halt_request ∙ (o.others other).no_halt; no_resume = same.resume_request ∙ (o.others other).no_resume };
}

pub rewrote_unasked : (f : DebugPart → DebugPart) (h : ℕ) (old new : Target) → ((d : DebugPart) → SameRequests d (f d))
    → EachHart (OnlyAt h Unasked) old.board → Rewrote (with_debug_part f) h old new → EachHart (OnlyAt h Unasked) new.board
rewrote_unasked f h old new same each w =
    subst (EachHart (OnlyAt h Unasked)) (changed_over f h (after_turns w.harts old.board) ∙ sym w.board)
    (each_changed (OnlyAt h Unasked) (OnlyAt h Unasked) f h (after_turns w.harts old.board) (λ x o. unasked_again h x h f (same x.debug) o)
    (λ j x other o. o) (each_turns (OnlyAt h Unasked) (only_at_kept h Unasked unasked_kept) w.harts old.board each))

-- ---- it is let go, and stops

asked_pointed : (h : ℕ) (old new : Target) → Pointed (ResumeReq h) old new → EachHart (OnlyAt h Unasked) old.board → EachHart (OnlyAt h GoAsked) new.board
asked_pointed h old new p each =
    subst (EachHart (OnlyAt h GoAsked)) (sym p.board)
    (each_turns (OnlyAt h GoAsked) (only_at_kept h GoAsked go_asked_kept) p.behind _
    (resume_asks h (after_turns p.before old.board) (each_turns (OnlyAt h Unasked) (only_at_kept h Unasked unasked_kept) p.before old.board each)))

asked_looked : (h : ℕ) (now : Sight) (old new : Target) → Looked h now old new → EachHart (OnlyAt h GoAsked) old.board → EachHart (OnlyAt h GoAsked) new.board
asked_looked h now old new l each =
    subst (EachHart (OnlyAt h GoAsked)) (sym l.pointed.board)
    (each_turns (OnlyAt h GoAsked) (only_at_kept h GoAsked go_asked_kept) l.pointed.behind _
    (each_turns (OnlyAt h GoAsked) (only_at_kept h GoAsked go_asked_kept) l.pointed.before old.board each))

asked_vain : (test : Sight → Bool) (h : ℕ) (old : Target) (n : ℕ) (last : Sight) (new : Target) → InVain test h old n last new
    → EachHart (OnlyAt h GoAsked) old.board → EachHart (OnlyAt h GoAsked) new.board
asked_vain test h old n last new none each = each
asked_vain test h old n last new (again k earlier now mid end vain look shown) each =
    asked_looked h now mid end look (asked_vain test h old k earlier mid vain each)

stopped_looked : (h : ℕ) (now : Sight) (old new : Target) → Looked h now old new → sees_both now ≡ true → EachHart (OnlyAt h GoAsked) old.board
    → EachHart (OnlyAt h Stopped) new.board
stopped_looked h now old new l shown each =
    let b : Board = after_turns l.pointed.before old.board in
    subst (EachHart (OnlyAt h Stopped)) (sym l.pointed.board)
    (each_turns (OnlyAt h Stopped) (only_at_kept h Stopped stopped_kept) l.pointed.behind b
    (only_weaker GoAsked Stopped h b (λ x at p. reveals_both h now shown x b at l.shows p)
    (each_turns (OnlyAt h GoAsked) (only_at_kept h GoAsked go_asked_kept) l.pointed.before old.board each)))

pub frozen_behind : (h : ℕ) (old new : Target) → StepsAt h old new → EachHart (OnlyAt h Unasked) old.board → IsFrozenAt h new.board
frozen_behind h old new m each x is =
    let p : Stopped x.debug =
    (stopped_looked h m.now m.mid new m.look m.shown
    (asked_vain sees_both h m.asked m.looks m.last m.mid m.in_vain (asked_pointed h old m.asked m.asks each)) h x is).here refl in
    frozen_by x.debug x.debug.halted refl p.halted p.no_resume
