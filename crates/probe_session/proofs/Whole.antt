-- A told chip whose selected hart stands behind a whole step: turns and a Look leave it there, and none of its slots has a hit.
use Rattle.std.proofs.Common.{◌≡◌, ◌∙◌, ◌++◌, ℕ, List, Bool, true, false, Option, Some, None, Result}
use Rattle.std.proofs.Common.{IfOk, is_some, slice_get, refl, sym, ap, subst, arith}
use Rattle.std.specs.Prelude.{◌==◌}
use Rattle.std.proofs.lemmas.Bool.{eqb-true, false≢true}
use Rattle.std.proofs.lemmas.Option.{none-some, same_Some}
use Rattle.rv_model.specs.declared.cause.Cause.{Cause}
use Rattle.rv_model.specs.declared.cause.Cause.TheVariants as cause
use Rattle.rv_model.specs.Board.{Board, Hart, Machine}
use Rattle.rv_model.specs.Dcsr.{shown_cause}
use Rattle.debug_model.specs.Module.{Site}
use Rattle.debug_model.specs.Scan.{WhereTold}
use Rattle.debug_model.specs.Told.{Far, HartHalted, IsHalted, IsReady, Selects, SiteReady, site_of}
use Rattle.abstract_debugger.specs.Debugger.{halted_of}
use Rattle.abstract_debugger.specs.Laws.{IsFrozenAt}
use Rattle.abstract_debugger.specs.Lines.{Line}
use Rattle.abstract_debugger.specs.Plan.{Plan, is_step}
use Rattle.abstract_debugger.specs.Stands.{At, Deals, Origin, Target}
use Rattle.abstract_debugger.specs.Turns.{after_turns}
use Rattle.abstract_debugger.specs.Ways.Way.{Ready, Still}
use Rattle.abstract_debugger.proofs.FrozenLemmas.{stays_same}
use Rattle.abstract_debugger.proofs.StandsLemmas.{after_turns-append}
use Rattle.probe_access.specs.Stops.{StoppedAt}
use Rattle.probe_run.specs.declared.hart.Seen.{Seen}
use Rattle.probe_run.specs.Acts.{Tells}
use Rattle.probe_run.specs.Happens.{Leaves, LooksAt, target_of}
use Rattle.probe_run.specs.Told.{Serving}
use Rattle.probe_session.specs.Calls.{FoundStop}
use Rattle.printed_lines.specs.declared.line.Line.{Line as PrintedLine}
use Rattle.probe_session.specs.declared.fault.Failure.{Failure}
use Rattle.probe_session.specs.declared.known.Known.{Known}
use Rattle.probe_session.specs.declared.known.Known.TheVariants as known
use Rattle.probe_session.specs.declared.met.Met.{Met}
use Rattle.probe_session.specs.Known.{IsWhole, Knows, StandsStepped, says_step}
use Rattle.probe_session.specs.Met.{SaysNoStep}
use Rattle.probe_session.specs.Led.{target_at}
use Rattle.probe_session.proofs.Tolds.{at_far}
use Rattle.probe_session.proofs.Unhit.{none_hit_now}

-- ---- turns leave it

by_step : (o : Option Cause) → is_step o ≡ true → o ≡ Some cause.Step
by_step None is = absurd (false≢true is)
by_step (Some cause.Ebreak) is = absurd (false≢true is)
by_step (Some cause.Trigger) is = absurd (false≢true is)
by_step (Some cause.HaltReq) is = absurd (false≢true is)
by_step (Some cause.Step) is = refl
by_step (Some cause.Reset) is = absurd (false≢true is)

-- hart h of a board
abbrev pub WholeAt : ℕ → Board → Type 0
WholeAt h b = is_step (halted_of (slice_get b.harts h)) ≡ true

whole_frozen : (h : ℕ) (s : Site) → SiteReady s → WholeAt h s.board → IsFrozenAt h s.board
whole_frozen h s ready whole x is = record {
  why = cause.Step;
  halted = by_step x.debug.halted (ap (λ o. is_step (halted_of o)) (sym is) ∙ whole);
  not_asked = (ready.harts h x is).no_resume_request;
}

whole_turns : (h : ℕ) (s : Site) (b : Board) (harts : List ℕ) → SiteReady s → WholeAt h s.board → b ≡ after_turns harts s.board → WholeAt h b
whole_turns h s b harts ready whole is =
    ap (λ (c : Board). is_step (halted_of (slice_get c.harts h))) is
    ∙ ap (λ o. is_step (halted_of o)) (stays_same h s.board harts (whole_frozen h s ready whole)) ∙ whole

-- so a Look leaves it
whole_looked : (h : ℕ) (seen : Seen) (s t : Site) → SiteReady s → WholeAt h s.board → LooksAt h seen (target_of s) (target_of t) → WholeAt h t.board
whole_looked h seen s t ready whole l =
    whole_turns h s t.board (l.look.pointed.before ++ l.look.pointed.behind) ready whole
    (l.look.pointed.board ∙ sym (after_turns-append l.look.pointed.before l.look.pointed.behind s.board))

looked_by : (h : ℕ) (seen : Seen) (old new : Option Far) → IsReady old → IsWhole h old → WhereTold (Leaves (LooksAt h seen) h) old new → IsWhole h new
looked_by h seen None new ready whole l = subst (IsWhole h) (sym l) tt
looked_by h seen (Some f) new ready whole l =
    subst (IsWhole h) (sym l.is) (whole_looked h seen (site_of f) (site_of l.far) ready whole l.happened)

halted_at : (o : Option Hart) (h : ℕ) (b : Board) → slice_get b.harts h ≡ o → is_step (halted_of o) ≡ true → HartHalted h b
halted_at None h b at whole = absurd (false≢true whole)
halted_at (Some x) h b at whole = record { hart = x; is = at; halted = ap (λ o. is_some o) (by_step x.debug.halted whole) }

whole_halted : (h : ℕ) (far : Option Far) → IsWhole h far → IsHalted h far
whole_halted h None whole = tt
whole_halted h (Some f) whole = halted_at (slice_get (site_of f).board.harts h) h (site_of f).board refl whole

pub stepped_looked : (h : ℕ) (seen : Seen) (old new : Option Far) → StandsStepped h old → IsReady new → Selects h new
    → WhereTold (Leaves (LooksAt h seen) h) old new → StandsStepped h new
stepped_looked h seen old new s ready selected l =
    let whole : IsWhole h new = looked_by h seen old new s.serving.ready s.whole l in
    record { serving = record { ready = ready; selects = selected; halted = whole_halted h new whole }; whole = whole }

-- ---- where it was read

step_shown : (o : Option Cause) → shown_cause o ≡ 4 → is_step o ≡ true
step_shown None is = cc
step_shown (Some cause.Ebreak) is = cc
step_shown (Some cause.Trigger) is = cc
step_shown (Some cause.HaltReq) is = cc
step_shown (Some cause.Step) is = refl
step_shown (Some cause.Reset) is = cc

found_by : (h pc : ℕ) (old new : Option Far) → IsReady old → WhereTold (StoppedAt h pc 4) old new → IsWhole h new
found_by h pc None new ready l = subst (IsWhole h) (sym l) tt
found_by h pc (Some f) new ready l =
    subst (IsWhole h) (sym l.is) (whole_turns h (site_of f) (site_of l.far).board l.passed.harts ready
    (ap (λ o. is_step (halted_of o)) l.here ∙ step_shown l.hart.debug.halted (sym l.cause_is)) l.passed.board)

pub stepped_found : (h pc cause_shown : ℕ) (old new : Tells) → Serving h old.far → Serving h new.far → FoundStop h pc cause_shown old new → cause_shown ≡ 4
    → StandsStepped h new.far
stepped_found h pc cause_shown old new before behind found is =
    record {
      serving = behind;
      whole = found_by h pc old.far new.far before.ready (subst (λ n. WhereTold (StoppedAt h pc n) old.far new.far) is found.told);
    }

-- ---- none of its slots has a hit

ready_by : (m : Machine) (h : ℕ) (o : Origin) (p : Plan) (lines : List Line) (t : Target) (x : Option Hart) → slice_get t.board.harts h ≡ x
    → is_step (halted_of x) ≡ true → Deals m h Still o p lines t → Deals m h Ready o p lines t
ready_by m h o p lines t None here whole d = absurd (false≢true whole)
ready_by m h o p lines t (Some x) here whole d = none_hit_now m h o p lines t x here whole d

pub whole_ready : (m : Machine) (h : ℕ) (o : Origin) (p : Plan) (lines : List Line) (told : Option Far) → IsWhole h told
    → At m h Still o p lines (target_at told) → At m h Ready o p lines (target_at told)
whole_ready m h o p lines None whole a = absurd (none-some a.target a.is)
whole_ready m h o p lines (Some f) whole a =
    at_far m h Ready o p lines f (Some f) refl
    (ready_by m h o p lines (target_of (site_of f)) (slice_get (site_of f).board.harts h) refl whole
    (subst (λ t. Deals m h Still o p lines t) (sym (same_Some (target_of (site_of f)) a.target a.is)) a.holds))

-- ---- as calls answer

pub says_found : (h pc cause_shown : ℕ) (old new : Tells) → Serving h old.far → Serving h new.far → FoundStop h pc cause_shown old new
    → (cause_shown == 4) ≡ true → StandsStepped h new.far
says_found h pc cause_shown old new before behind found is = stepped_found h pc cause_shown old new before behind found (eqb-true cause_shown 4 is)

pub says_trigger : {A : Type 0} (cause_shown : ℕ) → cause_shown ≡ 2 → (cause_shown == 4) ≡ true → A
says_trigger cause_shown is shows = let e : cause_shown ≡ 4 = eqb-true cause_shown 4 shows in absurd (omega (arith, e, is))

-- of the same hart
pub whole_at : {x h : ℕ} (far : Option Far) (result : Result PrintedLine Failure) → x ≡ h
    → IfOk result (λ line. says_step line ≡ true → StandsStepped x far) → IfOk result (λ line. says_step line ≡ true → StandsStepped h far)
whole_at {x} {h} far result is whole = subst (λ n. IfOk result (λ line. says_step line ≡ true → StandsStepped n far)) is whole

pub still_known : (k : Known) (h : ℕ) (seen : Seen) (old new : Option Far) → Knows k h old → IsReady new → Selects h new
    → WhereTold (Leaves (LooksAt h seen) h) old new → Knows k h new
still_known known.Nothing h seen old new knows ready selected l = tt
still_known known.Selected h seen old new knows ready selected l = selected
still_known known.Stepped h seen old new knows ready selected l = stepped_looked h seen old new knows ready selected l

pub says_as : {m n : Met} → m ≡ n → SaysNoStep m → SaysNoStep n
says_as {m} {n} is s = subst SaysNoStep is s

pub no_step : {A : Type 0} {b : Bool} → b ≡ false → b ≡ true → A
no_step none some = absurd (false≢true (sym none ∙ some))
