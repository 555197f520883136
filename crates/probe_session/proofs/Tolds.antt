-- What the calls of the layers below did at a told chip, as steps of the abstract debugger's plan: Looks, run control, and where a hart stands.
use Rattle.std.proofs.Common.{◌≡◌, ◌≢◌, ◌∙◌, ℕ, Bool, true, false, List, [], Option, Some, None, slice_get, refl, sym, ap, subst, arith}
use Rattle.std.proofs.lemmas.Option.{none-some, same_Some}
use Rattle.rv_model.specs.declared.cause.Cause.{Cause}
use Rattle.rv_model.specs.declared.cause.Cause.TheVariants as cause
use Rattle.rv_model.specs.declared.slot.Slot.{Slot}
use Rattle.rv_model.specs.Board.{Board, Hart, Machine}
use Rattle.rv_model.specs.Dcsr as dcsr
use Rattle.debug_model.specs.declared.command.Path.{Path}
use Rattle.debug_model.specs.declared.point.Point.TheVariants.{Access}
use Rattle.debug_model.specs.Chip.{Chip}
use Rattle.debug_model.specs.Scan.{WhereTold}
use Rattle.debug_model.specs.Module.{Site}
use Rattle.debug_model.specs.Told.{Far, site_of}
use Rattle.abstract_debugger.specs.Debugger.{Seen as Sight, access, by_state, going, halted_of, halting, look, one, shown_hits, stop_line, stop_line_of}
use Rattle.abstract_debugger.specs.Lines.{Line}
use Rattle.abstract_debugger.specs.Plan.{Plan, is_step}
use Rattle.abstract_debugger.specs.Plan.Plan.{say, see, take}
use Rattle.abstract_debugger.specs.Slots.{hits_of, slots_at, slots_here}
use Rattle.abstract_debugger.specs.Stands.{At, Deals, Looked, Origin, Target, WentOn}
use Rattle.abstract_debugger.specs.Ways.{Way}
use Rattle.abstract_debugger.specs.Ways.Way.{Idle, Ready, Still}
use Rattle.abstract_debugger.proofs.DealsLemmas.{deals_at_plan, deals_done, deals_halted, deals_hold, deals_looked, deals_otherwise, deals_seen}
use Rattle.abstract_debugger.proofs.DealsLemmas.{deals_selects, deals_stepped, deals_unpathed, deals_went_on, target_frozen}
use Rattle.abstract_debugger.proofs.FrozenLemmas.{stays_same}
use Rattle.probe_access.specs.Registers.{TurnsPassed}
use Rattle.probe_run.specs.declared.hart.Seen.{Seen}
use Rattle.probe_run.specs.declared.hart.Seen.TheVariants as seen
use Rattle.probe_run.specs.Happens.{HaltsAt, ResumesAt, LooksAt, target_of}
use Rattle.probe_run.specs.Outcomes.{IsSeen}
use Rattle.probe_run.proofs.SessionLemmas.{halts_lead, resumes_lead, steps_lead}
use Rattle.probe_trig.specs.Stepping.{OverAt}
use Rattle.probe_session.specs.Led.{target_at}
use Rattle.probe_session.specs.Steps.{behind_look, behind_step, trigger_cause}
use Rattle.rv_model.specs.Dcsr.{shown_cause}

-- ---- an object that tells

pub told_case : (R : Chip → Option Far → Type 0) (m : Machine) (sel : ℕ) (way : Way) (o : Origin) (p : Plan) (lines : List Line) (Q : Option Far → Type 0)
    (old new : Option Far)
    → ((f : Far) → Deals m sel way o p lines (target_of (site_of f)) → R f.live.chip new → Q new) → WhereTold R old new
    → At m sel way o p lines (target_at old) → Q new
told_case R m sel way o p lines Q None new step w a = absurd (none-some a.target a.is)
told_case R m sel way o p lines Q (Some f) new step w a = step f (subst (λ t. Deals m sel way o p lines t)
    (sym (same_Some (target_of (site_of f)) a.target a.is)) a.holds) w

pub at_far : (m : Machine) (sel : ℕ) (way : Way) (o : Origin) (p : Plan) (lines : List Line) (far : Far) (new : Option Far) → new ≡ Some far
    → Deals m sel way o p lines (target_of (site_of far)) → At m sel way o p lines (target_at new)
at_far m sel way o p lines far new is d = record { target = target_of (site_of far); is = ap target_at is; holds = d }

-- the path of an access is told by the calls that made it: a told chip is asked for one access on either
pub at_access : (m : Machine) (sel : ℕ) (way : Way) (o : Origin) (path : Path) (next : Board → Plan) (lines : List Line) (told : Option Target)
    → At m sel way o (access path next) lines told → At m sel way o (take Access (see next)) lines told
at_access m sel way o path next lines told a =
    record { target = a.target; is = a.is; holds = deals_unpathed m sel way o path (take Access (see next)) lines a.target a.holds }

pub went_by : (s t : Site) → TurnsPassed s t → WentOn (target_of s) (target_of t)
went_by s t p = record { harts = p.harts; board = p.board; journal = p.journal }

-- ---- Looks

look_by : (s : Seen) (now : Sight) (m : Machine) (h : ℕ) (o : Origin) (a r p : Plan) (lines : List Line) (old new : Target) → Looked h now old new
    → IsSeen h now s → Deals m 0 Idle o (look h (by_state a r p)) lines old
    → Deals m (behind_look s h a r p).hart (behind_look s h a r p).way o (behind_look s h a r p).plan lines new
look_by seen.Absent Sight.Absent m h o a r p lines old new l is d = deals_looked m 0 Idle Idle o h (by_state a r p) Sight.Absent lines old new (λ w e k. k) d l
look_by seen.Absent (Sight.Running ack) m h o a r p lines old new l is d = absurd is
look_by seen.Absent (Sight.Halted ack) m h o a r p lines old new l is d = absurd is
look_by (seen.Running x) Sight.Absent m h o a r p lines old new l is d = absurd is
look_by (seen.Running x) (Sight.Running ack) m h o a r p lines old new l is d =
    deals_looked m 0 Idle Idle o h (by_state a r p) (Sight.Running ack) lines old new (λ w e k. k) d l
look_by (seen.Running x) (Sight.Halted ack) m h o a r p lines old new l is d = absurd is
look_by (seen.Halted x) Sight.Absent m h o a r p lines old new l is d = absurd is
look_by (seen.Halted x) (Sight.Running ack) m h o a r p lines old new l is d = absurd is
look_by (seen.Halted x) (Sight.Halted ack) m h o a r p lines old new l is d =
    deals_halted m h o (by_state a r p) (Sight.Halted ack) lines old new refl (deals_selects m 0 h o (look h (by_state a r p)) lines old d) l

pub look_deals : (s : Seen) (m : Machine) (h : ℕ) (o : Origin) (a r p : Plan) (lines : List Line) (old new : Target) → LooksAt h s old new
    → Deals m 0 Idle o (look h (by_state a r p)) lines old
    → Deals m (behind_look s h a r p).hart (behind_look s h a r p).way o (behind_look s h a r p).plan lines new
look_deals s m h o a r p lines old new l d = look_by s l.now m h o a r p lines old new l.look l.is d

-- ---- run control

pub halt_deals : (m : Machine) (h : ℕ) (o : Origin) (next : Plan) (lines : List Line) (old new : Target) → HaltsAt h old new
    → Deals m 0 Idle o (halting h next) lines old → Deals m h Still o next lines new
halt_deals m h o next lines old new a d = halts_lead m h o next lines old new a (deals_selects m 0 h o (halting h next) lines old d)

pub resume_deals : (m : Machine) (h : ℕ) (o : Origin) (next : Plan) (lines : List Line) (old new : Target) → ResumesAt h old new
    → Deals m h Ready o (going h next) lines old → Deals m 0 Idle o next lines new
resume_deals m h o next lines old new a d = deals_selects m h 0 o next lines new (resumes_lead m h o next lines old new a d)

pub over_deals : (m : Machine) (h : ℕ) (o : Origin) (stepped other : Plan) (lines : List Line) (old new : Target) → OverAt h old new
    → Deals m h Still o (one h stepped other) lines old → Deals m h Still o (behind_step h stepped other) lines new
over_deals m h o stepped other lines old new a d =
    deals_done m h o (behind_step h stepped other) lines a.ran new (steps_lead m h o _ lines a.held a.ran a.steps
    (deals_hold m h o _ lines old a.held d a.holds)) a.ends

-- ---- where a hart stands

same_cause : (c : Option Cause) → shown_cause c ≡ dcsr.shown_cause c
same_cause None = refl
same_cause (Some why) = refl

no_hits : (c : Option Cause) (slots : List Slot) → dcsr.shown_cause c ≢ trigger_cause → shown_hits c slots ≡ []
no_hits None slots other = refl
no_hits (Some cause.Trigger) slots other = absurd (other refl)
no_hits (Some cause.Ebreak) slots other = refl
no_hits (Some cause.HaltReq) slots other = refl
no_hits (Some cause.Step) slots other = refl
no_hits (Some cause.Reset) slots other = refl

all_hits : (c : Option Cause) (slots : List Slot) → dcsr.shown_cause c ≡ trigger_cause → shown_hits c slots ≡ hits_of slots
all_hits None slots is = absurd (omega arith)
all_hits (Some cause.Trigger) slots is = refl
all_hits (Some cause.Ebreak) slots is = absurd (omega arith)
all_hits (Some cause.HaltReq) slots is = absurd (omega arith)
all_hits (Some cause.Step) slots is = absurd (omega arith)
all_hits (Some cause.Reset) slots is = absurd (omega arith)

line_at : (x : Hart) (pc why : ℕ) (hits : List Bool) → pc ≡ x.core.pc → why ≡ dcsr.shown_cause x.debug.halted → shown_hits x.debug.halted x.debug.slots ≡ hits
    → stop_line_of (Some x) ≡ Line.Halted pc why hits
line_at x pc why hits pc_is why_is hits_are =
    ap (λ l. Line.Halted x.core.pc (shown_cause x.debug.halted) l) hits_are
    ∙ ap (λ n. Line.Halted x.core.pc n hits) (same_cause x.debug.halted ∙ sym why_is)
    ∙ ap (λ n. Line.Halted n why hits) (sym pc_is)

-- a plan that goes on by a hart goes on by the one that the chip has
pub sees_hart : (m : Machine) (h : ℕ) (o : Origin) (next : Option Hart → Plan) (p : Plan) (lines : List Line) (t : Target) (x : Hart)
    → slice_get t.board.harts h ≡ Some x → next (Some x) ≡ p
    → Deals m h Still o (see (λ b. next (slice_get b.harts h))) lines t → Deals m h Still o p lines t
sees_hart m h o next p lines t x here goes d =
    deals_at_plan m h Still o (next (slice_get t.board.harts h)) p lines t (ap next here ∙ goes) (deals_seen m h Still o next lines t tt d)

-- turns pass it by
pub same_hart : (m : Machine) (h : ℕ) (o : Origin) (p : Plan) (lines : List Line) (old new : Target) → Deals m h Still o p lines old → WentOn old new
    → slice_get new.board.harts h ≡ slice_get old.board.harts h
same_hart m h o p lines old new d went =
    ap (λ (b : Board). slice_get b.harts h) went.board ∙ stays_same h old.board went.harts (target_frozen m h Still o p lines old tt d)

pub stop_deals : (m : Machine) (h pc why : ℕ) (o : Origin) (next : Plan) (lines : List Line) (s t : Site) (x : Hart) → slice_get s.board.harts h ≡ Some x
    → pc ≡ x.core.pc → why ≡ dcsr.shown_cause x.debug.halted → why ≢ trigger_cause → TurnsPassed s t
    → Deals m h Still o (stop_line h next) lines (target_of s) → Deals m h Still o (say (Line.Halted pc why []) next) lines (target_of t)
stop_deals m h pc why o next lines s t x here pc_is why_is other passed d =
    deals_went_on m h Still o _ lines (target_of s) (target_of t)
    (sees_hart m h o (λ y. say (stop_line_of y) next) _ lines (target_of s) x here
    (ap (λ l. say l next) (line_at x pc why [] pc_is why_is (no_hits x.debug.halted x.debug.slots (λ e. other (why_is ∙ e))))) d) (went_by s t passed)

pub stop_trigger_deals : (m : Machine) (h pc why : ℕ) (hits : List Bool) (o : Origin) (next : Plan) (lines : List Line) (s t : Site) (new : Target) (x : Hart)
    → slice_get s.board.harts h ≡ Some x → pc ≡ x.core.pc → why ≡ dcsr.shown_cause x.debug.halted
    → why ≡ trigger_cause → TurnsPassed s t → hits ≡ hits_of (slots_at h t.board) → WentOn (target_of t) new
    → Deals m h Still o (stop_line h next) lines (target_of s) → Deals m h Still o (say (Line.Halted pc why hits) next) lines new
stop_trigger_deals m h pc why hits o next lines s t new x here pc_is why_is is passed hits_are went d =
    let mid : Deals m h Still o (stop_line h next) lines (target_of t) = deals_went_on m h Still o (stop_line h next) lines (target_of s) (target_of t) d
    (went_by s t passed) in
    let there : slice_get t.board.harts h ≡ Some x = same_hart m h o (stop_line h next) lines (target_of s) (target_of t) d (went_by s t passed) ∙ here in
    deals_went_on m h Still o _ lines (target_of t) new
    (sees_hart m h o (λ y. say (stop_line_of y) next) _ lines (target_of t) x there
    (ap (λ l. say l next)
    (line_at x pc why hits pc_is why_is (all_hits x.debug.halted x.debug.slots (sym why_is ∙ is)
    ∙ sym (hits_are ∙ ap (λ (y : Option Hart). hits_of (slots_here y)) there)))) mid) went

pub step_found_deals : (m : Machine) (h : ℕ) (o : Origin) (stepped other : Plan) (lines : List Line) (s t : Site) (x : Hart)
    → slice_get s.board.harts h ≡ Some x → is_step x.debug.halted ≡ true → TurnsPassed s t
    → Deals m h Still o (behind_step h stepped other) lines (target_of s) → Deals m h Ready o stepped lines (target_of t)
step_found_deals m h o stepped other lines s t x here is passed d =
    deals_went_on m h Ready o stepped lines (target_of s) (target_of t)
    (deals_stepped m h o stepped other lines (target_of s) (ap (λ (y : Option Hart). is_step (halted_of y)) here ∙ is) d) (went_by s t passed)

pub other_found_deals : (m : Machine) (h : ℕ) (o : Origin) (stepped other : Plan) (lines : List Line) (s t : Site) (x : Hart)
    → slice_get s.board.harts h ≡ Some x → is_step x.debug.halted ≡ false → TurnsPassed s t
    → Deals m h Still o (behind_step h stepped other) lines (target_of s) → Deals m h Still o other lines (target_of t)
other_found_deals m h o stepped other lines s t x here is passed d =
    deals_went_on m h Still o other lines (target_of s) (target_of t)
    (deals_otherwise m h o stepped other lines (target_of s) (ap (λ (y : Option Hart). is_step (halted_of y)) here ∙ is) d) (went_by s t passed)
