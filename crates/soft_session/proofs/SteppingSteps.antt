-- A hart that goes on, as steps of a session's lowered plan: a step at a breakpoint lifts it, and covers the word again.
use Rattle.std.proofs.Common.{◌≡◌, ◌∙◌, ℕ, Bool, true, false, List, [], Option, Some, None, slice_get, refl, sym, ap, subst, if◌then◌else◌}
use mathlib.Core.Path.{fun_ext}
use Rattle.rv_model.specs.Board.{Board, Hart}
use Rattle.rv_model.specs.DebugRegisters.{dcsr_number}
use Rattle.rv_model.specs.Registers.{pc_number}
use Rattle.debug_model.specs.declared.point.Point.TheVariants.{ResumeReq}
use Rattle.abstract_debugger.specs.Debugger.{Seen, going, halted_of, lost_step, most_looks, one, sees_ack, sees_both, unseen, until, value_here}
use Rattle.abstract_debugger.specs.Lines.{Line}
use Rattle.abstract_debugger.specs.Plan.{Plan, is_step}
use Rattle.abstract_debugger.specs.Plan.Change.{StepDone, StepOver}
use Rattle.abstract_debugger.specs.Plan.Plan.{change, say, see, stop, take}
use Rattle.abstract_debugger.specs.Plan.PlanEnd.{NoAck, NoHalt}
use Rattle.abstract_debugger.specs.Ways.Way.{Ready, Still}
use Rattle.probe_run.specs.Acts.{Tells}
use Rattle.printed_lines.specs.declared.line.Line.{Line as PrintedLine}
use Rattle.probe_session.specs.Calls.{Got}
use Rattle.probe_session.specs.Commands.{at_stop_line, ends_with}
use Rattle.probe_session.specs.Said.{said_by}
use Rattle.probe_session.specs.Goes.{Went}
use Rattle.probe_session.specs.Going.{Branches, at_one, behind_one}
use Rattle.probe_session.specs.Led.{Leads}
use Rattle.probe_session.specs.Places.{Place, ready, still}
use Rattle.probe_session.specs.Steps.{Step, behind_step}
use Rattle.probe_session.proofs.LedSteps.{goes_lead}
use Rattle.probe_trig.specs.Stepping.{shows_step}
use Rattle.soft_laws.specs.Lowered.{Table, lower, patched_table}
use Rattle.soft_laws.specs.SoftBreaks.{is_listed}
use Rattle.soft_laws.specs.SoftDebugger.{covering, lifting, one_by, pc_at, pc_here, soft_one}
use Rattle.soft_break.specs.Leading.{CoverLeads, LiftLeads}
use Rattle.soft_break.specs.Patches.{Patches, original_of}
use Rattle.soft_session.specs.Led.{Onto}
use Rattle.soft_session.specs.Stepping.{GoneLed, OneLed, OverLed, PcRead, StepLed, behind_whole}
use Rattle.soft_session.specs.Tables.{Holds}
use Rattle.soft_session.proofs.LedLemmas.{led_at, led_same, led_step, led_then}
use Rattle.soft_session.proofs.LowerLemmas.{lower_if, lower_see, lower_until}
use Rattle.soft_session.proofs.TableLemmas.{holds_again}

-- ---- a single step

lost_by : (b : Bool) (t : Table) → lower (if b then stop (NoHalt most_looks) else stop (NoAck most_looks)) t
    ≡ (if b then stop (NoHalt most_looks) else stop (NoAck most_looks))
unfolding lower
lost_by true t = refl
lost_by false t = refl

lost : (t : Table) (s : Seen) → lower (lost_step s) t ≡ lost_step s
lost t s = lost_by (sees_ack s) t

done : (h : ℕ) (stepped other : Plan) (t : Table)
    → lower (change (StepDone h) (behind_step h stepped other)) t ≡ change (StepDone h) (behind_step h (lower stepped t) (lower other t))
unfolding lower
done h stepped other t =
    ap (change (StepDone h)) (lower_see (λ b. if is_step (halted_of (slice_get b.harts h)) then stepped else other)
    (λ b. if is_step (halted_of (slice_get b.harts h)) then lower stepped t else lower other t) t
    (λ b. lower_if (is_step (halted_of (slice_get b.harts h))) stepped other t))

pub lower_one : (h : ℕ) (stepped other : Plan) (t : Table) → lower (one h stepped other) t ≡ one h (lower stepped t) (lower other t)
unfolding lower
lower_one h stepped other t =
    ap (λ x. change (StepOver h) (take (ResumeReq h) x))
    (lower_until most_looks h sees_both lost_step (change (StepDone h) (behind_step h stepped other)) unseen t
    ∙ ap (λ f. until most_looks h sees_both f (lower (change (StepDone h) (behind_step h stepped other)) t) unseen) (fun_ext (lost t))
    ∙ ap (λ x. until most_looks h sees_both lost_step x unseen) (done h stepped other t))

pub step_led : (h word : ℕ) (is_whole : Bool) (old mid new : Tells) → Went (at_one h) (behind_one h) [] old mid → Got h dcsr_number word mid new
    → shows_step word ≡ is_whole → StepLed h old new is_whole
step_led h word true old mid new went got whole b =
    led_then (at_one h b) (behind_one h b) (ready h b.whole) old mid new [] [] (goes_lead (at_one h b) (behind_one h b) old mid [] (went.goes b))
    (led_step (behind_one h b) (ready h b.whole) mid new [] (Step.finds_step b.whole b.other got whole))
step_led h word false old mid new went got whole b =
    led_then (at_one h b) (behind_one h b) (still h b.other) old mid new [] [] (goes_lead (at_one h b) (behind_one h b) old mid [] (went.goes b))
    (led_step (behind_one h b) (still h b.other) mid new [] (Step.finds_other b.whole b.other got whole))

-- ---- over a breakpoint

covered_again : (h at original : ℕ) (is_whole : Bool) (stepped other : Plan) (t : Table) (mid new : Tells) → CoverLeads at mid.far new.far
    → Leads (behind_whole is_whole h (lower (covering at original stepped) t) (lower (covering at original other) t)) mid []
    (behind_whole is_whole h (lower stepped (patched_table true at original t)) (lower other (patched_table true at original t))) new
covered_again h at original true stepped other t mid new covers =
    led_at Ready h (lower (covering at original stepped) t) (lower stepped (patched_table true at original t)) mid new (covers original stepped t)
covered_again h at original false stepped other t mid new covers =
    led_at Still h (lower (covering at original other) t) (lower other (patched_table true at original t)) mid new (covers original other t)

pub over_led : (h at : ℕ) (p : Patches) (is_whole : Bool) (old lifted stood new : Tells) → is_listed p.addresses at ≡ true
    → LiftLeads at (original_of at p) old.far lifted.far → StepLed h lifted stood is_whole → CoverLeads at stood.far new.far → OverLed at h p old new is_whole
over_led h at p is_whole old lifted stood new set lifts steps covers stepped other t holds =
    let w : ℕ = original_of at p in
    let t1 : Table = patched_table false at w t in
    let a : Plan = covering at w stepped in
    let b : Plan = covering at w other in
    let branches : Branches = record { whole = lower a t1; other = lower b t1 } in
    let from : Place = still h (lower (lifting at (λ original. one h (covering at original stepped) (covering at original other))) t) in
    record {
      table = patched_table true at w t1;
      holds = holds_again at w p t set refl holds;
      leads = led_then from (behind_whole is_whole h (lower a t1) (lower b t1))
          (behind_whole is_whole h (lower stepped (patched_table true at w t1)) (lower other (patched_table true at w t1))) old stood new [] []
          (led_then from (at_one h branches) (behind_whole is_whole h (lower a t1) (lower b t1)) old lifted stood [] []
          (led_then from (still h (lower (one h a b) t1)) (at_one h branches) old lifted lifted [] []
          (led_at Still h _ (lower (one h a b) t1) old lifted (lifts (λ original. one h (covering at original stepped) (covering at original other)) t
          (holds.listed at ∙ set) (holds.exact at set)))
          (led_same Still h (lower (one h a b) t1) (one h (lower a t1) (lower b t1)) lifted (lower_one h a b t1)))
          (steps branches))
          (covered_again h at w is_whole stepped other t1 stood new covers);
    }

-- ---- where it stands

pc_value : (o : Option Hart) → pc_here o ≡ value_here o pc_number
pc_value None = refl
pc_value (Some x) = refl

pub pc_led : (h pc : ℕ) (next : ℕ → Plan) (old new : Tells) → Got h pc_number pc old new
    → Leads (still h (see (λ b. next (pc_at h b)))) old [] (still h (next pc)) new
pc_led h pc next old new got =
    let by_value : Plan = see (λ b. next (value_here (slice_get b.harts h) pc_number)) in
    led_then (still h (see (λ b. next (pc_at h b)))) (still h by_value) (still h (next pc)) old old new [] []
    (led_same Still h (see (λ b. next (pc_at h b))) by_value old (ap see (fun_ext (λ (b : Board). ap next (pc_value (slice_get b.harts h))))))
    (led_step (still h by_value) (still h (next pc)) old new [] (Step.reads next got (λ c. refl)))

lower_at_pc : (planted : List ℕ) (h : ℕ) (stepped other : Plan) (t : Table)
    → lower (soft_one planted h stepped other) t ≡ see (λ b. lower (one_by (is_listed planted (pc_at h b)) (pc_at h b) h stepped other) t)
unfolding lower
lower_at_pc planted h stepped other t = refl

-- a step where none is
plain_led : (h : ℕ) (p : Patches) (is_whole : Bool) (from : Place) (old mid new : Tells) (stepped other : Plan) (t : Table) → Holds p t
    → Leads from old [] (still h (lower (one h stepped other) t)) mid → StepLed h mid new is_whole
    → Onto p (λ u. Leads from old [] (behind_whole is_whole h (lower stepped u) (lower other u)) new)
plain_led h p is_whole from old mid new stepped other t holds first steps =
    let branches : Branches = record { whole = lower stepped t; other = lower other t } in
    record {
      table = t;
      holds = holds;
      leads = led_then from (at_one h branches) (behind_whole is_whole h (lower stepped t) (lower other t)) old mid new [] []
          (led_then from (still h (lower (one h stepped other) t)) (at_one h branches) old mid mid [] [] first
          (led_same Still h (lower (one h stepped other) t) (one h (lower stepped t) (lower other t)) mid (lower_one h stepped other t)))
          (steps branches);
    }

none_listed : (planted : List ℕ) (h : ℕ) (stepped other : Plan) (t : Table) → planted ≡ []
    → lower (soft_one planted h stepped other) t ≡ see (λ b. lower (one h stepped other) t)
none_listed planted h stepped other t none = subst (λ ps. lower (soft_one ps h stepped other) t ≡ see (λ b. lower (one h stepped other) t)) (sym none)
    (lower_at_pc [] h stepped other t)

-- it does not stand at one
pub one_elsewhere : (h : ℕ) (p : Patches) (stepped other : Plan) (t : Table) (old mid : Tells) → PcRead h p.addresses old mid None
    → Leads (still h (lower (soft_one p.addresses h stepped other) t)) old [] (still h (lower (one h stepped other) t)) mid
one_elsewhere h p stepped other t old mid (PcRead.none_set none same) =
    let from : Place = still h (lower (soft_one p.addresses h stepped other) t) in
    let to : Place = still h (lower (one h stepped other) t) in
    let seen : Plan = see (λ b. lower (one h stepped other) t) in
    subst (λ u. Leads from old [] to u) (sym same)
    (led_then from (still h seen) to old old old [] []
    (led_same Still h (lower (soft_one p.addresses h stepped other) t) seen old (none_listed p.addresses h stepped other t none))
    (led_step (still h seen) to old old [] Step.overlooks))
one_elsewhere h p stepped other t old mid (PcRead.elsewhere {pc} got free) =
    let at : ℕ → Plan = λ n. lower (one_by (is_listed p.addresses n) n h stepped other) t in
    let from : Place = still h (lower (soft_one p.addresses h stepped other) t) in
    led_then from (still h (at pc)) (still h (lower (one h stepped other) t)) old mid mid [] []
    (led_then from (still h (see (λ b. at (pc_at h b)))) (still h (at pc)) old old mid [] []
    (led_same Still h (lower (soft_one p.addresses h stepped other) t) (see (λ b. at (pc_at h b))) old (lower_at_pc p.addresses h stepped other t))
    (pc_led h pc at old mid got))
    (led_same Still h (at pc) (lower (one h stepped other) t) mid (ap (λ x. lower (one_by x pc h stepped other) t) free))

pub one_plainly : (h : ℕ) (p : Patches) (is_whole : Bool) (old mid new : Tells) → PcRead h p.addresses old mid None → StepLed h mid new is_whole
    → OneLed h p old new is_whole
one_plainly h p is_whole old mid new read steps stepped other t holds =
    plain_led h p is_whole (still h (lower (soft_one p.addresses h stepped other) t)) old mid new stepped other t holds
    (one_elsewhere h p stepped other t old mid read) steps

-- it stands at one
pub one_there : (h at : ℕ) (p : Patches) (stepped other : Plan) (t : Table) (old mid : Tells) → PcRead h p.addresses old mid (Some at)
    → Leads (still h (lower (soft_one p.addresses h stepped other) t)) old [] (still h (lower (one_by true at h stepped other) t)) mid
one_there h at p stepped other t old mid (PcRead.there got set) =
    let plan : ℕ → Plan = λ n. lower (one_by (is_listed p.addresses n) n h stepped other) t in
    let from : Place = still h (lower (soft_one p.addresses h stepped other) t) in
    led_then from (still h (plan at)) (still h (lower (one_by true at h stepped other) t)) old mid mid [] []
    (led_then from (still h (see (λ b. plan (pc_at h b)))) (still h (plan at)) old old mid [] []
    (led_same Still h (lower (soft_one p.addresses h stepped other) t) (see (λ b. plan (pc_at h b))) old
    (lower_at_pc p.addresses h stepped other t))
    (pc_led h at plan old mid got))
    (led_same Still h (plan at) (lower (one_by true at h stepped other) t) mid (ap (λ x. lower (one_by x at h stepped other) t) set))

pub one_over : (h at : ℕ) (p : Patches) (is_whole : Bool) (old mid new : Tells) → PcRead h p.addresses old mid (Some at) → OverLed at h p mid new is_whole
    → OneLed h p old new is_whole
one_over h at p is_whole old mid new read over stepped other t holds =
    let from : Place = still h (lower (soft_one p.addresses h stepped other) t) in
    let o : Onto p (λ u. Leads (still h (lower (one_by true at h stepped other) t)) mid [] (behind_whole is_whole h (lower stepped u) (lower other u)) new) =
    over stepped other t holds in
    record {
      table = o.table;
      holds = o.holds;
      leads = led_then from (still h (lower (one_by true at h stepped other) t)) (behind_whole is_whole h (lower stepped o.table) (lower other o.table)) old mid
          new [] [] (one_there h at p stepped other t old mid read) o.leads;
    }

-- ---- a hart that goes, or says where it stands

pub gone_whole : (h : ℕ) (is_whole : Bool) (line : PrintedLine) (old new : Tells) → is_whole ≡ true
    → Went (λ next. ready h (going h (say Line.Resumed next))) (ends_with (said_by line)) [] old new → GoneLed h is_whole old new line
gone_whole h is_whole line old new is went =
    subst (λ b. GoneLed h b old new line) (sym is) (λ next. goes_lead (ready h (going h (say Line.Resumed next))) (ends_with (said_by line) next) old new []
    (went.goes next))

pub gone_other : (h : ℕ) (is_whole : Bool) (line : PrintedLine) (old new : Tells) → is_whole ≡ false
    → Went (at_stop_line h) (ends_with (said_by line)) [] old new → GoneLed h is_whole old new line
gone_other h is_whole line old new is went =
    subst (λ b. GoneLed h b old new line) (sym is) (λ next. goes_lead (at_stop_line h next) (ends_with (said_by line) next) old new [] (went.goes next))
