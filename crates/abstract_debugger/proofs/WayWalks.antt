-- Plans walked by the way in which the debugger stands to the selected hart, command by command: a property of plans that each way of putting plans
-- together keeps holds of every command's plan. What is learnt from a board is a test of its harts, so that a plan which sees other memory is walked as well.
use Rattle.std.proofs.Common.{◌≡◌, ◌∙◌, ℕ, zero, suc, Bool, true, false, List}
use Rattle.std.proofs.Common.{slice_get, sym, ap, subst, if◌then◌else◌}
use Rattle.std.proofs.lemmas.Bool.{false≢true}
use Rattle.rv_model.specs.Board.{Board, Hart, Machine}
use Rattle.debug_model.specs.declared.command.Path.{Path}
use Rattle.debug_model.specs.declared.point.Point.{Point}
use Rattle.debug_model.specs.declared.point.Point.TheVariants.{Turn, Look, HaltReq, HaltClear, ResumeReq, Access}
use Rattle.abstract_debugger.specs.Debugger.{Seen, arming, at_halted, by_state}
use Rattle.abstract_debugger.specs.Debugger.{freeing, going, halted_of, halting, look, lost_step, most_looks, one}
use Rattle.abstract_debugger.specs.Debugger.{seen_at, seen_here, sees_ack, sees_both, sees_halted}
use Rattle.abstract_debugger.specs.Debugger.{stepping, stop_line, stop_line_of, unseen, until, waiting}
use Rattle.abstract_debugger.specs.Debugger.Seen.{Absent, Running, Halted}
use Rattle.abstract_debugger.specs.Known.{IsKnown}
use Rattle.abstract_debugger.specs.Lines.{Line}
use Rattle.abstract_debugger.specs.Plan.{Plan, PlanEnd, is_step}
use Rattle.abstract_debugger.specs.Plan.Change.{WriteReg, WriteMem, StepOver, StepDone, EbreakHalts}
use Rattle.abstract_debugger.specs.Plan.Plan.{take, on_path, see, change, say, stop}
use Rattle.abstract_debugger.specs.Plan.PlanEnd.{NoAck, NoHalt}
use Rattle.abstract_debugger.specs.Trace.{What}
use Rattle.abstract_debugger.specs.Transcript.{World}
use Rattle.abstract_debugger.specs.Ways.{Way}
use Rattle.abstract_debugger.specs.Ways.Way.{Idle, Still, Ready, Going, Holding, Asked, Over}
use Rattle.abstract_debugger.proofs.KnownPoints.{known-gone, known-over, known-stepped, known-still}
use Rattle.abstract_debugger.proofs.SlotLemmas.{CanArm}

-- a point that leaves the way to the selected hart as it was
abbrev pub IsCalm : Point → Type 0
IsCalm (Turn h) = ⊥
IsCalm (Look n) = Unit {0}
IsCalm (HaltReq h) = Unit {0}
IsCalm (HaltClear h) = Unit {0}
IsCalm (ResumeReq h) = ⊥
IsCalm Access = Unit {0}

-- where the test holds of the harts, this way is known in place of that
abbrev pub Learns : (List Hart → Bool) → (sel : ℕ) → (way way' : Way) → Type 0
Learns test sel way way' = (m : Machine) (w : World) → test w.board.harts ≡ true → IsKnown m sel way w → IsKnown m sel way' w

-- of a selected hart, a way and a plan
pub record WayWalks (G : ℕ → Way → Plan → Type 0) : Type 0 where
  pub rests : (h : ℕ) (p : Plan) → G h Idle p → G h Still p
  pub unspent : (h : ℕ) (p : Plan) → G h Still p → G h Ready p
  pub moved : (h i : ℕ) (p : Plan) → G h Idle p → G i Idle p
  pub takes : (sel : ℕ) (way : Way) (q : Point) → IsCalm q → (next : Plan) → G sel way next → G sel way (take q next)
  pub goes : (h : ℕ) (next : Plan) → G h Going next → G h Ready (take (ResumeReq h) next)
  pub asks : (h : ℕ) (next : Plan) → G h Asked next → G h Holding (take (ResumeReq h) next)
  pub paths : (sel : ℕ) (way : Way) (path : Path) (next : Plan) → G sel way next → G sel way (on_path path next)
  pub sees : (sel : ℕ) (way : Way) (next : Board → Plan) → ((b : Board) → G sel way (next b)) → G sel way (see next)
  pub learns : (test : List Hart → Bool) (sel : ℕ) (way way' : Way) (next : Board → Plan) → Learns test sel way way'
      → ((b : Board) → test b.harts ≡ true → G sel way' (next b)) → ((b : Board) → test b.harts ≡ false → G sel way (next b)) → G sel way (see next)
  pub writes_reg : (h r v : ℕ) (next : Plan) → G h Still next → G h Still (change (WriteReg h r v) next)
  pub writes_mem : (sel : ℕ) (way : Way) (a count v : ℕ) (next : Plan) → G sel way next → G sel way (change (WriteMem a count v) next)
  pub step_over : (h : ℕ) (next : Plan) → G h Holding next → G h Still (change (StepOver h) next)
  pub step_done : (h : ℕ) (next : Plan) → G h Still next → G h Over (change (StepDone h) next)
  pub ebreaks : (h : ℕ) (on : Bool) (next : Plan) → G h Still next → G h Still (change (EbreakHalts h on) next)
  pub arms : (h : ℕ) (what : What) (next : Plan) → CanArm what → G h Still next → G h Still (arming h what next)
  pub frees : (h slot : ℕ) (next : Plan) → G h Still next → G h Still (freeing h slot next)
  pub says : (sel : ℕ) (way : Way) (line : Line) (next : Plan) → G sel way next → G sel way (say line next)
  pub stops : (sel : ℕ) (way : Way) (end : PlanEnd) → G sel way (stop end)

-- ---- choices

pub way-if : {G : ℕ → Way → Plan → Type 0} → WayWalks G → (sel : ℕ) (way : Way) (b : Bool) (p q : Plan) → G sel way p → G sel way q
    → G sel way (if b then p else q)
way-if ws sel way true p q gp gq = gp
way-if ws sel way false p q gp gq = gq

pub way-first : {G : ℕ → Way → Plan → Type 0} → WayWalks G → (sel : ℕ) (way : Way) (b : Bool) (p q : Plan) → b ≡ true → G sel way p
    → G sel way (if b then p else q)
way-first {G} ws sel way b p q is g = subst (λ c. G sel way (if c then p else q)) (sym is) g

pub way-second : {G : ℕ → Way → Plan → Type 0} → WayWalks G → (sel : ℕ) (way : Way) (b : Bool) (p q : Plan) → b ≡ false → G sel way q
    → G sel way (if b then p else q)
way-second {G} ws sel way b p q is g = subst (λ c. G sel way (if c then p else q)) (sym is) g

-- ---- between commands, a hart rests or runs

pub way_still : {G : ℕ → Way → Plan → Type 0} → WayWalks G → (h : ℕ) (p : Plan) → G 0 Idle p → G h Still p
way_still ws h p g = ws.rests h p (ws.moved 0 h p g)

-- ---- Looks

pub way-look : {G : ℕ → Way → Plan → Type 0} → WayWalks G → (sel : ℕ) (way : Way) (h : ℕ) (next : Seen → Plan) → ((s : Seen) → G sel way (next s))
    → G sel way (look h next)
way-look ws sel way h next g =
    ws.takes sel way (Look h) tt (see (λ b. next (seen_at h b))) (ws.sees sel way (λ b. next (seen_at h b)) (λ b. g (seen_at h b)))

-- do the harts show this of hart h?
abbrev pub shows : (Seen → Bool) → ℕ → List Hart → Bool
shows test h harts = test (seen_here (slice_get harts h))

shown_halted : {G : ℕ → Way → Plan → Type 0} → WayWalks G → (h : ℕ) (absent running halted : Plan) → G h Still halted → (s : Seen)
    → sees_halted s ≡ true → G h Still (by_state absent running halted s)
shown_halted ws h absent running halted gh Absent is = absurd (false≢true is)
shown_halted ws h absent running halted gh (Running ack) is = absurd (false≢true is)
shown_halted ws h absent running halted gh (Halted ack) is = gh

shown_other : {G : ℕ → Way → Plan → Type 0} → WayWalks G → (h : ℕ) (absent running halted : Plan) → G h Idle absent → G h Idle running → (s : Seen)
    → sees_halted s ≡ false → G h Idle (by_state absent running halted s)
shown_other ws h absent running halted ga gr Absent is = ga
shown_other ws h absent running halted ga gr (Running ack) is = gr
shown_other ws h absent running halted ga gr (Halted ack) is = absurd (false≢true (sym is))

-- what a Look of the selected hart shows
pub way-look_by : {G : ℕ → Way → Plan → Type 0} → WayWalks G → (h : ℕ) (absent running halted : Plan) → G h Idle absent → G h Idle running
    → G h Still halted → G h Idle (look h (by_state absent running halted))
way-look_by ws h absent running halted ga gr gh =
    ws.takes h Idle (Look h) tt (see (λ b. by_state absent running halted (seen_at h b)))
    (ws.learns (shows sees_halted h) h Idle Still (λ b. by_state absent running halted (seen_at h b)) (λ m w is k. known-still m h w is k)
    (λ b is. shown_halted ws h absent running halted gh (seen_at h b) is) (λ b is. shown_other ws h absent running halted ga gr (seen_at h b) is))

pub way-until : {G : ℕ → Way → Plan → Type 0} → WayWalks G → (h : ℕ) (way way' : Way) (n : ℕ) (test : Seen → Bool) (failed : Seen → Plan) (found : Plan)
    (last : Seen) → Learns (shows test h) h way way' → ((s : Seen) → G h way (failed s)) → G h way' found → G h way (until n h test failed found last)
unfolding until
way-until ws h way way' zero test failed found last sees gf g = gf last
way-until ws h way way' (suc n) test failed found last sees gf g =
    ws.takes h way (Look h) tt (see (λ b. if test (seen_at h b) then found else until n h test failed found (seen_at h b)))
    (ws.learns (shows test h) h way way' (λ b. if test (seen_at h b) then found else until n h test failed found (seen_at h b)) sees
    (λ b is. way-first ws h way' (test (seen_at h b)) found (until n h test failed found (seen_at h b)) is g)
    (λ b is. way-second ws h way (test (seen_at h b)) found (until n h test failed found (seen_at h b)) is
    (way-until ws h way way' n test failed found (seen_at h b) sees gf g)))

pub way-waiting : {G : ℕ → Way → Plan → Type 0} → WayWalks G → (n h : ℕ) (absent running halted : Plan) → G h Idle absent → G h Idle running
    → G h Still halted → G h Idle (waiting n h absent running halted)
unfolding waiting
way-waiting ws zero h absent running halted ga gr gh = gr
way-waiting ws (suc n) h absent running halted ga gr gh =
    way-look_by ws h absent (waiting n h absent running halted) halted ga (way-waiting ws n h absent running halted ga gr gh) gh

pub way-halted : {G : ℕ → Way → Plan → Type 0} → WayWalks G → (h : ℕ) (next body : Plan) → G 0 Idle next → G h Still body
    → G h Idle (at_halted h next body)
way-halted ws h next body fine g =
    way-look_by ws h (say (Line.NoHart h) next) (say (Line.IsRunning h) next) body
    (ws.says h Idle (Line.NoHart h) next (ws.moved 0 h next fine)) (ws.says h Idle (Line.IsRunning h) next (ws.moved 0 h next fine)) g

-- ---- run control

pub way-stop_line : {G : ℕ → Way → Plan → Type 0} → WayWalks G → (h : ℕ) (next : Plan) → G 0 Idle next → G h Still (stop_line h next)
way-stop_line ws h next fine =
    ws.sees h Still (λ b. say (stop_line_of (slice_get b.harts h)) next)
    (λ b. ws.says h Still (stop_line_of (slice_get b.harts h)) next (way_still ws h next fine))

pub way-halting : {G : ℕ → Way → Plan → Type 0} → WayWalks G → (h : ℕ) (next : Plan) → G h Still next → G h Idle (halting h next)
way-halting ws h next g =
    ws.takes h Idle (HaltReq h) tt _
    (way-until ws h Idle Still most_looks sees_halted (λ s. stop (NoHalt most_looks)) (take (HaltClear h) next) unseen (λ m w is k. known-still m h w is k)
    (λ s. ws.stops h Idle (NoHalt most_looks)) (ws.takes h Still (HaltClear h) tt next g))

pub way-going : {G : ℕ → Way → Plan → Type 0} → WayWalks G → (h : ℕ) (next : Plan) → G h Idle next → G h Ready (going h next)
way-going ws h next g =
    ws.goes h _ (way-until ws h Going Idle most_looks sees_ack (λ s. stop (NoAck most_looks)) next unseen (λ m w is k. known-gone m h w is k)
    (λ s. ws.stops h Going (NoAck most_looks)) g)

-- did hart h halt behind a whole step?
abbrev halted_stepped : ℕ → List Hart → Bool
halted_stepped h harts = is_step (halted_of (slice_get harts h))

learns_stepped : (h : ℕ) → Learns (halted_stepped h) h Still Ready
learns_stepped h m w is k = known-stepped m h w (λ x here. sym (ap (λ o. is_step (halted_of o)) here) ∙ is) k

abbrev after_step : ℕ → (stepped other : Plan) → Plan
after_step h stepped other = see (λ b. if is_step (halted_of (slice_get b.harts h)) then stepped else other)

way-after_step : {G : ℕ → Way → Plan → Type 0} → WayWalks G → (h : ℕ) (stepped other : Plan) → G h Ready stepped → G h Still other
    → G h Still (after_step h stepped other)
way-after_step ws h stepped other gs go =
    ws.learns (halted_stepped h) h Still Ready (λ b. if is_step (halted_of (slice_get b.harts h)) then stepped else other) (learns_stepped h)
    (λ b is. way-first ws h Ready (halted_stepped h b.harts) stepped other is gs) (λ b is. way-second ws h Still
    (halted_stepped h b.harts) stepped other is go)

way-lost_step : {G : ℕ → Way → Plan → Type 0} → WayWalks G → (h : ℕ) (s : Seen) → G h Asked (lost_step s)
way-lost_step ws h s =
    way-if ws h Asked (sees_ack s) (stop (NoHalt most_looks)) (stop (NoAck most_looks)) (ws.stops h Asked (NoHalt most_looks))
    (ws.stops h Asked (NoAck most_looks))

pub way-one : {G : ℕ → Way → Plan → Type 0} → WayWalks G → (h : ℕ) (stepped other : Plan) → G h Ready stepped → G h Still other
    → G h Still (one h stepped other)
way-one ws h stepped other gs go =
    ws.step_over h _ (ws.asks h _
    (way-until ws h Asked Over most_looks sees_both lost_step (change (StepDone h) (after_step h stepped other)) unseen (λ m w is k. known-over m h w is k)
    (way-lost_step ws h) (ws.step_done h (after_step h stepped other) (way-after_step ws h stepped other gs go))))

pub way-stepping : {G : ℕ → Way → Plan → Type 0} → WayWalks G → (h k : ℕ) (next : Plan) → G h Still next → G h Still (stepping k h next)
unfolding stepping
way-stepping ws h zero next g = g
way-stepping ws h (suc k) next g =
    way-one ws h (stepping k h next) next (ws.unspent h (stepping k h next) (way-stepping ws h k next g)) g

pub way-resumed : {G : ℕ → Way → Plan → Type 0} → WayWalks G → (h : ℕ) (next : Plan) → G 0 Idle next → G h Ready (going h (say Line.Resumed next))
way-resumed ws h next fine = way-going ws h (say Line.Resumed next) (ws.says h Idle Line.Resumed next (ws.moved 0 h next fine))
