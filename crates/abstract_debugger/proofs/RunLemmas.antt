-- Run control as a whole: a wait of several Looks, a halt, a resume and one single step, from the plan in front of each to the plan behind it.
use Rattle.std.proofs.Common.{◌≡◌, ℕ, zero, suc, Bool, true, false, List, slice_get, if◌then◌else◌}
use Rattle.rv_model.specs.Board.{Machine}
use Rattle.debug_model.specs.declared.point.Point.TheVariants.{HaltClear, HaltReq, ResumeReq}
use Rattle.abstract_debugger.specs.Debugger.{Seen, going, halted_of, halting, lost_step, most_looks, one, seen_at, sees_ack, sees_both, sees_halted}
use Rattle.abstract_debugger.specs.Debugger.{unseen, until}
use Rattle.abstract_debugger.specs.Known.{IsKnown}
use Rattle.abstract_debugger.specs.Lines.{Line}
use Rattle.abstract_debugger.specs.Plan.{Plan, is_step}
use Rattle.abstract_debugger.specs.Plan.Change.{StepDone, StepOver}
use Rattle.abstract_debugger.specs.Plan.Plan.{change, see, stop, take}
use Rattle.abstract_debugger.specs.Plan.PlanEnd.{NoAck, NoHalt}
use Rattle.abstract_debugger.specs.Stands.{Deals, Looked, Origin, Pointed, Rewrote, Target}
use Rattle.abstract_debugger.specs.Transcript.{World}
use Rattle.abstract_debugger.specs.Ways.{Way}
use Rattle.abstract_debugger.specs.Ways.Way.{Asked, Going, Idle, Over, Ready, Still}
use Rattle.abstract_debugger.proofs.DealsLemmas.{deals_again, deals_ask, deals_at_plan, deals_done, deals_found, deals_go, deals_halt_clear}
use Rattle.abstract_debugger.proofs.DealsLemmas.{deals_halt_req, deals_hold, deals_otherwise, deals_stepped, until-zero}
use Rattle.abstract_debugger.proofs.FrozenLemmas.{hart_change}
use Rattle.abstract_debugger.proofs.KnownPoints.{known-still, known-gone, known-over}

-- Looks of hart h, at most so many, of which the last alone showed what was wanted
pub data Waited (test : Seen → Bool) (h : ℕ) : ℕ → Target → Target → Type 0 where
  at_once : {n : ℕ} {old new : Target} → (now : Seen) → Looked h now old new → test now ≡ true → Waited test h (suc n) old new
  later : {n : ℕ} {old mid new : Target} → (now : Seen) → Looked h now old mid → test now ≡ false → Waited test h n mid new → Waited test h (suc n) old new

-- so many Looks, none of which showed it
pub data InVain (test : Seen → Bool) (h : ℕ) : ℕ → Target → Target → Type 0 where
  over : {t : Target} → InVain test h zero t t
  again : {n : ℕ} {old mid new : Target} → (now : Seen) → Looked h now old mid → test now ≡ false → InVain test h n mid new → InVain test h (suc n) old new

pub waited : (m : Machine) (sel : ℕ) (way way' : Way) (o : Origin) (test : Seen → Bool) (failed : Seen → Plan) (found : Plan) (lines : List Line)
    → ((w : World) → test (seen_at sel w.board) ≡ true → IsKnown m sel way w → IsKnown m sel way' w)
    → (n : ℕ) (old new : Target) (last : Seen) → Waited test sel n old new → Deals m sel way o (until n sel test failed found last) lines old
    → Deals m sel way' o found lines new
waited m sel way way' o test failed found lines sees n old new last (at_once {n = k} now look is) d =
    deals_found m sel way way' o k test failed found last now lines old new is sees d look
waited m sel way way' o test failed found lines sees n old new last (later {n = k} {mid = mid} now look is rest) d =
    waited m sel way way' o test failed found lines sees k mid new now rest (deals_again m sel way o k test failed found last now lines old mid is d look)

-- ---- a halt, and a resume

pub halted : (m : Machine) (sel : ℕ) (o : Origin) (next : Plan) (lines : List Line) (first second third fourth : Target) → Pointed (HaltReq sel) first second
    → Waited sees_halted sel most_looks second third → Pointed (HaltClear sel) third fourth → Deals m sel Idle o (halting sel next) lines first
    → Deals m sel Still o next lines fourth
halted m sel o next lines first second third fourth asks waits clears d =
    deals_halt_clear m sel Still sel o next lines third fourth
    (waited m sel Idle Still o sees_halted (λ s. stop (NoHalt most_looks)) (take (HaltClear sel) next) lines (known-still m sel) most_looks
    second third unseen waits
    (deals_halt_req m sel Idle sel o _ lines first second d asks)) clears

pub resumed : (m : Machine) (sel : ℕ) (o : Origin) (next : Plan) (lines : List Line) (first second third : Target) → Pointed (ResumeReq sel) first second
    → Waited sees_ack sel most_looks second third → Deals m sel Ready o (going sel next) lines first → Deals m sel Idle o next lines third
resumed m sel o next lines first second third asks waits d =
    waited m sel Going Idle o sees_ack (λ s. stop (NoAck most_looks)) next lines (known-gone m sel) most_looks second third unseen waits
    (deals_go m sel o _ lines first second d asks)

-- ---- one single step

abbrev after_step : ℕ → (stepped other : Plan) → Plan
after_step sel stepped other = see (λ b. if is_step (halted_of (slice_get b.harts sel)) then stepped else other)

made : (m : Machine) (sel : ℕ) (o : Origin) (stepped other : Plan) (lines : List Line) (first second third fourth fifth : Target)
    → Rewrote (hart_change (StepOver sel)) sel first second
    → Pointed (ResumeReq sel) second third → Waited sees_both sel most_looks third fourth → Rewrote (hart_change (StepDone sel)) sel fourth fifth
    → Deals m sel Still o (one sel stepped other) lines first → Deals m sel Still o (after_step sel stepped other) lines fifth
made m sel o stepped other lines first second third fourth fifth holds asks waits ends d =
    deals_done m sel o (after_step sel stepped other) lines fourth fifth
    (waited m sel Asked Over o sees_both lost_step (change (StepDone sel) (after_step sel stepped other)) lines (known-over m sel) most_looks third
    fourth unseen waits
    (deals_ask m sel o _ lines second third (deals_hold m sel o _ lines first second d holds) asks)) ends

-- a whole one
pub stepped_once : (m : Machine) (sel : ℕ) (o : Origin) (stepped other : Plan) (lines : List Line) (first second third fourth fifth : Target)
    → Rewrote (hart_change (StepOver sel)) sel first second
    → Pointed (ResumeReq sel) second third → Waited sees_both sel most_looks third fourth → Rewrote (hart_change (StepDone sel)) sel fourth fifth
    → is_step (halted_of (slice_get fifth.board.harts sel)) ≡ true → Deals m sel Still o (one sel stepped other) lines first
    → Deals m sel Ready o stepped lines fifth
stepped_once m sel o stepped other lines first second third fourth fifth holds asks waits ends is d =
    deals_stepped m sel o stepped other lines fifth is (made m sel o stepped other lines first second third fourth fifth holds asks waits ends d)

-- one that ended for another cause
pub stopped_otherwise : (m : Machine) (sel : ℕ) (o : Origin) (stepped other : Plan) (lines : List Line) (first second third fourth fifth : Target)
    → Rewrote (hart_change (StepOver sel)) sel first second
    → Pointed (ResumeReq sel) second third → Waited sees_both sel most_looks third fourth → Rewrote (hart_change (StepDone sel)) sel fourth fifth
    → is_step (halted_of (slice_get fifth.board.harts sel)) ≡ false → Deals m sel Still o (one sel stepped other) lines first
    → Deals m sel Still o other lines fifth
stopped_otherwise m sel o stepped other lines first second third fourth fifth holds asks waits ends is d =
    deals_otherwise m sel o stepped other lines fifth is (made m sel o stepped other lines first second third fourth fifth holds asks waits ends d)

-- ---- Looks in vain: the plan that is left is the one that failed

pub failed_wait : (m : Machine) (sel : ℕ) (way : Way) (o : Origin) (test : Seen → Bool) (failed : Seen → Plan) (found : Plan) (lines : List Line) (n : ℕ)
    (last : Seen) (old new : Target)
    → InVain test sel n old new → Deals m sel way o (until n sel test failed found last) lines old → (s : Seen) × Deals m sel way o (failed s) lines new
failed_wait m sel way o test failed found lines n last old new over d = (
  last,
  deals_at_plan m sel way o _ (failed last) lines old
      (until-zero sel test failed found last) d,
)
failed_wait m sel way o test failed found lines n last old new (again {n = k} {mid = mid} now look is rest) d =
    failed_wait m sel way o test failed found lines k now mid new rest (deals_again m sel way o k test failed found last now lines old mid is d look)
