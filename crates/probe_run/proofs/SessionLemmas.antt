-- From a request and its Looks at the harts to the place of a session behind them.
use Rattle.std.proofs.Common.{◌≡◌, ◌+◌, ◌-◌, ◌<◌, ℕ, suc, Bool, true, List, ap, arith}
use Rattle.rv_model.specs.Board.{Machine}
use Rattle.debug_model.specs.declared.point.Point.{Point}
use Rattle.debug_model.specs.declared.point.Point.TheVariants.{HaltClear, HaltReq, ResumeReq}
use Rattle.abstract_debugger.specs.Debugger.{Seen, lost_step, most_looks, seen_at, sees_ack, sees_both, sees_halted, unseen, until}
use Rattle.abstract_debugger.specs.Known.{IsKnown}
use Rattle.abstract_debugger.specs.Lines.{Line}
use Rattle.abstract_debugger.specs.Plan.{Plan}
use Rattle.abstract_debugger.specs.Plan.Plan.{stop, take}
use Rattle.abstract_debugger.specs.Plan.PlanEnd.{NoAck, NoHalt}
use Rattle.abstract_debugger.specs.Stands.{Deals, Origin, Target}
use Rattle.abstract_debugger.specs.Transcript.{World}
use Rattle.abstract_debugger.specs.Ways.{Way}
use Rattle.abstract_debugger.specs.Ways.Way.{Asked, Going, Idle, Over, Still}
use Rattle.abstract_debugger.proofs.DealsLemmas.{deals_again, deals_ask, deals_at_plan, deals_found, deals_go, deals_halt_clear, deals_halt_req}
use Rattle.probe_run.specs.Happens.{InVain, MetAt}
use Rattle.probe_run.specs.Happens.InVain.{none, again}
use Rattle.probe_run.specs.SessionLaws.{HaltsLead, ResumesLead, StepsLead}
use Rattle.abstract_debugger.proofs.KnownPoints.{known-still, known-gone, known-over}

pub vain : (m : Machine) (sel : ℕ) (way : Way) (o : Origin) (test : Seen → Bool) (failed : Seen → Plan) (found : Plan) (lines : List Line) (old : Target)
    (k : ℕ) (last : Seen) (mid : Target) → InVain test sel old k last mid
    → (n all : ℕ) → k + n ≡ all → Deals m sel way o (until all sel test failed found unseen) lines old
    → Deals m sel way o (until n sel test failed found last) lines mid
vain m sel way o test failed found lines old k last mid none n all is d =
    let e : all ≡ n = omega arith in
    deals_at_plan m sel way o _ _ lines old (ap (λ j. until j sel test failed found unseen) e) d
vain m sel way o test failed found lines old k last mid (again j before now between end v look shown) n all is d =
    deals_again m sel way o n test failed found before now lines between end shown
    (vain m sel way o test failed found lines old j before between v (suc n) all (omega arith) d) look

pub met : (m : Machine) (sel : ℕ) (way way' : Way) (o : Origin) (p : Point) (test : Seen → Bool) (failed : Seen → Plan) (found : Plan) (lines : List Line)
    (old new : Target) (a : MetAt p test sel old new)
    → ((w : World) → test (seen_at sel w.board) ≡ true → IsKnown m sel way w → IsKnown m sel way' w)
    → Deals m sel way o (until most_looks sel test failed found unseen) lines a.asked → Deals m sel way' o found lines new
met m sel way way' o p test failed found lines old new a sees d =
    let n : ℕ = 64 - (a.looks + 1) in
    let few : a.looks < 64 = a.few in
    let is : a.looks + suc n ≡ 64 = omega arith in
    deals_found m sel way way' o n test failed found a.last a.now lines a.mid new a.shown sees
    (vain m sel way o test failed found lines a.asked a.looks a.last a.mid a.in_vain (suc n) 64 is d) a.look

pub halts_lead : HaltsLead
halts_lead m h o next lines old new a d =
    deals_halt_clear m h Still h o next lines a.mid new
    (met m h Idle Still o (HaltReq h) sees_halted (λ s. stop (NoHalt most_looks)) (take (HaltClear h) next) lines old a.mid a.met (known-still m h)
    (deals_halt_req m h Idle h o _ lines old a.met.asked d a.met.asks)) a.clears

pub resumes_lead : ResumesLead
resumes_lead m h o next lines old new a d =
    met m h Going Idle o (ResumeReq h) sees_ack (λ s. stop (NoAck most_looks)) next lines old new a (known-gone m h)
    (deals_go m h o _ lines old a.asked d a.asks)

pub steps_lead : StepsLead
steps_lead m h o next lines old new a d =
    met m h Asked Over o (ResumeReq h) sees_both lost_step next lines old new a (known-over m h) (deals_ask m h o _ lines old a.asked d a.asks)
