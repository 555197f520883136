-- Journals that lead along a plan, behind turns and points, whatever became of the board.
use Rattle.std.proofs.Common.{◌≡◌, ◌∙◌, ◌++◌, ◌+◌, ◌-◌, ◌<◌, ℕ, suc, Bool, List, ◌∷◌, refl, sym, ap, subst, append_assoc, arith}
use Rattle.rv_model.specs.Board.{Machine}
use Rattle.debug_model.specs.declared.point.Point.{Point}
use Rattle.debug_model.specs.declared.point.Point.TheVariants.{HaltClear, HaltReq, Look}
use Rattle.debug_model.specs.Journal.{after_point}
use Rattle.abstract_debugger.specs.Debugger.{Seen, halting, most_looks, sees_halted, unseen, until}
use Rattle.abstract_debugger.specs.Lines.{Line}
use Rattle.abstract_debugger.specs.Plan.{Plan}
use Rattle.abstract_debugger.specs.Plan.Plan.{stop, take}
use Rattle.abstract_debugger.specs.Plan.PlanEnd.{NoHalt}
use Rattle.abstract_debugger.specs.Stands.{Cut, Deals, IsTranscribed, Origin, Pointed, Stands, Target}
use Rattle.abstract_debugger.specs.Transcript.{End}
use Rattle.abstract_debugger.specs.Turns.{after_turns, turns}
use Rattle.abstract_debugger.specs.Ways.{Way}
use Rattle.abstract_debugger.specs.Ways.Way.{Idle, Still}
use Rattle.abstract_debugger.proofs.DealsLemmas.{deals_at_plan, deals_halt_req, until-zero, until-suc}
use Rattle.abstract_debugger.proofs.StandsLemmas.{IsTaken, not_astray, said_front, taken, transcribed, turns-append, went_on}
use Rattle.probe_run.specs.Happens.{HaltCut, MissedAt, RunCut}
use Rattle.probe_run.proofs.SessionLemmas.{met, vain}
use Rattle.probe_session.specs.Transcribed.{OnTheWay}
use Rattle.abstract_debugger.proofs.KnownPoints.{known-still}

pub on_way : (o : Origin) (p : Plan) (lines : List Line) (t : Target) (j : List Point) → Stands o p lines t → t.journal ≡ j → OnTheWay o lines j
on_way o p lines t j s is = subst (OnTheWay o lines) is (record { not_astray = not_astray o p lines t s; front = said_front o p lines t s })

-- turns alone
pub turns_way : (o : Origin) (p : Plan) (lines : List Line) (old : Target) (hs : List ℕ) (j : List Point) → Stands o p lines old → j ≡ old.journal ++ turns hs
    → OnTheWay o lines j
turns_way o p lines old hs j s is =
    let t : Target = record { board = after_turns hs old.board; journal = old.journal ++ turns hs } in
    on_way o p lines t j (went_on o p lines old t s (record { harts = hs; board = refl; journal = refl })) (sym is)

-- twice
pub turns_twice : (old mid new : List Point) (hs ks : List ℕ) → mid ≡ old ++ turns hs → new ≡ mid ++ turns ks → new ≡ old ++ turns (hs ++ ks)
turns_twice old mid new hs ks first second =
    second ∙ ap (λ (j : List Point). j ++ turns ks) first ∙ append_assoc old (turns hs) (turns ks)
    ∙ ap (λ (j : List Point). old ++ j) (sym (turns-append hs ks))

-- the point that is taken next
pub point_way : (o : Origin) (q : Point) (next : Plan) (lines : List Line) (old : Target) (before behind : List ℕ) (j : List Point) → IsTaken q
    → Stands o (take q next) lines old
    → j ≡ (old.journal ++ turns before) ++ q ∷ turns behind → OnTheWay o lines j
point_way o q next lines old before behind j ok s is =
    let t : Target = record {
      board = after_turns behind (after_point q (after_turns before old.board));
      journal =
          (old.journal ++ turns before) ++ q ∷ turns behind;
    } in
    on_way o next lines t j (taken o q next lines old t ok s (record { before = before; behind = behind; board = refl; journal = refl })) (sym is)

pub cut_way : (o : Origin) (q : Point) (next : Plan) (lines : List Line) (old new : Target) → IsTaken q → Stands o (take q next) lines old → Cut q old new
    → OnTheWay o lines new.journal
cut_way o q next lines old new ok s (Cut.before went) = turns_way o (take q next) lines old went.harts new.journal s went.journal
cut_way o q next lines old new ok s (Cut.behind at) = point_way o q next lines old at.before at.behind new.journal ok s at.journal

-- ---- a wait

pub look_cut_way : (m : Machine) (sel : ℕ) (way : Way) (o : Origin) (n : ℕ) (test : Seen → Bool) (failed : Seen → Plan) (found : Plan) (last : Seen)
    (lines : List Line) (old new : Target) → Deals m sel way o (until (suc n) sel test failed found last) lines old
    → Cut (Look sel) old new → OnTheWay o lines new.journal
look_cut_way m sel way o n test failed found last lines old new d c =
    cut_way o (Look sel) _ lines old new tt (deals_at_plan m sel way o _ _ lines old (until-suc n sel test failed found last) d).stands c

pub run_cut_way : (m : Machine) (sel : ℕ) (way way' : Way) (o : Origin) (q : Point) (test : Seen → Bool) (failed : Seen → Plan) (found : Plan)
    (lines : List Line) (old new : Target) → IsTaken q
    → ((asked : Target) → Pointed q old asked → Deals m sel way' o (until most_looks sel test failed found unseen) lines asked)
    → Deals m sel way o (take q (until most_looks sel test failed found unseen)) lines old → RunCut q test sel old new → OnTheWay o lines new.journal
run_cut_way m sel way way' o q test failed found lines old new ok asks d (RunCut.at_request c) = cut_way o q _ lines old new ok d.stands c
run_cut_way m sel way way' o q test failed found lines old new ok asks d (RunCut.at_look l) =
    let n : ℕ = 64 - (l.looks + 1) in
    let few : l.looks < 64 = l.few in
    let is : l.looks + suc n ≡ 64 = omega arith in
    look_cut_way m sel way' o n test failed found l.last lines l.mid new (vain m sel way' o test failed found lines l.asked l.looks l.last l.mid l.in_vain
    (suc n) 64 is (asks l.asked l.asks)) l.cut

-- 64 Looks that did not see what was wanted
pub missed_deals : (m : Machine) (sel : ℕ) (way : Way) (o : Origin) (q : Point) (test : Seen → Bool) (failed : Seen → Plan) (found : Plan) (last : Seen)
    (lines : List Line) (old new : Target)
    → ((asked : Target) → Pointed q old asked → Deals m sel way o (until most_looks sel test failed found unseen) lines asked)
    → MissedAt q test sel last old new → Deals m sel way o (failed last) lines new
missed_deals m sel way o q test failed found last lines old new asks missed =
    let is : 64 + 0 ≡ 64 = omega arith in
    deals_at_plan m sel way o _ _ lines new (until-zero sel test failed found last)
    (vain m sel way o test failed found lines missed.asked most_looks last new missed.in_vain 0 64 is (asks missed.asked missed.asks))

-- ---- a halt

halt_asked : (m : Machine) (h : ℕ) (o : Origin) (next : Plan) (lines : List Line) (old asked : Target) → Deals m h Idle o (halting h next) lines old
    → Pointed (HaltReq h) old asked
    → Deals m h Idle o (until most_looks h sees_halted (λ s. stop (NoHalt most_looks)) (take (HaltClear h) next) unseen) lines asked
halt_asked m h o next lines old asked d at = deals_halt_req m h Idle h o _ lines old asked d at

pub halt_cut_way : (m : Machine) (h : ℕ) (o : Origin) (next : Plan) (lines : List Line) (old new : Target) → Deals m h Idle o (halting h next) lines old
    → HaltCut h old new → OnTheWay o lines new.journal
halt_cut_way m h o next lines old new d (HaltCut.before_halt c) =
    run_cut_way m h Idle Idle o (HaltReq h) sees_halted (λ s. stop (NoHalt most_looks)) (take (HaltClear h) next) lines old new tt
    (λ asked at. halt_asked m h o next lines old asked d at) d c
halt_cut_way m h o next lines old new d (HaltCut.at_clear c) =
    cut_way o (HaltClear h) next lines c.mid new tt
    (met m h Idle Still o (HaltReq h) sees_halted (λ s. stop (NoHalt most_looks)) (take (HaltClear h) next) lines old c.mid c.met (known-still m h)
    (halt_asked m h o next lines old c.met.asked d c.met.asks)).stands c.cut

pub halt_missed : (m : Machine) (h : ℕ) (o : Origin) (next : Plan) (last : Seen) (lines : List Line) (old new : Target)
    → Deals m h Idle o (halting h next) lines old → MissedAt (HaltReq h) sees_halted h last old new
    → IsTranscribed o (End.NoHalt most_looks) lines new
halt_missed m h o next last lines old new d missed =
    transcribed o (NoHalt most_looks) lines new
    (missed_deals m h Idle o (HaltReq h) sees_halted (λ s. stop (NoHalt most_looks)) (take (HaltClear h) next) last lines old new
    (λ asked at. halt_asked m h o next lines old asked d at) missed).stands
