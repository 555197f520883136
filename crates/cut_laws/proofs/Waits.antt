-- A point that was cut, and a request with its Looks: the plan changes nothing in between, so that the replay's board is the chip's.
use Rattle.std.proofs.Common.{◌≡◌, ◌+◌, ◌-◌, ◌<◌, ℕ, zero, suc, Bool, true, false, List, refl, arith}
use Rattle.rv_model.specs.Board.{Machine}
use Rattle.debug_model.specs.declared.point.Point.{Point}
use Rattle.debug_model.specs.declared.point.Point.TheVariants.{Look}
use Rattle.abstract_debugger.specs.Debugger.{Seen, most_looks, seen_at, unseen, until}
use Rattle.abstract_debugger.specs.Known.{IsKnown}
use Rattle.abstract_debugger.specs.Laws.{Quiet}
use Rattle.abstract_debugger.specs.Lines.{Line}
use Rattle.abstract_debugger.specs.Plan.{Plan}
use Rattle.abstract_debugger.specs.Plan.Plan.{take}
use Rattle.abstract_debugger.specs.Stands.{Cut, Deals, Looked, Origin, Pointed, Stands, Target}
use Rattle.abstract_debugger.specs.Transcript.{World}
use Rattle.abstract_debugger.specs.Turns.{after_turns}
use Rattle.abstract_debugger.specs.Ways.{Way}
use Rattle.abstract_debugger.proofs.DealsLemmas.{deals_again, deals_found}
use Rattle.abstract_debugger.proofs.StandsLemmas.{IsTaken, taken, went_on}
use Rattle.probe_run.specs.Happens.{RunCut}
use Rattle.probe_run.proofs.SessionLemmas.{vain}
use Rattle.left_laws.specs.Left.{Spared}
use Rattle.cut_laws.specs.Cut.{EndsBut}
use Rattle.cut_laws.proofs.Ends.{quiet_ends}

-- at the point, or behind it
pub cut_ends : (sp : Spared) (o : Origin) (q : Point) (next : Plan) (lines : List Line) (old new : Target) → IsTaken q
    → (Stands o next lines new → EndsBut sp o new) → Stands o (take q next) lines old → Cut q old new → EndsBut sp o new
cut_ends sp o q next lines old new ok behind st (Cut.before went) = quiet_ends sp o (take q next) lines new tt (went_on o (take q next) lines old new st went)
cut_ends sp o q next lines old new ok behind st (Cut.behind at) = behind (taken o q next lines old new ok st at)

-- ---- a wait

pub until_quiet : (n h : ℕ) (test : Seen → Bool) (failed : Seen → Plan) (found : Plan) (last : Seen) → ((s : Seen) → Quiet (failed s))
    → Quiet (until n h test failed found last)
unfolding until
until_quiet zero h test failed found last quiet = quiet last
until_quiet (suc n) h test failed found last quiet = tt

-- a Look of it whose answer was lost
look_by : (b : Bool) (sp : Spared) (m : Machine) (sel : ℕ) (way way' : Way) (o : Origin) (n : ℕ) (test : Seen → Bool) (failed : Seen → Plan) (found : Plan)
    (last now : Seen) (lines : List Line) (old new : Target) → test now ≡ b → ((s : Seen) → Quiet (failed s))
    → ((w : World) → test (seen_at sel w.board) ≡ true → IsKnown m sel way w → IsKnown m sel way' w)
    → (Deals m sel way' o found lines new → EndsBut sp o new)
    → Deals m sel way o (until (suc n) sel test failed found last) lines old → Looked sel now old new → EndsBut sp o new
look_by true sp m sel way way' o n test failed found last now lines old new is quiet sees ends d at =
    ends (deals_found m sel way way' o n test failed found last now lines old new is sees d at)
look_by false sp m sel way way' o n test failed found last now lines old new is quiet sees ends d at =
    quiet_ends sp o (until n sel test failed found now) lines new (until_quiet n sel test failed found now quiet)
    (deals_again m sel way o n test failed found last now lines old new is d at).stands

look_cut_ends : (sp : Spared) (m : Machine) (sel : ℕ) (way way' : Way) (o : Origin) (n : ℕ) (test : Seen → Bool) (failed : Seen → Plan) (found : Plan)
    (last : Seen) (lines : List Line) (old new : Target) → ((s : Seen) → Quiet (failed s))
    → ((w : World) → test (seen_at sel w.board) ≡ true → IsKnown m sel way w → IsKnown m sel way' w)
    → (Deals m sel way' o found lines new → EndsBut sp o new)
    → Deals m sel way o (until (suc n) sel test failed found last) lines old → Cut (Look sel) old new → EndsBut sp o new
look_cut_ends sp m sel way way' o n test failed found last lines old new quiet sees ends d (Cut.before went) =
    quiet_ends sp o (until (suc n) sel test failed found last) lines new (until_quiet (suc n) sel test failed found last quiet)
    (went_on o (until (suc n) sel test failed found last) lines old new d.stands went)
look_cut_ends sp m sel way way' o n test failed found last lines old new quiet sees ends d (Cut.behind at) =
    let now : Seen = seen_at sel (after_turns at.before old.board) in
    look_by (test now) sp m sel way way' o n test failed found last now lines old new refl quiet sees ends d (record { pointed = at; shows = refl })

-- the request, and its Looks
pub run_cut_ends : (sp : Spared) (m : Machine) (sel : ℕ) (way way' way'' : Way) (o : Origin) (q : Point) (test : Seen → Bool) (failed : Seen → Plan)
    (found : Plan) (lines : List Line) (old new : Target) → IsTaken q → ((s : Seen) → Quiet (failed s))
    → ((w : World) → test (seen_at sel w.board) ≡ true → IsKnown m sel way' w → IsKnown m sel way'' w)
    → (Deals m sel way'' o found lines new → EndsBut sp o new)
    → ((asked : Target) → Pointed q old asked → Deals m sel way' o (until most_looks sel test failed found unseen) lines asked)
    → Deals m sel way o (take q (until most_looks sel test failed found unseen)) lines old → RunCut q test sel old new → EndsBut sp o new
run_cut_ends sp m sel way way' way'' o q test failed found lines old new ok quiet sees ends asks d (RunCut.at_request c) =
    cut_ends sp o q (until most_looks sel test failed found unseen) lines old new ok
    (quiet_ends sp o (until most_looks sel test failed found unseen) lines new (until_quiet most_looks sel test failed found unseen quiet)) d.stands c
run_cut_ends sp m sel way way' way'' o q test failed found lines old new ok quiet sees ends asks d (RunCut.at_look l) =
    let n : ℕ = 64 - (l.looks + 1) in
    let few : l.looks < 64 = l.few in
    let is : l.looks + suc n ≡ 64 = omega arith in
    look_cut_ends sp m sel way' way'' o n test failed found l.last lines l.mid new quiet sees ends
    (vain m sel way' o test failed found lines l.asked l.looks l.last l.mid l.in_vain (suc n) 64 is (asks l.asked l.asks)) l.cut
