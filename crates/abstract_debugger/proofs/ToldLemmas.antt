-- Sessions over an object that tells of its chip: one step, the Looks of a wait, and the steps of `step`.
use Rattle.std.proofs.Common.{◌≡◌, ◌+◌, ◌-◌, ◌<◌, ℕ, zero, suc, Bool, true, false, List, Option, Some, None, refl, ap, subst, arith}
use Rattle.std.proofs.lemmas.Option.{none-some, same_Some}
use Rattle.rv_model.specs.Board.{Machine}
use Rattle.abstract_debugger.specs.Debugger.{Seen, one, seen_at, stepping, unseen, until}
use Rattle.abstract_debugger.specs.Known.{IsKnown}
use Rattle.abstract_debugger.specs.Lines.{Line}
use Rattle.abstract_debugger.specs.Plan.{Plan}
use Rattle.abstract_debugger.specs.Stands.{At, Deals, IsTold, Looked, Origin, Reaches, Since, SoFar, Target}
use Rattle.abstract_debugger.specs.Transcript.{World}
use Rattle.abstract_debugger.specs.Ways.{Way}
use Rattle.abstract_debugger.specs.Ways.Way.{Still}
use Rattle.abstract_debugger.proofs.DealsLemmas.{deals_again, deals_at_plan, deals_found, until-zero}

reached : (R : Target → Target → Type 0) (told new : Option Target) (t : Target) → told ≡ Some t → Reaches R told new → IsTold (R t) new
reached R None new t is r = absurd (none-some t is)
reached R (Some u) new t is r = subst (λ x. IsTold (R x) new) (same_Some u t is) r

-- any step of what a session knows is one of what the object tells
pub at_step : (R : Target → Target → Type 0) (m : Machine) (sel : ℕ) (way way' : Way) (o : Origin) (p q : Plan) (lines lines' : List Line)
    (old new : Option Target)
    → ((t u : Target) → Deals m sel way o p lines t → R t u → Deals m sel way' o q lines' u) → At m sel way o p lines old → Reaches R old new
    → At m sel way' o q lines' new
at_step R m sel way way' o p q lines lines' old new steps a r =
    let b : IsTold (R a.target) new = reached R old new a.target a.is r in
    record { target = b.target; is = b.is; holds = steps a.target b.target a.holds b.holds }

pub at_plan_told : (m : Machine) (sel : ℕ) (way : Way) (o : Origin) (p q : Plan) (lines : List Line) (told : Option Target) → p ≡ q
    → At m sel way o p lines told → At m sel way o q lines told
at_plan_told m sel way o p q lines told e a = record { target = a.target; is = a.is; holds = deals_at_plan m sel way o p q lines a.target e a.holds }

-- ---- the Looks of a wait

pub since_none : (m : Machine) (sel : ℕ) (way : Way) (o : Origin) (limit : ℕ) (test : Seen → Bool) (failed : Seen → Plan) (found : Plan) (lines : List Line)
    (told : Option Target)
    → At m sel way o (until limit sel test failed found unseen) lines told → Since m sel way o limit test failed found lines 0 told
since_none m sel way o limit test failed found lines told a n is =
    let e : limit ≡ n = omega arith in
    (unseen, at_plan_told m sel way o _ _ lines told (ap (λ k. until k sel test failed found unseen) e) a)

pub since_again : (m : Machine) (sel : ℕ) (way : Way) (o : Origin) (limit : ℕ) (test : Seen → Bool) (failed : Seen → Plan) (found : Plan) (lines : List Line)
    (tries : ℕ) (now : Seen) (old new : Option Target)
    → test now ≡ false → Since m sel way o limit test failed found lines tries old → Reaches (Looked sel now) old new
    → Since m sel way o limit test failed found lines (tries + 1) new
since_again m sel way o limit test failed found lines tries now old new not_yet since r n is =
    let e : tries + suc n ≡ limit = omega arith in
    let last : Seen = (since (suc n) e).0 in (
      now,
      at_step (Looked sel now) m sel way way o (until (suc n) sel test failed found last) (until n sel test failed found now) lines lines old new
          (λ t u d l. deals_again m sel way o n test failed found last now lines t u not_yet d l) (since (suc n) e).1 r,
    )

pub since_found : (m : Machine) (sel : ℕ) (way way' : Way) (o : Origin) (limit : ℕ) (test : Seen → Bool) (failed : Seen → Plan) (found : Plan)
    (lines : List Line) (tries : ℕ) (now : Seen) (old new : Option Target)
    → tries < limit → test now ≡ true → ((w : World) → test (seen_at sel w.board) ≡ true → IsKnown m sel way w → IsKnown m sel way' w)
    → Since m sel way o limit test failed found lines tries old → Reaches (Looked sel now) old new → At m sel way' o found lines new
since_found m sel way way' o limit test failed found lines tries now old new below is sees since r =
    let n : ℕ = limit - (tries + 1) in
    let e : tries + suc n ≡ limit = omega arith in
    let last : Seen = (since (suc n) e).0 in
    at_step (Looked sel now) m sel way way' o (until (suc n) sel test failed found last) found lines lines old new
    (λ t u d l. deals_found m sel way way' o n test failed found last now lines t u is sees d l) (since (suc n) e).1 r

pub since_over : (m : Machine) (sel : ℕ) (way : Way) (o : Origin) (limit : ℕ) (test : Seen → Bool) (failed : Seen → Plan) (found : Plan) (lines : List Line)
    (tries : ℕ) (told : Option Target)
    → tries ≡ limit → Since m sel way o limit test failed found lines tries told → (last : Seen) × At m sel way o (failed last) lines told
since_over m sel way o limit test failed found lines tries told all since =
    let e : tries + 0 ≡ limit = omega arith in
    let last : Seen = (since 0 e).0 in
    (last, at_plan_told m sel way o _ _ lines told (until-zero sel test failed found last) (since 0 e).1)

-- ---- the steps of `step`

pub stepping-suc : (n h : ℕ) (next : Plan) → stepping (suc n) h next ≡ one h (stepping n h next) next
unfolding stepping
stepping-suc n h next = refl

stepping-zero : (h : ℕ) (next : Plan) → stepping zero h next ≡ next
unfolding stepping
stepping-zero h next = refl

pub so_far_none : (m : Machine) (sel : ℕ) (o : Origin) (count : ℕ) (next : Plan) (lines : List Line) (told : Option Target)
    → At m sel Still o (stepping count sel next) lines told → SoFar m sel o count next lines 0 told
so_far_none m sel o count next lines told a n is =
    let e : count ≡ n = omega arith in
    at_plan_told m sel Still o _ _ lines told (ap (λ k. stepping k sel next) e) a

-- at the next step
pub so_far_next : (m : Machine) (sel : ℕ) (o : Origin) (count : ℕ) (next : Plan) (lines : List Line) (done n : ℕ) (told : Option Target) → done + suc n ≡ count
    → SoFar m sel o count next lines done told
    → At m sel Still o (one sel (stepping n sel next) next) lines told
so_far_next m sel o count next lines done n told is so = at_plan_told m sel Still o _ _ lines told (stepping-suc n sel next) (so (suc n) is)

pub so_far_over : (m : Machine) (sel : ℕ) (o : Origin) (count : ℕ) (next : Plan) (lines : List Line) (done : ℕ) (told : Option Target) → done ≡ count
    → SoFar m sel o count next lines done told
    → At m sel Still o next lines told
so_far_over m sel o count next lines done told all so =
    let e : done + 0 ≡ count = omega arith in
    at_plan_told m sel Still o _ _ lines told (stepping-zero sel next) (so 0 e)
