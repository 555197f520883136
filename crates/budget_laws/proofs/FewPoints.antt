-- Plans along which a replay takes few points, however they are put together.
use Rattle.std.proofs.Common.{ℕ, suc, ◌+◌, ◌<◌, ◌≤◌, List, [], ◌∷◌, length, Bool, true, false, if◌then◌else◌, refl, arith}
use Rattle.std.specs.Prelude.{◌≢◌}
use Rattle.rv_model.specs.Board.{Board}
use Rattle.debug_model.specs.declared.command.Path.{Path}
use Rattle.debug_model.specs.declared.point.Point.{Point}
use Rattle.debug_model.specs.declared.point.Point.TheVariants.{Turn, Look, HaltReq, HaltClear, ResumeReq, Access}
use Rattle.debug_model.specs.Offered.{turns_of}
use Rattle.abstract_debugger.specs.Debugger.{Seen, look}
use Rattle.abstract_debugger.specs.Lines.{Line}
use Rattle.abstract_debugger.specs.Plan.{Change, Plan, PlanEnd}
use Rattle.abstract_debugger.specs.Plan.Plan.{take, on_path, see, change, say, stop}
use Rattle.abstract_debugger.specs.Transcript.{World, changed, finish, passed, replay, said, same_point, taking}
use Rattle.abstract_debugger.specs.Transcript.End.{Astray}

-- a replay that is not led astray has met so many points at most, turns aside
pub record Few (n : ℕ) (p : Plan) : Type 0 where
  pub goes : (w : World) (j : List Point) → (replay p w j).end ≢ Astray → length j ≤ length (turns_of j) + n

-- ---- the six constructors

-- a point that is taken, or leads astray
met : (n : ℕ) (b : Bool) (next : Plan) (w v : World) (j : List Point) → Few n next
    → (if b then replay next w j else record { world = v; end = Astray }).end ≢ Astray → length j ≤ length (turns_of j) + n
met n true next w v j f ends = f.goes w j ends
met n false next w v j f ends = absurd (ends refl)

taking_few : (n : ℕ) (q : Point) (next : Plan) → Few n next → (w : World) (j : List Point) → (taking q (replay next) w j).end ≢ Astray
    → length j ≤ length (turns_of j) + suc n
unfolding turns_of
taking_few n q next f w [] ends = omega arith
taking_few n q next f w (Turn h ∷ j) ends = let h : length j ≤ length (turns_of j) + suc n = taking_few n q next f (passed (Turn h) w) j ends in omega arith
taking_few n q next f w (Look h ∷ j) ends =
    let rest : length j ≤ length (turns_of j) + n = met n (same_point q (Look h)) next (passed (Look h) w) w j f ends in omega arith
taking_few n q next f w (HaltReq h ∷ j) ends =
    let rest : length j ≤ length (turns_of j) + n = met n (same_point q (HaltReq h)) next (passed (HaltReq h) w) w j f ends in omega arith
taking_few n q next f w (HaltClear h ∷ j) ends =
    let rest : length j ≤ length (turns_of j) + n = met n (same_point q (HaltClear h)) next (passed (HaltClear h) w) w j f ends in omega arith
taking_few n q next f w (ResumeReq h ∷ j) ends =
    let rest : length j ≤ length (turns_of j) + n = met n (same_point q (ResumeReq h)) next (passed (ResumeReq h) w) w j f ends in omega arith
taking_few n q next f w (Access ∷ j) ends =
    let rest : length j ≤ length (turns_of j) + n = met n (same_point q Access) next (passed Access w) w j f ends in omega arith

pub few_take : (n m : ℕ) (q : Point) (next : Plan) → n < m → Few n next → Few m (take q next)
unfolding replay
few_take n m q next more f =
    record { goes = λ w j ends. let few : length j ≤ length (turns_of j) + suc n = taking_few n q next f w j ends in omega (arith, few, more) }

pub few_on_path : (n : ℕ) (path : Path) (next : Plan) → Few n next → Few n (on_path path next)
unfolding replay
few_on_path n path next f = record { goes = λ w j ends. f.goes w j ends }

pub few_see : (n : ℕ) (next : Board → Plan) → ((b : Board) → Few n (next b)) → Few n (see next)
unfolding replay
few_see n next f = record { goes = λ w j ends. (f w.board).goes w j ends }

pub few_change : (n : ℕ) (c : Change) (next : Plan) → Few n next → Few n (change c next)
unfolding replay
few_change n c next f = record { goes = λ w j ends. f.goes (changed c w) j ends }

pub few_say : (n : ℕ) (line : Line) (next : Plan) → Few n next → Few n (say line next)
unfolding replay
few_say n line next f = record { goes = λ w j ends. f.goes (said line w) j ends }

-- behind the end of a plan there are turns alone
finish_few : (n : ℕ) (e : PlanEnd) (w : World) (j : List Point) → (finish e w j).end ≢ Astray → length j ≤ length (turns_of j) + n
unfolding turns_of
finish_few n e w [] ends = omega arith
finish_few n e w (Turn h ∷ j) ends = let rest : length j ≤ length (turns_of j) + n = finish_few n e (passed (Turn h) w) j ends in omega arith
finish_few n e w (Look h ∷ j) ends = absurd (ends refl)
finish_few n e w (HaltReq h ∷ j) ends = absurd (ends refl)
finish_few n e w (HaltClear h ∷ j) ends = absurd (ends refl)
finish_few n e w (ResumeReq h ∷ j) ends = absurd (ends refl)
finish_few n e w (Access ∷ j) ends = absurd (ends refl)

pub few_stop : (n : ℕ) (e : PlanEnd) → Few n (stop e)
unfolding replay
few_stop n e = record { goes = finish_few n e }

-- ---- put together

pub few_more : (n m : ℕ) (p : Plan) → n ≤ m → Few n p → Few m p
few_more n m p le f = record { goes = λ w j ends. let few : length j ≤ length (turns_of j) + n = f.goes w j ends in omega arith }

pub few_either : (n : ℕ) (b : Bool) (p q : Plan) → Few n p → Few n q → Few n (if b then p else q)
few_either n true p q fp fq = fp
few_either n false p q fp fq = fq

pub few_look : (n m h : ℕ) (next : Seen → Plan) → n < m → ((s : Seen) → Few n (next s)) → Few m (look h next)
few_look n m h next more f = few_take n m _ _ more (few_see n _ (λ b. f _))
