-- Plans whose replays keep to first match, by how they are put together: each lemma carries every journal and every end.
use Rattle.std.proofs.Common.{◌≡◌, ℕ, Bool, true, false, List, [], ◌∷◌, refl, subst, if◌then◌else◌}
use Rattle.rv_model.specs.Board.{Board, Machine}
use Rattle.debug_model.specs.declared.command.Path.{Path}
use Rattle.debug_model.specs.declared.point.Point.{Point}
use Rattle.debug_model.specs.declared.point.Point.TheVariants.{Turn, Look, HaltReq, HaltClear, ResumeReq, Access}
use Rattle.abstract_debugger.specs.FirstMatch.{FirstMatch}
use Rattle.abstract_debugger.specs.Known.{IsKnown}
use Rattle.abstract_debugger.specs.Lines.{Line}
use Rattle.abstract_debugger.specs.Plan.{Change, Plan, PlanEnd}
use Rattle.abstract_debugger.specs.Plan.Plan.{take, on_path, see, change, say, stop}
use Rattle.abstract_debugger.specs.Transcript.{Outcome, World, changed, finish, passed, replay, said, same_point, taking}
use Rattle.abstract_debugger.specs.Ways.{Way}
use Rattle.abstract_debugger.specs.Ways.Way.{Idle, Still, Ready}
use Rattle.abstract_debugger.proofs.PointLemmas.{same_point-equal}
use Rattle.abstract_debugger.proofs.KnownHarts.{known-said, known_idle}
use Rattle.abstract_debugger.proofs.KnownPoints.{known-turn, known-unspent}

-- from every world of which this is known, along every journal, first match is kept
pub record Good (m : Machine) (sel : ℕ) (way : Way) (p : Plan) : Type 0 where
  pub goes : (w : World) → IsKnown m sel way w → (j : List Point) → FirstMatch m (replay p w j).world.past

-- between commands
abbrev pub Fine : Machine → Plan → Type 0
Fine m p = Good m 0 Idle p

-- ---- more or less is known

pub good-weaker : (m : Machine) (sel : ℕ) (way way' : Way) (p : Plan) → ((w : World) → IsKnown m sel way w → IsKnown m sel way' w)
    → Good m sel way' p → Good m sel way p
good-weaker m sel way way' p less g = record { goes = λ w k j. g.goes w (less w k) j }

pub fine_idle : (m : Machine) (h : ℕ) (p : Plan) → Fine m p → Good m h Idle p
fine_idle m h p g = record { goes = λ w k j. g.goes w (known_idle m h 0 w k) j }

pub idle_fine : (m : Machine) (h : ℕ) (p : Plan) → Good m h Idle p → Fine m p
idle_fine m h p g = record { goes = λ w k j. g.goes w (known_idle m 0 h w k) j }

pub still_ready : (m : Machine) (h : ℕ) (p : Plan) → Good m h Still p → Good m h Ready p
still_ready m h p g = good-weaker m h Ready Still p (known-unspent m h) g

-- ---- the six constructors

matched_either : (m : Machine) (b : Bool) (x y : Outcome) → (b ≡ true → FirstMatch m x.world.past) → FirstMatch m y.world.past
    → FirstMatch m (if b then x else y).world.past
matched_either m true x y fx fy = fx refl
matched_either m false x y fx fy = fy

taking-good : (m : Machine) (sel : ℕ) (way way' : Way) (p : Point) (next : Plan) → ((w : World) → IsKnown m sel way w → IsKnown m sel way' (passed p w))
    → Good m sel way' next
    → (w : World) → IsKnown m sel way w → (j : List Point) → FirstMatch m (taking p (replay next) w j).world.past
taking-good m sel way way' p next steps g w k [] = k.right
taking-good m sel way way' p next steps g w k (Turn h ∷ j) = taking-good m sel way way' p next steps g (passed (Turn h) w) (known-turn m sel way h w k) j
taking-good m sel way way' p next steps g w k (Look n ∷ j) =
    matched_either m (same_point p (Look n)) _ _ (λ e. subst (λ q. FirstMatch m (replay next (passed q w) j).world.past) (same_point-equal p (Look n) e)
    (g.goes (passed p w) (steps w k) j)) k.right
taking-good m sel way way' p next steps g w k (HaltReq h ∷ j) =
    matched_either m (same_point p (HaltReq h)) _ _ (λ e. subst (λ q. FirstMatch m (replay next (passed q w) j).world.past) (same_point-equal p (HaltReq h) e)
    (g.goes (passed p w) (steps w k) j)) k.right
taking-good m sel way way' p next steps g w k (HaltClear h ∷ j) =
    matched_either m (same_point p (HaltClear h)) _ _ (λ e. subst (λ q. FirstMatch m (replay next (passed q w) j).world.past)
    (same_point-equal p (HaltClear h) e) (g.goes (passed p w) (steps w k) j)) k.right
taking-good m sel way way' p next steps g w k (ResumeReq h ∷ j) =
    matched_either m (same_point p (ResumeReq h)) _ _ (λ e. subst (λ q. FirstMatch m (replay next (passed q w) j).world.past)
    (same_point-equal p (ResumeReq h) e) (g.goes (passed p w) (steps w k) j)) k.right
taking-good m sel way way' p next steps g w k (Access ∷ j) =
    matched_either m (same_point p Access) _ _ (λ e. subst (λ q. FirstMatch m (replay next (passed q w) j).world.past) (same_point-equal p Access e)
    (g.goes (passed p w) (steps w k) j)) k.right

pub good-take : (m : Machine) (sel : ℕ) (way way' : Way) (p : Point) (next : Plan) → ((w : World) → IsKnown m sel way w → IsKnown m sel way' (passed p w))
    → Good m sel way' next → Good m sel way (take p next)
unfolding replay
good-take m sel way way' p next steps g = record { goes = λ w k j. taking-good m sel way way' p next steps g w k j }

pub good-on_path : (m : Machine) (sel : ℕ) (way : Way) (path : Path) (next : Plan) → Good m sel way next → Good m sel way (on_path path next)
unfolding replay
good-on_path m sel way path next g = record { goes = λ w k j. g.goes w k j }

pub good-see : (m : Machine) (sel : ℕ) (way : Way) (next : Board → Plan)
    → ((w : World) → IsKnown m sel way w → (j : List Point) → FirstMatch m (replay (next w.board) w j).world.past) → Good m sel way (see next)
unfolding replay
good-see m sel way next g = record { goes = λ w k j. g w k j }

pub good-change : (m : Machine) (sel : ℕ) (way way' : Way) (c : Change) (next : Plan) → ((w : World) → IsKnown m sel way w → IsKnown m sel way' (changed c w))
    → Good m sel way' next → Good m sel way (change c next)
unfolding replay
good-change m sel way way' c next steps g = record { goes = λ w k j. g.goes (changed c w) (steps w k) j }

pub good-say : (m : Machine) (sel : ℕ) (way : Way) (line : Line) (next : Plan) → Good m sel way next → Good m sel way (say line next)
unfolding replay
good-say m sel way line next g = record { goes = λ w k j. g.goes (said line w) (known-said m sel way line w k) j }

finish-good : (m : Machine) (sel : ℕ) (way : Way) (end : PlanEnd) (w : World) → IsKnown m sel way w → (j : List Point)
    → FirstMatch m (finish end w j).world.past
finish-good m sel way end w k [] = k.right
finish-good m sel way end w k (Turn h ∷ j) = finish-good m sel way end (passed (Turn h) w) (known-turn m sel way h w k) j
finish-good m sel way end w k (Look n ∷ j) = k.right
finish-good m sel way end w k (HaltReq h ∷ j) = k.right
finish-good m sel way end w k (HaltClear h ∷ j) = k.right
finish-good m sel way end w k (ResumeReq h ∷ j) = k.right
finish-good m sel way end w k (Access ∷ j) = k.right

pub good-stop : (m : Machine) (sel : ℕ) (way : Way) (end : PlanEnd) → Good m sel way (stop end)
unfolding replay
good-stop m sel way end = record { goes = λ w k j. finish-good m sel way end w k j }

-- ---- choices

pub chosen : (m : Machine) (b : Bool) (p q : Plan) (w : World) (j : List Point) → (b ≡ true → FirstMatch m (replay p w j).world.past)
    → (b ≡ false → FirstMatch m (replay q w j).world.past)
    → FirstMatch m (replay (if b then p else q) w j).world.past
chosen m true p q w j fp fq = fp refl
chosen m false p q w j fp fq = fq refl
