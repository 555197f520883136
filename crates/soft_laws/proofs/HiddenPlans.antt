-- Plans whose lowered replays stay hidden behind what a user sees, by how they are put together: each lemma carries every journal and every end.
use Rattle.std.proofs.Common.{◌≡◌, Bool, true, false, List, [], ◌∷◌, refl, sym, ap, subst}
use Rattle.std.proofs.Common.{if◌then◌else◌}
use Rattle.rv_model.specs.Board.{Board, Machine}
use Rattle.debug_model.specs.declared.command.Path.{Path}
use Rattle.debug_model.specs.declared.point.Point.{Point}
use Rattle.debug_model.specs.declared.point.Point.TheVariants.{Turn, Look, HaltReq, HaltClear, ResumeReq, Access}
use Rattle.abstract_debugger.specs.Lines.{Line}
use Rattle.abstract_debugger.specs.Plan.{Change, Plan, PlanEnd}
use Rattle.abstract_debugger.specs.Plan.Plan.{take, on_path, see, change, say, stop}
use Rattle.abstract_debugger.specs.Transcript.{End, Outcome, World, changed, graded, passed, replay, said, same_point, taking, finish}
use Rattle.soft_laws.specs.Laws.{HasRun}
use Rattle.soft_laws.specs.Lowered.{Table, lower}
use Rattle.soft_laws.specs.SoftBreaks.{covered}
use Rattle.soft_laws.specs.SoftReplay.{soft_finish, soft_passed, soft_replay, soft_taking}
use Rattle.soft_laws.specs.SoftTurns.{soft_turned}
use Rattle.soft_laws.specs.Undisturbed.{Undisturbed}
use Rattle.soft_laws.proofs.Hidings.{Hides, StopsWhereCovered}
use Rattle.soft_laws.proofs.SinceLemmas.{since-finish, since-replay, since-taking}
use Rattle.soft_laws.proofs.StepHides.{IsOfWords, hides-board, hides-changed, hides-passed, hides-said, low_of, lowered-change, table_of}

-- the chip ends as the user sees it end, with some table
pub record Same (m : Machine) (seen chip : Outcome) : Type 0 where
  pub end : chip.end ≡ seen.end
  pub table : Table
  pub hides : Hides m table seen.world chip.world
  pub cleared : HasRun seen.end → covered seen.world.past ≡ []

-- from every world of which this is known, and every chip's that it hides, along every journal
pub record Hidden (m : Machine) (K : World → Type 0) (p : Plan) : Type 0 where
  pub goes : (t : Table) (seen chip : World) → Hides m t seen chip → K seen → (j : List Point) → Undisturbed m (soft_replay p seen j).world.past
      → Same m (soft_replay p seen j) (replay (lower p t) chip j)

-- what is known of a user's world stays so through points and lines, and stops harts at covered words
pub record IsKnowledge (K : World → Type 0) : Type 0 where
  pub passes : (q : Point) (w : World) → K w → K (soft_passed q w)
  pub says : (line : Line) (w : World) → K w → K (said line w)
  pub stops : (w : World) → K w → StopsWhereCovered w

pub h-weaker : (m : Machine) (K L : World → Type 0) (p : Plan) → ((w : World) → K w → L w) → Hidden m L p → Hidden m K p
h-weaker m K L p less h = record { goes = λ t seen chip hides k j u. h.goes t seen chip hides (less seen k) j u }

-- ---- the six constructors

either-same : (m : Machine) (b : Bool) (x y x' y' : Outcome) → (Undisturbed m x.world.past → Same m x x') → (Undisturbed m y.world.past → Same m y y')
    → Undisturbed m (if b then x else y).world.past → Same m (if b then x else y) (if b then x' else y')
either-same m true x y x' y' fx fy u = fx u
either-same m false x y x' y' fx fy u = fy u

-- where a journal ends in the middle, or leaves the plan
stopped_open : (m : Machine) (t : Table) (seen chip : World) → Hides m t seen chip
    → Same m (record { world = seen; end = End.Open }) (record { world = chip; end = End.Open })
stopped_open m t seen chip hides = record { end = refl; table = t; hides = hides; cleared = λ run. absurd run }

stopped_astray : (m : Machine) (t : Table) (seen chip : World) → Hides m t seen chip
    → Same m (record { world = seen; end = End.Astray }) (record { world = chip; end = End.Astray })
stopped_astray m t seen chip hides = record { end = refl; table = t; hides = hides; cleared = λ run. absurd run }

-- a point that isn't a turn
calm-hidden : (m : Machine) (K : World → Type 0) → IsKnowledge K → (b : Bool) (p : Point) (next : Plan) → Hidden m K next → (t : Table) (seen chip : World)
    → Hides m t seen chip → K seen → (soft_passed p seen ≡ passed p seen) → (j : List Point)
    → Undisturbed m (if b then soft_replay next (passed p seen) j else record { world = seen; end = End.Astray }).world.past
    → Same m (if b then soft_replay next (passed p seen) j else record { world = seen; end = End.Astray })
    (if b then replay (lower next t) (passed p chip) j else record { world = chip; end = End.Astray })
calm-hidden m K knows b p next h t seen chip hides k calm j u =
    either-same m b (soft_replay next (passed p seen) j) (record { world = seen; end = End.Astray }) (replay (lower next t) (passed p chip) j)
    (record { world = chip; end = End.Astray })
    (λ v. h.goes t (passed p seen) (passed p chip)
    (subst (λ w. Hides m t w (passed p chip)) calm
    (hides-passed m t p seen chip hides (knows.stops seen k) (subst (λ (w : World). Undisturbed m w.past) (sym calm) (since-replay m next
    (passed p seen) j v))))
    (subst K calm (knows.passes p seen k)) j v)
    (λ v. stopped_astray m t seen chip hides) u

taking-hidden : (m : Machine) (K : World → Type 0) → IsKnowledge K → (q : Point) (next : Plan) → Hidden m K next → (t : Table) (seen chip : World)
    → Hides m t seen chip → K seen → (j : List Point) → Undisturbed m (soft_taking q (soft_replay next) seen j).world.past
    → Same m (soft_taking q (soft_replay next) seen j) (taking q (replay (lower next t)) chip j)
taking-hidden m K knows q next h t seen chip hides k [] u = stopped_open m t seen chip hides
taking-hidden m K knows q next h t seen chip hides k (Turn g ∷ j) u =
    taking-hidden m K knows q next h t (soft_turned g seen) (passed (Turn g) chip)
    (hides-passed m t (Turn g) seen chip hides (knows.stops seen k) (since-taking m q next (soft_turned g seen) j u)) (knows.passes (Turn g) seen k) j u
taking-hidden m K knows q next h t seen chip hides k (Look n ∷ j) u =
    calm-hidden m K knows (same_point q (Look n)) (Look n) next h t seen chip hides k refl j u
taking-hidden m K knows q next h t seen chip hides k (HaltReq n ∷ j) u =
    calm-hidden m K knows (same_point q (HaltReq n)) (HaltReq n) next h t seen chip hides k refl j u
taking-hidden m K knows q next h t seen chip hides k (HaltClear n ∷ j) u =
    calm-hidden m K knows (same_point q (HaltClear n)) (HaltClear n) next h t seen chip hides k refl j u
taking-hidden m K knows q next h t seen chip hides k (ResumeReq n ∷ j) u =
    calm-hidden m K knows (same_point q (ResumeReq n)) (ResumeReq n) next h t seen chip hides k refl j u
taking-hidden m K knows q next h t seen chip hides k (Access ∷ j) u =
    calm-hidden m K knows (same_point q Access) Access next h t seen chip hides k refl j u

pub h-take : (m : Machine) (K : World → Type 0) → IsKnowledge K → (q : Point) (next : Plan) → Hidden m K next → Hidden m K (take q next)
unfolding replay soft_replay lower
h-take m K knows q next h = record { goes = λ t seen chip hides k j u. taking-hidden m K knows q next h t seen chip hides k j u }

pub h-on_path : (m : Machine) (K : World → Type 0) (path : Path) (next : Plan) → Hidden m K next → Hidden m K (on_path path next)
unfolding replay soft_replay lower
h-on_path m K path next h = record { goes = λ t seen chip hides k j u. h.goes t seen chip hides k j u }

-- the board that is seen is the user's
pub h-see_at : (m : Machine) (K : World → Type 0) (next : Board → Plan) → ((b : Board) → Hidden m (λ w. K w × (w.board ≡ b)) (next b)) → Hidden m K (see next)
unfolding replay soft_replay lower
h-see_at m K next h = record {
  goes = λ t seen chip hides k j u.
      subst (λ b. Same m (soft_replay (next seen.board) seen j) (replay (lower (next b) t) chip j)) (sym (hides-board m t seen chip hides))
      ((h seen.board).goes t seen chip hides (k, refl) j u);
}

pub h-see : (m : Machine) (K : World → Type 0) (next : Board → Plan) → ((b : Board) → Hidden m K (next b)) → Hidden m K (see next)
h-see m K next h = h-see_at m K next (λ b. h-weaker m (λ w. K w × (w.board ≡ b)) K (next b) (λ w k. k.0) (h b))

pub h-say : (m : Machine) (K : World → Type 0) → IsKnowledge K → (line : Line) (next : Plan) → Hidden m K next → Hidden m K (say line next)
unfolding replay soft_replay lower
h-say m K knows line next h = record {
  goes = λ t seen chip hides k j u. h.goes t (said line seen) (said line chip) (hides-said m t line seen chip hides) (knows.says line seen k) j u;
}

pub h-change : (m : Machine) (K L : World → Type 0) (c : Change) (next : Plan) → IsOfWords c → ((w : World) → K w → L (changed c w)) → Hidden m L next
    → Hidden m K (change c next)
unfolding replay soft_replay lower
h-change m K L c next of_words steps h = record {
  goes = λ t seen chip hides k j u.
      subst (λ p. Same m (soft_replay next (changed c seen) j) (replay p chip j)) (sym (lowered-change c t (lower next)))
      (h.goes (table_of c t) (changed c seen) (changed (low_of c t) chip) (hides-changed m t c seen chip of_words hides) (steps seen k) j u);
}

finish-hidden : (m : Machine) (K : World → Type 0) → IsKnowledge K → (e : PlanEnd)
    → ((w : World) → K w → HasRun (graded e w.lines) → covered w.past ≡ []) → (t : Table) (seen chip : World) → Hides m t seen chip → K seen →
    (j : List Point)
    → Undisturbed m (soft_finish e seen j).world.past → Same m (soft_finish e seen j) (finish e chip j)
finish-hidden m K knows e clear t seen chip hides k [] u = record {
  end = ap (graded e) hides.lines;
  table = t;
  hides = hides;
  cleared = clear seen k;
}
finish-hidden m K knows e clear t seen chip hides k (Turn g ∷ j) u =
    finish-hidden m K knows e clear t (soft_turned g seen) (passed (Turn g) chip)
    (hides-passed m t (Turn g) seen chip hides (knows.stops seen k) (since-finish m e (soft_turned g seen) j u)) (knows.passes (Turn g) seen k) j u
finish-hidden m K knows e clear t seen chip hides k (Look n ∷ j) u = stopped_astray m t seen chip hides
finish-hidden m K knows e clear t seen chip hides k (HaltReq n ∷ j) u = stopped_astray m t seen chip hides
finish-hidden m K knows e clear t seen chip hides k (HaltClear n ∷ j) u = stopped_astray m t seen chip hides
finish-hidden m K knows e clear t seen chip hides k (ResumeReq n ∷ j) u = stopped_astray m t seen chip hides
finish-hidden m K knows e clear t seen chip hides k (Access ∷ j) u = stopped_astray m t seen chip hides

-- where the plan is done, no word is covered
pub h-stop : (m : Machine) (K : World → Type 0) → IsKnowledge K → (e : PlanEnd) → ((w : World) → K w → HasRun (graded e w.lines) → covered w.past ≡ [])
    → Hidden m K (stop e)
unfolding replay soft_replay lower
h-stop m K knows e clear = record { goes = λ t seen chip hides k j u. finish-hidden m K knows e clear t seen chip hides k j u }
