-- The turns that a chip's harts had are exactly those that its schedule offered: of each round that was taken, the turns of harts that are there, in order.
-- So nothing but the schedule gives a hart time; the standard has no word for it.
use Rattle.std.specs.Prelude.{◌≡◌, ◌&&◌, ℕ, zero, suc, Bool, List, [], ◌∷◌, ◌++◌, length, if◌then◌else◌, nat_eq, nat_lt}
use Rattle.std.specs.Str.{bytes_eq as same_numbers}
use Rattle.debug_model.specs.declared.event.Event.{Event}
use Rattle.debug_model.specs.declared.event.Event.TheVariants as event
use Rattle.debug_model.specs.declared.point.Point.{Point}
use Rattle.debug_model.specs.declared.point.Point.TheVariants.{Turn, Look, HaltReq, HaltClear, ResumeReq, Access}
use Rattle.debug_model.specs.Chip.{Chip}
use Rattle.debug_model.specs.Schedule.{RoundPlan, at_start, round_of, moved}

-- ---- the turns in a journal

abbrev pub turn_at : Point → List ℕ
turn_at (Turn h) = h ∷ []
turn_at (Look h) = []
turn_at (HaltReq h) = []
turn_at (HaltClear h) = []
turn_at (ResumeReq h) = []
turn_at Access = []

-- the harts that had a turn, in order
unfoldable pub turns_of : List Point → List ℕ
turns_of [] = []
turns_of (p ∷ ps) = turn_at p ++ turns_of ps

-- ---- the turns in a schedule

-- by how many harts there are
abbrev pub offered_by : ℕ → Event → List ℕ
offered_by harts (event.Turn h) = if nat_lt h harts then h ∷ [] else []
offered_by harts event.DmiDone = []
offered_by harts event.DmiFail = []
offered_by harts event.CmdStep = []
offered_by harts event.BusDone = []

unfoldable pub offered : ℕ → List Event → List ℕ
offered harts [] = []
offered harts (e ∷ es) = offered_by harts e ++ offered harts es

-- the events of so many rounds to come
unfoldable pub first_rounds : ℕ → RoundPlan → List Event
first_rounds zero p = []
first_rounds (suc k) p = round_of p ++ first_rounds k (moved p)

-- the schedule behind so many rounds
unfoldable pub moved_on : ℕ → RoundPlan → RoundPlan
moved_on zero p = p
moved_on (suc k) p = moved_on k (moved p)

-- ---- both

-- since the schedule stood like this the chip's harts have had the turns that it offered, in as many rounds as were counted
pub record TurnsOffered (first : RoundPlan) (c : Chip) : Type 0 where
  pub turns : turns_of c.inside.works.site.journal ≡ offered (length c.inside.works.site.board.harts) (first_rounds c.inside.works.counts.rounds first)
  pub plan : c.inside.plan ≡ moved_on c.inside.works.counts.rounds first

-- ---- from the list's first round on

abbrev pub HasOfferedTurns : Chip → Type 0
HasOfferedTurns c = TurnsOffered (at_start c.inside.plan) c

-- whether it is so
abbrev pub has_offered_turns : Chip → Bool
has_offered_turns c =
    let first : RoundPlan = at_start c.inside.plan in
    let rounds : ℕ = c.inside.works.counts.rounds in
    nat_eq c.inside.plan.place (moved_on rounds first).place
    && same_numbers (turns_of c.inside.works.site.journal) (offered (length c.inside.works.site.board.harts) (first_rounds rounds first))

-- what no byte changes of a chip's schedule and of its limit: the list of rounds, whether the harts have had just the turns that these offered, and how many
-- points a rise may find
pub record Timing : Type 0 where
  pub rounds : List (List Event)
  pub offered : Bool
  pub most_points : ℕ

abbrev pub timing_of : Chip → Timing
timing_of c = record { rounds = c.inside.plan.rounds; offered = has_offered_turns c; most_points = c.inside.works.most_points }
