-- How many turns a schedule offers at most, by how many its rounds have.
-- The Debug Specification leaves the timing of harts open; that a round of a seed has one turn for each hart at most is this project's own choice.
use Rattle.std.specs.Prelude.{ℕ, ◌*◌, ◌≤◌, List, length, All}
use Rattle.debug_model.specs.declared.event.Event.{Event}
use Rattle.debug_model.specs.Offered.{first_rounds, offered}
use Rattle.debug_model.specs.Schedule.{RoundPlan}
use Rattle.sys_events.specs.Seed.{seed_plan}

-- no round has more turns than so many, whichever harts are there
abbrev pub OffersAtMost : ℕ → RoundPlan → Type 0
OffersAtMost harts plan = All (λ (round : List Event). (there : ℕ) → length (offered there round) ≤ harts) plan.rounds

abbrev pub RoundsOfferFewTurns : Type 0
RoundsOfferFewTurns = (harts there rounds : ℕ) (plan : RoundPlan) → OffersAtMost harts plan
    → length (offered there (first_rounds rounds plan)) ≤ rounds * harts

abbrev pub SeedsOfferFewTurns : Type 0
SeedsOfferFewTurns = (seed busy harts : ℕ) → OffersAtMost harts (seed_plan seed busy harts)
