-- A schedule of a chip's events: a list of rounds that starts again at its end, and when it is fair to each part.
-- Debug Specification 1.0 leaves the timing of harts, DMI and system bus open; a schedule says one timing.
use Rattle.std.specs.Prelude.{ℕ, zero, suc, ◌+◌, ◌<◌, nat_lt, List, [], length, slice_index_or, Contains, if◌then◌else◌}
use Rattle.debug_model.specs.declared.event.Event.{Event}
use Rattle.debug_model.specs.declared.event.Event.TheVariants.{Turn, DmiDone, DmiFail, CmdStep, BusDone}

-- the rounds, each of at most eight events, and the place of the round that comes next
pub record RoundPlan : Type 0 where
  pub rounds : List (List Event)
  pub place : ℕ

-- the round at the place, the empty round where the list is empty
abbrev pub round_of : RoundPlan → List Event
round_of p = slice_index_or p.rounds p.place []

-- the place one on in a list of so many rounds, and from the list's end back at its start; a place behind the end stays
abbrev pub following : (count place : ℕ) → ℕ
following count place = if nat_lt (place + 1) count then place + 1 else if nat_lt place count then 0 else place

-- the plan one place on
abbrev pub moved : RoundPlan → RoundPlan
moved p = record p { place = following (length p.rounds) p.place }

-- the same list with its first round next
abbrev pub at_start : RoundPlan → RoundPlan
at_start p = record p { place = 0 }

-- the k-th round to come, from 0
abbrev pub round_after : ℕ → RoundPlan → List Event
round_after zero p = round_of p
round_after (suc k) p = round_after k (moved p)

-- the event stands in one of the w rounds from the k-th on
abbrev pub ComesWithin : ℕ → ℕ → RoundPlan → Event → Type 0
ComesWithin w k p e = (i : ℕ) × (i < w) × Contains (round_after (k + i) p) e

-- in every w consecutive rounds each hart below `harts` and each part of the debug module has its turn,
-- and in no round a DMI operation fails
pub record Fair (w harts : ℕ) (p : RoundPlan) : Type 0 where
  pub turns : (k h : ℕ) → h < harts → ComesWithin w k p (Turn h)
  pub dmi_done : (k : ℕ) → ComesWithin w k p DmiDone
  pub cmd_step : (k : ℕ) → ComesWithin w k p CmdStep
  pub bus_done : (k : ℕ) → ComesWithin w k p BusDone
  pub no_dmi_fail : (k : ℕ) → ¬ Contains (round_after k p) DmiFail
