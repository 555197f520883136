-- Why no count of a chip reaches its type's end: no more operations are performed, dropped or in flight than rounds were taken, and one where TCK is 0.
-- An operation is put in flight by a fall of TCK, and a round comes with each rise; no standard speaks of it.
use Rattle.std.specs.Prelude.{ℕ, ◌+◌, ◌≤◌, Bool, true, false, Option, Some, None}
use Rattle.debug_model.specs.declared.dmi_op.DmiOp.{DmiOp}
use Rattle.debug_model.specs.Chip.{Works, most_rounds}

abbrev pub in_flight : Option DmiOp → ℕ
in_flight (Some op) = 1
in_flight None = 0

abbrev pub tally : Works → ℕ
tally w = w.counts.dmi_done + w.counts.dmi_failed + in_flight w.dtm.flight

pub record IsCounted (low : ℕ) (w : Works) : Type 0 where
  pub tally : tally w ≤ w.counts.rounds + low
  pub busy : w.counts.dmi_busy ≤ w.counts.rounds
  pub rounds : w.counts.rounds ≤ most_rounds

-- by the level of TCK
abbrev pub spare : Bool → ℕ
spare true = 0
spare false = 1
