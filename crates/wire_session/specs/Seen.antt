-- What a session meets outside, where it is told: the wire with its chip, and the bytes that were printed.
-- No public standard defines this.
use Rattle.std.specs.Prelude.{ℕ, List, Option}
use Rattle.debug_model.specs.Told.{Far}

-- what a sink has taken by then
pub record SinkSeen : Type 0 where
  pub printed : Option (List ℕ)
  pub faults : ℕ

-- the wire of a moment: the chip at its far end, the answers that are to come, and how many of its calls have failed
pub record WireSeen : Type 0 where
  pub far : Option Far
  pub coming : Option (List ℕ)
  pub faults : ℕ
