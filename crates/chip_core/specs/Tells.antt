-- What the answer of a feed says of the bytes: all were taken and the chip goes on, or the byte at the place ended it, behind those before it.
-- It is the law above the fold by which an answer is reckoned. Source: OpenOCD, remote_bitbang, for `Q`; the limit is this project's own.
use Rattle.std.specs.Prelude.{◌≡◌, ℕ, List, ◌∷◌, ◌++◌, length, Some, None}
use Rattle.debug_model.specs.declared.chip_end.ChipEnd.{ChipEnd}
use Rattle.debug_model.specs.Chip.{Live, after, feed}
use Rattle.chip_core.specs.declared.fed.Fed.TheVariants.{All}
use Rattle.chip_core.specs.Fed.{fed, fed_at}

-- the bytes before the place are taken and end nothing; the one there ends the chip, and does nothing else
pub record EndsAt (end : ChipEnd) (place : ℕ) (l : Live) (bytes : List ℕ) : Type 0 where
  pub front : List ℕ
  pub byte : ℕ
  pub back : List ℕ
  pub are : bytes ≡ front ++ byte ∷ back
  pub before : length front ≡ place
  pub unended : (feed l front).ended ≡ None
  pub met : after (feed l front) byte ≡ record { chip = (feed l front).chip; ended = Some end }

pub data FedTells (l : Live) (bytes : List ℕ) : Type 0 where
  whole : fed l bytes ≡ All → (feed l bytes).ended ≡ None → FedTells l bytes
  ended_at : (end : ChipEnd) (place : ℕ) → fed l bytes ≡ fed_at end place → EndsAt end place l bytes → FedTells l bytes

abbrev pub FeedsTell : Type 0
FeedsTell = (l : Live) (bytes : List ℕ) → l.ended ≡ None → FedTells l bytes
