-- That feeding two pieces is feeding them joined: the chip, its answers, and the place of what ended it. And that what has ended a chip stays.
-- OpenOCD, remote_bitbang: a piece is only how the bytes of a stream happen to come, and nothing follows a `Q`.
use Rattle.std.specs.Prelude.{◌≡◌, ℕ, ◌+◌, List, ◌∷◌, ◌++◌, length, Some}
use Rattle.debug_model.specs.declared.chip_end.ChipEnd.{ChipEnd}
use Rattle.debug_model.specs.Chip.{Chip, Live, feed}
use Rattle.chip_laws.specs.StreamLaws.{Joins, TakesNothing}
use Rattle.chip_core.specs.declared.fed.Fed.{Fed}
use Rattle.chip_core.specs.declared.fed.Fed.TheVariants.{All, Quit, Bad, EventLimit}
use Rattle.chip_core.specs.Fed.{fed, fed_at}

-- ---- pieces

-- a place of a later piece, in the joined one
abbrev pub moved_by : ℕ → Fed → Fed
moved_by n All = All
moved_by n (Quit place) = Quit (n + place)
moved_by n (Bad place byte) = Bad (n + place) byte
moved_by n (EventLimit place) = EventLimit (n + place)

-- the answer to a piece of this many bytes, and then the one to the piece behind it
abbrev pub joined : ℕ → Fed → Fed → Fed
joined n All second = moved_by n second
joined n (Quit place) second = Quit place
joined n (Bad place byte) second = Bad place byte
joined n (EventLimit place) second = EventLimit place

pub record FedJoins (l : Live) (xs ys : List ℕ) : Type 0 where
  pub bytes : Joins l xs ys
  pub place : fed l (xs ++ ys) ≡ joined (length xs) (fed l xs) (fed (feed l xs) ys)

abbrev pub PiecesJoin : Type 0
PiecesJoin = (l : Live) (xs ys : List ℕ) → FedJoins l xs ys

-- ---- ends

abbrev pub ended_by : ChipEnd → Chip → Live
ended_by end c = record { chip = c; ended = Some end }

pub record StaysEnded (end : ChipEnd) (c : Chip) (b : ℕ) (bytes : List ℕ) : Type 0 where
  pub nothing : TakesNothing (ended_by end c) (b ∷ bytes)
  pub place : fed (ended_by end c) (b ∷ bytes) ≡ fed_at end 0

abbrev pub EndedStaysEnded : Type 0
EndedStaysEnded = (end : ChipEnd) (c : Chip) (b : ℕ) (bytes : List ℕ) → StaysEnded end c b bytes
