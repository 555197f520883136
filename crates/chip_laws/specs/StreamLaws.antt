-- Laws of the fold of the stream's bytes over a chip: pieces, ends, and the fold without ends.
-- OpenOCD, remote_bitbang: the stream has no frames, so how it is cut is nobody's concern.
use Rattle.std.specs.Prelude.{◌≡◌, ℕ, List, [], ◌++◌, Some, None}
use Rattle.debug_model.specs.declared.chip_end.ChipEnd.{ChipEnd}
use Rattle.debug_model.specs.Chip.{Chip, Live, feed, said, run, told_by}

pub record Joins (l : Live) (xs ys : List ℕ) : Type 0 where
  pub chip : feed l (xs ++ ys) ≡ feed (feed l xs) ys
  pub answers : said l (xs ++ ys) ≡ said l xs ++ said (feed l xs) ys

abbrev pub PiecesJoin : Type 0
PiecesJoin = (l : Live) (xs ys : List ℕ) → Joins l xs ys

pub record TakesNothing (l : Live) (bytes : List ℕ) : Type 0 where
  pub chip : feed l bytes ≡ l
  pub answers : said l bytes ≡ []

abbrev pub EndedChipsTakeNothing : Type 0
EndedChipsTakeNothing = (c : Chip) (end : ChipEnd) (bytes : List ℕ) → TakesNothing (record { chip = c; ended = Some end }) bytes

-- nothing had ended the chip, and it is as the fold without ends says
pub record Ran (l : Live) (bytes : List ℕ) : Type 0 where
  pub unended : l.ended ≡ None
  pub chip : (feed l bytes).chip ≡ run l.chip bytes
  pub answers : said l bytes ≡ told_by l.chip bytes

abbrev pub UnendedChipsRun : Type 0
UnendedChipsRun = (l : Live) (bytes : List ℕ) → (feed l bytes).ended ≡ None → Ran l bytes
