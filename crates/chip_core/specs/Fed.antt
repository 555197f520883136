-- What a feed of bytes answers: whether all of them were taken, or else what has ended the chip, and the place in this piece of the byte that did, or of
-- the first byte behind the end. Source: OpenOCD, remote_bitbang, for `Q`; the limit is this project's own.
use Rattle.std.specs.Prelude.{ℕ, ◌+◌, List, [], ◌∷◌, Option, Some, None}
use Rattle.debug_model.specs.declared.chip_end.ChipEnd.{ChipEnd}
use Rattle.debug_model.specs.declared.chip_end.ChipEnd.TheVariants.{Quitted, BadByte, AtLimit}
use Rattle.debug_model.specs.Chip.{Live, after}
use Rattle.chip_core.specs.declared.fed.Fed.{Fed}
use Rattle.chip_core.specs.declared.fed.Fed.TheVariants.{All, Quit, Bad, EventLimit}

-- what ended the chip, at this place
abbrev pub fed_at : ChipEnd → ℕ → Fed
fed_at Quitted place = Quit place
fed_at (BadByte byte) place = Bad place byte
fed_at AtLimit place = EventLimit place

-- at a place, by what has ended the chip there; where nothing has, by what comes later
abbrev pub placed : Option ChipEnd → ℕ → Fed → Fed
placed None place later = later
placed (Some end) place later = fed_at end place

-- of the bytes from this place on
unfoldable pub fed_from : ℕ → Live → List ℕ → Fed
fed_from place l [] = All
fed_from place l (b ∷ bs) = placed (after l b).ended place (fed_from (place + 1) (after l b) bs)

abbrev pub fed : Live → List ℕ → Fed
fed l bytes = fed_from 0 l bytes
