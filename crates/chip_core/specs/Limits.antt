-- What a chip that ended at its limit is like: it has more points than it may have, or as many rounds. No byte behind its end changes that.
-- The limits of points and rounds are this project's own choices.
use Rattle.std.specs.Prelude.{◌≡◌, true, Option, Some, IfSome}
use Rattle.debug_model.specs.declared.chip_end.ChipEnd.{ChipEnd}
use Rattle.debug_model.specs.declared.chip_end.ChipEnd.TheVariants.{AtLimit}
use Rattle.debug_model.specs.Chip.{Live, Works, at_limit}

-- by what ended the chip
abbrev pub EndsAtLimit : Option ChipEnd → Works → Type 0
EndsAtLimit ended w = ended ≡ Some AtLimit → at_limit w ≡ true

-- of the chip on a bench
abbrev pub MeetsLimitRightly : Option Live → Type 0
MeetsLimitRightly bench = IfSome bench (λ l. EndsAtLimit l.ended l.chip.inside.works)
