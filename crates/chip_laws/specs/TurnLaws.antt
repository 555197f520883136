-- Laws of the turns that a chip's harts have: they are those that its schedule offers, whatever is fed to it.
-- The standard leaves the timing of harts open; that the schedule alone gives it is this project's own.
use Rattle.std.specs.Prelude.{◌≡◌, ℕ, List, Decides}
use Rattle.debug_model.specs.Chip.{Chip, Live, feed}
use Rattle.debug_model.specs.Loaded.{AsLoaded}
use Rattle.debug_model.specs.Offered.{HasOfferedTurns, TurnsOffered, timing_of}
use Rattle.debug_model.specs.Scan.{ticks}
use Rattle.debug_model.specs.Schedule.{RoundPlan}

-- a chip as it was loaded has had no turn and no round
abbrev pub LoadedChipsOffer : Type 0
LoadedChipsOffer = (l : Live) → AsLoaded l → HasOfferedTurns l.chip

-- bytes give the harts the turns of the rounds that they take, and no other, since any start of the schedule
abbrev pub FeedsOfferTurns : Type 0
FeedsOfferTurns = (first : RoundPlan) (l : Live) (bytes : List ℕ) → TurnsOffered first l.chip → TurnsOffered first (feed l bytes).chip

-- no byte changes the schedule's list, nor whether the harts have had just the turns that it offered from its first round on, nor the chip's limit
abbrev pub FeedsKeepTiming : Type 0
FeedsKeepTiming = (l : Live) (bytes : List ℕ) → timing_of (feed l bytes).chip ≡ timing_of l.chip

-- and of a chip whose harts have had just these turns the timing says so
abbrev pub TimingTells : Type 0
TimingTells = (c : Chip) → Decides (timing_of c).offered (HasOfferedTurns c)

-- a chip that comes by rounds of its schedule alone from one as it was loaded, whatever clock and TAP did meanwhile
abbrev pub RoundsOfferTurns : Type 0
RoundsOfferTurns = (l : Live) (rises : ℕ) (c : Chip) → AsLoaded l → c.inside ≡ ticks rises l.chip.inside → TurnsOffered l.chip.inside.plan c
