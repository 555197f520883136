-- A chip that has met its limit of events, as a wire to its bench tells it.
use Rattle.std.proofs.Common.{◌≡◌, ℕ, List, true, IsTrue, Option, Some, None, refl, false}
use Rattle.debug_model.specs.declared.chip_end.ChipEnd.{ChipEnd}
use Rattle.debug_model.specs.declared.chip_end.ChipEnd.TheVariants.{Quitted, BadByte, AtLimit}
use Rattle.debug_model.specs.Chip.{Live}
use Rattle.debug_model.specs.Told.{IsLive, IsOpen, MetLimit}
use Rattle.debug_model.specs.Wire.{are_open}
use Rattle.chip_core.specs.Feeds.{far_of, feed_of, is_limit, limit_met}
use Rattle.chip_core.proofs.Ends.{stays_live}

-- where the limit isn't met behind open signs, nothing has ended the chip
pub lives_on : (bench new : Option Live) (unread kept bytes : List ℕ) → new ≡ feed_of bench bytes → IsOpen (far_of bench unread) → limit_met new ≡ false
    → IsTrue (are_open bytes) → IsLive (far_of new kept)
lives_on bench new unread kept bytes is opens below signs = stays_live bench new unread kept bytes is opens signs below

limit_is : (o : Option ChipEnd) → is_limit o ≡ true → o ≡ Some AtLimit
limit_is None met = absurd (let none : ⊥ = cc in none)
limit_is (Some AtLimit) met = refl
limit_is (Some Quitted) met = absurd (let none : ⊥ = cc in none)
limit_is (Some (BadByte b)) met = absurd (let none : ⊥ = cc in none)

pub met_limit : (bench : Option Live) (unread : List ℕ) → limit_met bench ≡ true → MetLimit (far_of bench unread)
met_limit None unread met = absurd (let none : ⊥ = cc in none)
met_limit (Some l) unread met = limit_is l.ended met
