-- What a wire's piece of open signs can end a chip by: the limit alone.
use Rattle.std.proofs.Common.{◌≡◌, ℕ, List, [], ◌∷◌, ◌&&◌, cond, Bool, true, false, IsTrue, Option, Some, None, refl, sym, ap, ◌∙◌}
use Rattle.debug_model.specs.declared.chip_end.ChipEnd.{ChipEnd}
use Rattle.debug_model.specs.declared.chip_end.ChipEnd.TheVariants.{Quitted, BadByte, AtLimit}
use Rattle.debug_model.specs.declared.sign.Sign.{Sign}
use Rattle.debug_model.specs.declared.sign.Sign.TheVariants.{Pins, Ask, Light, Reset, Quit}
use Rattle.debug_model.specs.Chip.{Chip, Live, Works, after, at_limit, end_of, feed, rise_end, signed, taken_by, unless_ended}
use Rattle.debug_model.specs.Signs.{sign_of, stays_open}
use Rattle.debug_model.specs.Told.{IsLive, IsOpen, StaysOpen}
use Rattle.debug_model.specs.Wire.{are_open}
use Rattle.chip_core.specs.Feeds.{far_of, feed_of, is_limit, limit_met}

both : (a b : Bool) → (a && b) ≡ true → (a ≡ true) × (b ≡ true)
both true b is = (refl, is)
both false b is = absurd (let none : ⊥ = cc in none)

open_first : (b : ℕ) (bs : List ℕ) → IsTrue (are_open (b ∷ bs)) → (stays_open (sign_of b) ≡ true) × IsTrue (are_open bs)
unfolding are_open
open_first b bs signs = both (stays_open (sign_of b)) (are_open bs) signs

limit_stays : (limit : Bool) → StaysOpen (cond limit (Some AtLimit) None)
limit_stays true = tt
limit_stays false = tt

rise_stays : (old new : Bool) (w : Works) → StaysOpen (rise_end old new w)
rise_stays false true w = limit_stays (at_limit w)
rise_stays false false w = tt
rise_stays true new w = tt

sign_stays : (b : ℕ) (s : Option Sign) (c : Chip) → stays_open s ≡ true → StaysOpen (end_of b s c)
sign_stays b (Some (Pins tck tms tdi)) c opens = rise_stays c.tck tck c.inside.works
sign_stays b (Some Ask) c opens = tt
sign_stays b (Some Light) c opens = tt
sign_stays b (Some (Reset trst)) c opens = tt
sign_stays b (Some Quit) c opens = absurd (let none : ⊥ = cc in none)
sign_stays b None c opens = absurd (let none : ⊥ = cc in none)

taken_stays : (ended end : Option ChipEnd) (next : Chip) (l : Live) → StaysOpen l.ended → StaysOpen end
    → StaysOpen (unless_ended ended (taken_by end next l.chip) l).ended
taken_stays None None next l here there = tt
taken_stays None (Some end) next l here there = there
taken_stays (Some ended) end next l here there = here

pub feed_stays_open : (bytes : List ℕ) (l : Live) → StaysOpen l.ended → IsTrue (are_open bytes) → StaysOpen (feed l bytes).ended
unfolding feed
feed_stays_open [] l here opens = here
feed_stays_open (b ∷ bs) l here opens =
    let signs : _ = open_first b bs opens in
    feed_stays_open bs (after l b) (taken_stays l.ended (end_of b (sign_of b) l.chip) (signed (sign_of b) l.chip) l here
    (sign_stays b (sign_of b) l.chip signs.0)) signs.1

not_limit : (o : Option ChipEnd) → StaysOpen o → is_limit o ≡ false → o ≡ None
not_limit None opens below = refl
not_limit (Some AtLimit) opens below = absurd (let none : ⊥ = cc in none)
not_limit (Some Quitted) opens below = absurd opens
not_limit (Some (BadByte b)) opens below = absurd opens

-- where the limit isn't met behind open signs, nothing has ended the chip
pub stays_live : (bench new : Option Live) (unread items bytes : List ℕ) → new ≡ feed_of bench bytes → IsOpen (far_of bench unread) → IsTrue (are_open bytes)
    → limit_met new ≡ false → IsLive (far_of new items)
stays_live bench new unread items bytes is here opens below = rw is (by bench here (ap limit_met (sym is) ∙ below)) where
  by : (o : Option Live) → IsOpen (far_of o unread) → limit_met (feed_of o bytes) ≡ false → IsLive (far_of (feed_of o bytes) items)
  by None told no_limit = tt
  by (Some l) told no_limit = not_limit (feed l bytes).ended (feed_stays_open bytes l told opens) no_limit
