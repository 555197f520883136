-- What the answer of a feed says of the bytes.
use Rattle.std.proofs.Common.{◌≡◌, ℕ, ◌+◌, List, [], ◌∷◌, length, Option, Some, None, refl, sym, ap, ◌∙◌, arith}
use Rattle.std.proofs.lemmas.Option.{none-some}
use Rattle.debug_model.specs.declared.chip_end.ChipEnd.{ChipEnd}
use Rattle.debug_model.specs.Chip.{Chip, Live, after, end_of, feed, signed, taken_by, unless_ended}
use Rattle.debug_model.specs.Signs.{sign_of}
use Rattle.chip_core.specs.declared.fed.Fed.TheVariants.{All}
use Rattle.chip_core.specs.Fed.{fed_at, fed_from, placed}
use Rattle.chip_core.specs.Tells.{EndsAt, FedTells, FeedsTell}
use Rattle.chip_core.specs.Tells.FedTells.{whole, ended_at}

-- an end keeps the chip
kept : (ended end : Option ChipEnd) (next : Chip) (l : Live) (e : ChipEnd) → ended ≡ None → (unless_ended ended (taken_by end next l.chip) l).ended ≡ Some e
    → unless_ended ended (taken_by end next l.chip) l ≡ record { chip = l.chip; ended = Some e }
kept None None next l e live is = absurd (none-some e is)
kept None (Some x) next l e live is = ap (λ (o : Option ChipEnd). let m : Live = record { chip = l.chip; ended = o } in m) is
kept (Some x) end next l e live is = absurd (none-some x (sym live))

-- by the place from which the bytes are counted
data From (k : ℕ) (l : Live) (bytes : List ℕ) : Type 0 where
  all : fed_from k l bytes ≡ All → (feed l bytes).ended ≡ None → From k l bytes
  at : (end : ChipEnd) (place : ℕ) → fed_from k l bytes ≡ fed_at end (k + place) → EndsAt end place l bytes → From k l bytes

first_ends : (k : ℕ) (l : Live) (b : ℕ) (bs : List ℕ) (e : ChipEnd) → l.ended ≡ None → (after l b).ended ≡ Some e → From k l (b ∷ bs)
unfolding feed fed_from
first_ends k l b bs e live is =
    let here : k ≡ k + 0 = omega arith in
    at e 0 (ap (λ o. placed o k (fed_from (k + 1) (after l b) bs)) is ∙ ap (fed_at e) here)
    (record {
      front = [];
      byte = b;
      back = bs;
      are = refl;
      before = refl;
      unended = live;
      met = kept l.ended (end_of b (sign_of b) l.chip) (signed (sign_of b) l.chip) l e live is;
    })

later : (k : ℕ) (l : Live) (b : ℕ) (bs : List ℕ) → (after l b).ended ≡ None → From (k + 1) (after l b) bs → From k l (b ∷ bs)
unfolding feed fed_from
later k l b bs is (all taken live) = all (ap (λ o. placed o k (fed_from (k + 1) (after l b) bs)) is ∙ taken) live
later k l b bs is (at e place answer there) =
    let next : k + 1 + place ≡ k + (place + 1) = omega arith in
    let long : length (b ∷ there.front) ≡ place + 1 = let n : length there.front ≡ place = there.before in omega arith in
    at e (place + 1) (ap (λ o. placed o k (fed_from (k + 1) (after l b) bs)) is ∙ answer ∙ ap (fed_at e) next)
    (record {
      front = b ∷ there.front;
      byte = there.byte;
      back = there.back;
      are = ap (λ xs. b ∷ xs) there.are;
      before = long;
      unended = there.unended;
      met = there.met;
    })

step : (k : ℕ) (l : Live) (b : ℕ) (bs : List ℕ) (o : Option ChipEnd) → l.ended ≡ None → (after l b).ended ≡ o
    → ((after l b).ended ≡ None → From (k + 1) (after l b) bs) → From k l (b ∷ bs)
step k l b bs None live is rest = later k l b bs is (rest is)
step k l b bs (Some e) live is rest = first_ends k l b bs e live is

nothing_left : (k : ℕ) (l : Live) → l.ended ≡ None → From k l []
unfolding feed fed_from
nothing_left k l live = all refl live

tells_from : (k : ℕ) (l : Live) (bytes : List ℕ) → l.ended ≡ None → From k l bytes
tells_from k l [] live = nothing_left k l live
tells_from k l (b ∷ bs) live = step k l b bs (after l b).ended live refl (λ is. tells_from (k + 1) (after l b) bs is)

from_start : (l : Live) (bytes : List ℕ) → From 0 l bytes → FedTells l bytes
from_start l bytes (all taken live) = whole taken live
from_start l bytes (at e place answer there) =
    let same : 0 + place ≡ place = omega arith in
    ended_at e place (answer ∙ ap (fed_at e) same) there

pub tells : FeedsTell
tells l bytes live = from_start l bytes (tells_from 0 l bytes live)
