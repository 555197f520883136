-- What the tests of the links keep from call to call: that no `Q` and no byte that isn't a sign has ended the chip.
use Rattle.std.proofs.Common.{◌≡◌, ℕ, List, ◌++◌, Bool, true, false, if◌then◌else◌, IsTrue, Option, Some, None, IfSome, sym, ap, subst, ◌∙◌}
use Rattle.std.proofs.lemmas.Bool.{and_parts}
use Rattle.std.proofs.lemmas.List.Folds.{list_all-append}
use Rattle.debug_model.specs.declared.chip_end.ChipEnd.{ChipEnd}
use Rattle.debug_model.specs.Chip.{Live}
use Rattle.debug_model.specs.Signs.{sign_of, stays_open}
use Rattle.debug_model.specs.Told.{IsOpen, StaysOpen}
use Rattle.debug_model.specs.Wire.{are_open}
use Rattle.chip_core.specs.Feeds.{far_of, feed_of}
use Rattle.bench_links.specs.Looped.{FedFront}
use Rattle.chip_core.proofs.Ends.{feed_stays_open}

pub same_open : (bench next : Option Live) (unread kept : List ℕ) → next ≡ bench → IsOpen (far_of bench unread) → IsOpen (far_of next kept)
same_open bench next unread kept same opens = subst (λ b. IsOpen (far_of b kept)) (sym same) (by bench opens) where
  by : (o : Option Live) → IsOpen (far_of o unread) → IsOpen (far_of o kept)
  by None opens = tt
  by (Some l) opens = opens

still_open : (bench : Option Live) (unread kept bytes : List ℕ) → IsOpen (far_of bench unread) → IsTrue (are_open bytes)
    → IsOpen (far_of (feed_of bench bytes) kept)
still_open None unread kept bytes opens signs = tt
still_open (Some l) unread kept bytes opens signs = feed_stays_open bytes l opens signs

pub fed_open_still : (bench next : Option Live) (unread kept bytes : List ℕ) → next ≡ feed_of bench bytes → IsOpen (far_of bench unread)
    → IsTrue (are_open bytes) → IsOpen (far_of next kept)
fed_open_still bench next unread kept bytes fed opens signs = subst (λ b. IsOpen (far_of b kept)) (sym fed) (still_open bench unread kept bytes opens signs)

front_signs : (bytes front back : List ℕ) → bytes ≡ front ++ back → IsTrue (are_open bytes) → IsTrue (are_open front)
unfolding are_open
front_signs bytes front back cut signs =
    (and_parts (are_open front) (are_open back) (sym (list_all-append (λ b. stays_open (sign_of b)) front back) ∙ ap are_open (sym cut) ∙ signs)).0

pub front_open : (bench next : Option Live) (unread kept bytes : List ℕ) → FedFront bytes bench next unread kept → IsOpen (far_of bench unread)
    → IsTrue (are_open bytes) → IsOpen (far_of next kept)
front_open bench next unread kept bytes fed opens signs =
    fed_open_still bench next unread kept fed.front fed.fed opens (front_signs bytes fed.front fed.back fed.cut signs)

none_open : (o : Option ChipEnd) → o ≡ None → StaysOpen o
none_open o none = subst StaysOpen (sym none) tt

pub live_open : (bench : Option Live) (unread : List ℕ) → IfSome bench (λ l. l.ended ≡ None) → IsOpen (far_of bench unread)
live_open None unread live = tt
live_open (Some l) unread live = none_open l.ended live

pub put_open : (listed : Bool) (bench next : Option Live) (unread kept bytes : List ℕ) → next ≡ (if listed then bench else feed_of bench bytes)
    → IsOpen (far_of bench unread) → IsTrue (are_open bytes) → IsOpen (far_of next kept)
put_open true bench next unread kept bytes is opens signs = same_open bench next unread kept is opens
put_open false bench next unread kept bytes is opens signs = fed_open_still bench next unread kept bytes is opens signs
