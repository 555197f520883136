-- Feeding by pieces, and behind an end.
use Rattle.std.proofs.Common.{◌≡◌, ℕ, ◌+◌, ◌<◌, ◌≤◌, List, [], ◌∷◌, ◌++◌, length, Option, Some, None, refl, sym, ap, ◌∙◌, append_assoc, arith}
use Rattle.std.proofs.lemmas.List.{append-nil}
use Rattle.debug_model.specs.declared.chip_end.ChipEnd.{ChipEnd}
use Rattle.debug_model.specs.declared.chip_end.ChipEnd.TheVariants.{Quitted, BadByte, AtLimit}
use Rattle.debug_model.specs.Chip.{Live, after, feed, said}
use Rattle.chip_laws.proofs.StreamLemmas.{pieces_join, takes_nothing}
use Rattle.chip_core.specs.declared.fed.Fed.{Fed}
use Rattle.chip_core.specs.Fed.{fed, fed_at, fed_from, placed}
use Rattle.chip_core.specs.Feeds.{feed_of, said_of}
use Rattle.chip_core.specs.Pieces.{EndedStaysEnded, PiecesJoin, joined, moved_by}

abbrev with_end : Live → Option ChipEnd → Live
with_end l o = record { chip = l.chip; ended = o }

-- ---- behind an end

pub feed_stays : (l : Live) (e : ChipEnd) (bytes : List ℕ) → l.ended ≡ Some e → feed l bytes ≡ l
feed_stays l e bytes is = ap (λ o. feed (with_end l o) bytes) is ∙ (takes_nothing l.chip e bytes).chip ∙ ap (λ o. with_end l o) (sym is)

pub said_stays : (l : Live) (e : ChipEnd) (bytes : List ℕ) → l.ended ≡ Some e → said l bytes ≡ []
said_stays l e bytes is = ap (λ o. said (with_end l o) bytes) is ∙ (takes_nothing l.chip e bytes).answers

fed_ended : (l : Live) (e : ChipEnd) (place b : ℕ) (bytes : List ℕ) → fed_from place (with_end l (Some e)) (b ∷ bytes) ≡ fed_at e place
unfolding fed_from
fed_ended l e place b bytes = refl

pub fed_stays : (l : Live) (e : ChipEnd) (place : ℕ) (bytes : List ℕ) → 1 ≤ length bytes → l.ended ≡ Some e → fed_at e place ≡ fed_from place l bytes
fed_stays l e place [] some is = absurd (omega arith)
fed_stays l e place (b ∷ bytes) some is = sym (ap (λ o. fed_from place (with_end l o) (b ∷ bytes)) is ∙ fed_ended l e place b bytes)

pub ended_stays : EndedStaysEnded
ended_stays end c b bytes = record { nothing = takes_nothing c end (b ∷ bytes); place = fed_ended (record { chip = c; ended = None }) end 0 b bytes }

-- ---- pieces

moved_at : (e : ChipEnd) (n place : ℕ) → fed_at e (n + place) ≡ moved_by n (fed_at e place)
moved_at Quitted n place = refl
moved_at (BadByte b) n place = refl
moved_at AtLimit n place = refl

moved_placed : (o : Option ChipEnd) (n place : ℕ) (first whole : Fed) → whole ≡ moved_by n first
    → placed o (n + place) whole ≡ moved_by n (placed o place first)
moved_placed None n place first whole is = is
moved_placed (Some e) n place first whole is = moved_at e n place

-- places count on
fed_on : (n place : ℕ) (l : Live) (ys : List ℕ) → fed_from (n + place) l ys ≡ moved_by n (fed_from place l ys)
unfolding fed_from
fed_on n place l [] = refl
fed_on n place l (b ∷ ys) =
    let next : n + place + 1 ≡ n + (place + 1) = omega arith in
    moved_placed (after l b).ended n place (fed_from (place + 1) (after l b) ys) (fed_from (n + place + 1) (after l b) ys)
    (ap (λ k. fed_from k (after l b) ys) next ∙ fed_on n (place + 1) (after l b) ys)

joined_at : (e : ChipEnd) (n place : ℕ) (second : Fed) → fed_at e place ≡ joined n (fed_at e place) second
joined_at Quitted n place second = refl
joined_at (BadByte b) n place second = refl
joined_at AtLimit n place second = refl

joined_placed : (o : Option ChipEnd) (n place : ℕ) (whole first second : Fed) → whole ≡ joined n first second
    → placed o place whole ≡ joined n (placed o place first) second
joined_placed None n place whole first second is = is
joined_placed (Some e) n place whole first second is = joined_at e n place second

fed_append : (place n : ℕ) (l : Live) (xs ys : List ℕ) → n ≡ place + length xs
    → fed_from place l (xs ++ ys) ≡ joined n (fed_from place l xs) (fed (feed l xs) ys)
unfolding fed_from feed
fed_append place n l [] ys is =
    let same : place ≡ n + 0 = omega arith in
    ap (λ k. fed_from k l ys) same ∙ fed_on n 0 l ys
fed_append place n l (b ∷ xs) ys is =
    let next : n ≡ place + 1 + length xs = omega arith in
    joined_placed (after l b).ended n place (fed_from (place + 1) (after l b) (xs ++ ys)) (fed_from (place + 1) (after l b) xs) (fed (feed (after l b) xs) ys)
    (fed_append (place + 1) n (after l b) xs ys next)

pub pieces : PiecesJoin
pieces l xs ys = record { bytes = pieces_join l xs ys; place = fed_append 0 (length xs) l xs ys (omega arith) }

-- ---- benches

pub feed_of-append : (bench : Option Live) (xs ys : List ℕ) → feed_of (feed_of bench xs) ys ≡ feed_of bench (xs ++ ys)
feed_of-append None xs ys = refl
feed_of-append (Some l) xs ys = ap (λ (x : Live). Some x) (sym (pieces_join l xs ys).chip)

said_of-append : (bench : Option Live) (xs ys : List ℕ) → said_of bench xs ++ said_of (feed_of bench xs) ys ≡ said_of bench (xs ++ ys)
said_of-append None xs ys = refl
said_of-append (Some l) xs ys = sym (pieces_join l xs ys).answers

-- a piece, and what comes behind it
pub piece_said : (bench new : Option Live) (front back rest xs ys zs : List ℕ) → new ≡ feed_of bench front → ys ≡ xs ++ said_of bench front
    → rest ≡ front ++ back → xs ++ said_of bench rest ≡ zs → ys ++ said_of new back ≡ zs
piece_said bench new front back rest xs ys zs next answers whole all =
    ap (λ b. ys ++ said_of b back) next ∙ ap (λ vs. vs ++ said_of (feed_of bench front) back) answers
    ∙ append_assoc xs (said_of bench front) (said_of (feed_of bench front) back)
    ∙ ap (λ vs. xs ++ vs) (said_of-append bench front back ∙ ap (λ bs. said_of bench bs) (sym whole)) ∙ all

pub nothing_fed : (bench : Option Live) (bytes : List ℕ) → length bytes < 1 → feed_of bench bytes ≡ bench
unfolding feed
nothing_fed None bytes none = refl
nothing_fed (Some l) [] none = refl
nothing_fed (Some l) (b ∷ bs) none = absurd (omega arith)

pub nothing_said : (bench : Option Live) (bytes xs : List ℕ) → length bytes < 1 → xs ++ said_of bench bytes ≡ xs
unfolding said
nothing_said None bytes xs none = append-nil xs
nothing_said (Some l) [] xs none = append-nil xs
nothing_said (Some l) (b ∷ bs) xs none = absurd (omega arith)
