-- The chip on a bench takes pieces as the whole of them.
use Rattle.std.proofs.Common.{◌≡◌, ◌∙◌, ◌+◌, ◌++◌, ℕ, List, [], ◌∷◌, length, Option, Some, None, refl, sym, ap, append_assoc, zero-add, arith}
use Rattle.debug_model.specs.Chip.{Live, after, answer, feed, said}
use Rattle.chip_core.specs.Fed.{fed_from}
use Rattle.chip_core.specs.Feeds.{fed_of}
use Rattle.chip_core.specs.Pieces.{joined, moved_by}
use Rattle.chip_server.specs.Feeding.{StandsIn, StaysUnfed, TakesJoined, TakesPieces, bench_feeding}
use Rattle.chip_server.specs.Places.{joined_placed, moved_placed, stands_as, stands_placed}

unfed : (b : Option Live) → StaysUnfed bench_feeding b
unfolding feed said fed_from
unfed None = record { same = refl; silent = refl; whole = refl }
unfed (Some l) = record { same = refl; silent = refl; whole = refl }

-- ---- two pieces

feeds_on : (l : Live) (xs ys : List ℕ) → feed l (xs ++ ys) ≡ feed (feed l xs) ys
unfolding feed
feeds_on l [] ys = refl
feeds_on l (b ∷ xs) ys = feeds_on (after l b) xs ys

says_on : (l : Live) (xs ys : List ℕ) → said l (xs ++ ys) ≡ said l xs ++ said (feed l xs) ys
unfolding feed said
says_on l [] ys = refl
says_on l (b ∷ xs) ys =
    ap (λ zs. answer l b ++ zs) (says_on (after l b) xs ys)
    ∙ sym (append_assoc (answer l b) (said (after l b) xs) (said (feed (after l b) xs) ys))

-- places count on
counts_on : (n place : ℕ) (l : Live) (ys : List ℕ) → fed_from (n + place) l ys ≡ moved_by n (fed_from place l ys)
unfolding fed_from
counts_on n place l [] = refl
counts_on n place l (b ∷ ys) =
    let next : n + place + 1 ≡ n + (place + 1) = omega arith in
    moved_placed (after l b).ended n place (fed_from (place + 1) (after l b) ys) (fed_from (n + place + 1) (after l b) ys)
    (ap (λ k. fed_from k (after l b) ys) next ∙ counts_on n (place + 1) (after l b) ys)

ends_on : (place n : ℕ) (l : Live) (xs ys : List ℕ) → n ≡ place + length xs
    → fed_from place l (xs ++ ys) ≡ joined n (fed_from place l xs) (fed_from 0 (feed l xs) ys)
unfolding fed_from feed
ends_on place n l [] ys is =
    let same : place ≡ n + 0 = omega arith in
    ap (λ k. fed_from k l ys) same ∙ counts_on n 0 l ys
ends_on place n l (b ∷ xs) ys is =
    let next : n ≡ place + 1 + length xs = omega arith in
    joined_placed (after l b).ended n place (fed_from (place + 1) (after l b) (xs ++ ys)) (fed_from (place + 1) (after l b) xs)
    (fed_from 0 (feed (after l b) xs) ys) (ends_on (place + 1) n (after l b) xs ys next)

joins : (b : Option Live) (xs ys : List ℕ) → TakesJoined bench_feeding b xs ys
joins None xs ys = record { feeds = refl; says = refl; place = refl }
joins (Some l) xs ys = record {
  feeds = ap (λ (m : Live). Some m) (feeds_on l xs ys);
  says = says_on l xs ys;
  place = ends_on 0 (length xs) l xs ys (sym (zero-add (length xs)));
}

-- ---- where an end stands

stands_from : (place : ℕ) (l : Live) (xs : List ℕ) → StandsIn (place + length xs) (fed_from place l xs)
unfolding fed_from
stands_from place l [] = tt
stands_from place l (b ∷ xs) =
    stands_placed (after l b).ended place (place + length (b ∷ xs)) (fed_from (place + 1) (after l b) xs) (omega arith)
    (stands_as (place + length (b ∷ xs)) (place + 1 + length xs) (fed_from (place + 1) (after l b) xs) (omega arith) (stands_from (place + 1) (after l b) xs))

within : (b : Option Live) (xs : List ℕ) → StandsIn (length xs) (fed_of b xs)
within None xs = tt
within (Some l) xs = stands_as (length xs) (0 + length xs) (fed_from 0 l xs) (zero-add (length xs)) (stands_from 0 l xs)

pub bench_pieces : TakesPieces bench_feeding
bench_pieces = record { unfed = unfed; joins = joins; within = within }
