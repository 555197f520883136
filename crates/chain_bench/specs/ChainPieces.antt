-- A chain takes pieces as the whole of them.
use Rattle.std.proofs.Common.{◌≡◌, ◌∙◌, ◌+◌, ◌++◌, ℕ, List, [], ◌∷◌, length, Option, Some, None, refl, sym, ap, append_assoc, zero-add, arith}
use Rattle.chain_scan.specs.Told.{ChainLive, chain_after, chain_answer, feed_chain, said_in_chain}
use Rattle.chip_core.specs.Pieces.{joined, moved_by}
use Rattle.chip_core.specs.declared.fed.Fed.{Fed}
use Rattle.chip_server.specs.Feeding.{StandsIn, StaysUnfed, TakesJoined, TakesPieces}
use Rattle.chip_server.specs.Places.{joined_placed, moved_placed, stands_as, stands_placed}
use Rattle.chain_bench.specs.ChainFed.{chain_feeding, fed_chain_from, fed_in}

unfed : (chain : Option ChainLive) → StaysUnfed chain_feeding chain
unfolding feed_chain said_in_chain fed_chain_from
unfed None = record { same = refl; silent = refl; whole = refl }
unfed (Some l) = record { same = refl; silent = refl; whole = refl }

feeds_on : (l : ChainLive) (xs ys : List ℕ) → feed_chain l (xs ++ ys) ≡ feed_chain (feed_chain l xs) ys
unfolding feed_chain
feeds_on l [] ys = refl
feeds_on l (b ∷ xs) ys = feeds_on (chain_after l b) xs ys

says_on : (l : ChainLive) (xs ys : List ℕ) → said_in_chain l (xs ++ ys) ≡ said_in_chain l xs ++ said_in_chain (feed_chain l xs) ys
unfolding feed_chain said_in_chain
says_on l [] ys = refl
says_on l (b ∷ xs) ys =
    ap (λ zs. chain_answer l b ++ zs) (says_on (chain_after l b) xs ys)
    ∙ sym (append_assoc (chain_answer l b) (said_in_chain (chain_after l b) xs) (said_in_chain (feed_chain (chain_after l b) xs) ys))

-- places count on
counts_on : (n place : ℕ) (l : ChainLive) (ys : List ℕ) → fed_chain_from (n + place) l ys ≡ moved_by n (fed_chain_from place l ys)
unfolding fed_chain_from
counts_on n place l [] = refl
counts_on n place l (b ∷ ys) =
    let next : n + place + 1 ≡ n + (place + 1) = omega arith in
    let rest : Fed = fed_chain_from (place + 1) (chain_after l b) ys in
    moved_placed (chain_after l b).ended n place rest (fed_chain_from (n + place + 1) (chain_after l b) ys)
    (ap (λ k. fed_chain_from k (chain_after l b) ys) next ∙ counts_on n (place + 1) (chain_after l b) ys)

ends_on : (place n : ℕ) (l : ChainLive) (xs ys : List ℕ) → n ≡ place + length xs
    → fed_chain_from place l (xs ++ ys) ≡ joined n (fed_chain_from place l xs) (fed_chain_from 0 (feed_chain l xs) ys)
unfolding fed_chain_from feed_chain
ends_on place n l [] ys is =
    let same : place ≡ n + 0 = omega arith in
    ap (λ k. fed_chain_from k l ys) same ∙ counts_on n 0 l ys
ends_on place n l (b ∷ xs) ys is =
    let next : n ≡ place + 1 + length xs = omega arith in
    joined_placed (chain_after l b).ended n place (fed_chain_from (place + 1) (chain_after l b) (xs ++ ys)) (fed_chain_from (place + 1) (chain_after l b) xs)
    (fed_chain_from 0 (feed_chain (chain_after l b) xs) ys) (ends_on (place + 1) n (chain_after l b) xs ys next)

joins : (chain : Option ChainLive) (xs ys : List ℕ) → TakesJoined chain_feeding chain xs ys
joins None xs ys = record { feeds = refl; says = refl; place = refl }
joins (Some l) xs ys = record {
  feeds = ap (λ (m : ChainLive). Some m) (feeds_on l xs ys);
  says = says_on l xs ys;
  place = ends_on 0 (length xs) l xs ys (sym (zero-add (length xs)));
}

-- ---- where an end stands

stands_from : (place : ℕ) (l : ChainLive) (xs : List ℕ) → StandsIn (place + length xs) (fed_chain_from place l xs)
unfolding fed_chain_from
stands_from place l [] = tt
stands_from place l (b ∷ xs) =
    stands_placed (chain_after l b).ended place (place + length (b ∷ xs)) (fed_chain_from (place + 1) (chain_after l b) xs) (omega arith)
    (stands_as (place + length (b ∷ xs)) (place + 1 + length xs) (fed_chain_from (place + 1) (chain_after l b) xs) (omega arith)
    (stands_from (place + 1) (chain_after l b) xs))

within : (chain : Option ChainLive) (xs : List ℕ) → StandsIn (length xs) (fed_in chain xs)
within None xs = tt
within (Some l) xs = stands_as (length xs) (0 + length xs) (fed_chain_from 0 l xs) (zero-add (length xs)) (stands_from 0 l xs)

pub chain_pieces : TakesPieces chain_feeding
chain_pieces = record { unfed = unfed; joins = joins; within = within }
