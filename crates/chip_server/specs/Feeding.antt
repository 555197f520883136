-- What takes the bytes of a stream, as the chip on a bench does, or a chain with that chip in it: what it is behind them, what it answers to them, and how the
-- first end stands among them. OpenOCD, remote_bitbang, for the stream; that a piece is only how its bytes happen to come is what such a thing has to prove.
use Rattle.std.specs.Prelude.{◌≡◌, ◌<◌, ℕ, List, [], ◌++◌, length, Option}
use Rattle.debug_model.specs.Chip.{Live}
use Rattle.chip_core.specs.Feeds as feeds
use Rattle.chip_core.specs.Pieces.{joined}
use Rattle.chip_core.specs.declared.fed.Fed.{Fed}
use Rattle.chip_core.specs.declared.fed.Fed.TheVariants as fed

-- of things that are in such a state, or blank
pub record Feeding (S : Type 0) : Type 0 where
  pub feed_of : Option S → List ℕ → Option S
  pub said_of : Option S → List ℕ → List ℕ
  pub fed_of : Option S → List ℕ → Fed

-- the chip on its bench
abbrev pub bench_feeding : Feeding Live
bench_feeding = record { feed_of = feeds.feed_of; said_of = feeds.said_of; fed_of = feeds.fed_of }

-- ---- laws

-- an end stands among so many bytes
abbrev pub StandsIn : ℕ → Fed → Type 0
StandsIn count fed.All = Unit {0}
StandsIn count (fed.Quit place) = place < count
StandsIn count (fed.Bad place byte) = place < count
StandsIn count (fed.EventLimit place) = place < count

-- no bytes do nothing
pub record StaysUnfed {S : Type 0} (f : Feeding S) (s : Option S) : Type 0 where
  pub same : f.feed_of s [] ≡ s
  pub silent : f.said_of s [] ≡ []
  pub whole : f.fed_of s [] ≡ fed.All

-- two pieces, one after the other, are the whole of them at once: the places of the second count on where the first was taken whole
pub record TakesJoined {S : Type 0} (f : Feeding S) (s : Option S) (xs ys : List ℕ) : Type 0 where
  pub feeds : f.feed_of s (xs ++ ys) ≡ f.feed_of (f.feed_of s xs) ys
  pub says : f.said_of s (xs ++ ys) ≡ f.said_of s xs ++ f.said_of (f.feed_of s xs) ys
  pub place : f.fed_of s (xs ++ ys) ≡ joined (length xs) (f.fed_of s xs) (f.fed_of (f.feed_of s xs) ys)

-- pieces are only how the bytes of a stream happen to come
pub record TakesPieces {S : Type 0} (f : Feeding S) : Type 0 where
  pub unfed : (s : Option S) → StaysUnfed f s
  pub joins : (s : Option S) (xs ys : List ℕ) → TakesJoined f s xs ys
  pub within : (s : Option S) (xs : List ℕ) → StandsIn (length xs) (f.fed_of s xs)
