-- A bench that is fed byte after byte, and what is sniffed of it.
use Rattle.std.proofs.Common.{◌≡◌, ℕ, List, [], ◌∷◌, Option, Some, None, refl, sym, subst}
use Rattle.std.specs.Prelude.{IfSome, IsSomeAnd}
use Rattle.debug_model.specs.Chip.{Live, feed}
use Rattle.debug_model.specs.Loaded.{AsLoaded}
use Rattle.chip_core.specs.Feeds.{feed_of, said_of}
use Rattle.chip_sniff.specs.Shown.{TellsOperations}
use Rattle.chip_sniff.proofs.Stream.{lines_tell_operations}

pub feed_of-cons : (bench : Option Live) (byte : ℕ) (rest : List ℕ) → feed_of (feed_of bench (byte ∷ [])) rest ≡ feed_of bench (byte ∷ rest)
unfolding feed
feed_of-cons None byte rest = refl
feed_of-cons (Some l) byte rest = refl

pub feed_of-nil : (bench : Option Live) → feed_of bench [] ≡ bench
unfolding feed
feed_of-nil None = refl
feed_of-nil (Some l) = refl

pub tells_operations : (bench : Option Live) (stream answers : List ℕ) → IsSomeAnd bench AsLoaded → answers ≡ said_of bench stream
    → IfSome bench (λ l. TellsOperations l stream answers)
tells_operations None stream answers loaded is = tt
tells_operations (Some l) stream answers loaded is = subst (λ given. TellsOperations l stream given) (sym is) (lines_tell_operations l stream loaded)
