-- Streams of bytes as the standard library has them, where what they hold is known: what a fault leaves behind.
-- No public standard defines this.
use Rattle.std.specs.Prelude.{◌≡◌, ℕ, List, ◌++◌, Option, None, Some}
use Rattle.std.specs.Io.KnownBytes.{Appends}

-- a front of these bytes was written, and no more
pub record AppendsFront (old new : Option (List ℕ)) (bytes : List ℕ) : Type 0 where
  pub front : List ℕ
  pub back : List ℕ
  pub cut : bytes ≡ front ++ back
  pub appends : Appends old new front

-- what the stream of an end holds, where there is a stream and it is known
abbrev pub held : {S : Type 0} → (S → Option (List ℕ)) → Option S → Option (List ℕ)
held contents None = None
held contents (Some s) = contents s
