-- What a write in pieces has added to the bytes that a writer holds, where they are known.
-- No public standard defines this.
use Rattle.std.specs.Prelude.{◌≡◌, ℕ, List, ◌++◌, Option}
use Rattle.std.specs.Io.KnownBytes.{Appends}

-- a piece is cut in two: its front was added, and this much of it is left
pub record AppendsUpTo (old new : Option (List ℕ)) (piece rest : List ℕ) : Type 0 where
  pub front : List ℕ
  pub cut : piece ≡ front ++ rest
  pub added : Appends old new front

-- the front of a piece was added
abbrev pub AppendsFront : Option (List ℕ) → Option (List ℕ) → List ℕ → Type 0
AppendsFront old new piece = (rest : List ℕ) × AppendsUpTo old new piece rest
