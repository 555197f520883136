-- Sinks of bytes: what a put adds to the bytes that a sink has taken, where they are told.
-- No public standard defines this.
use Rattle.std.specs.Prelude.{◌≡◌, ℕ, List, ◌++◌, Option, None, Some, option_map}

-- the bytes after a piece was taken whole
abbrev pub grown : List ℕ → Option (List ℕ) → Option (List ℕ)
grown piece = option_map (λ bytes. bytes ++ piece)

-- a piece is cut in two, and its front was taken
pub record TookFront (piece old : List ℕ) (told : Option (List ℕ)) : Type 0 where
  pub front : List ℕ
  pub back : List ℕ
  pub cut : piece ≡ front ++ back
  pub is : told ≡ Some (old ++ front)

-- the bytes grew by a prefix of a piece. What isn't told stays untold
abbrev pub GrewByPrefix : List ℕ → Option (List ℕ) → Option (List ℕ) → Type 0
GrewByPrefix piece None new = new ≡ None
GrewByPrefix piece (Some old) new = TookFront piece old new
