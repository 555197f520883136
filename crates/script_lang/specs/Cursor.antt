-- What a cursor over the words of a line knows of the bytes that are left.
-- Words and blanks are those of debug_model.
use Rattle.std.specs.Prelude.{◌≡◌, ℕ, false, List, [], ◌∷◌}
use Rattle.debug_model.specs.ScriptText.{is_blank}

-- the first byte, where there is one, is of a word
abbrev pub StartsWithWord : List ℕ → Type 0
StartsWithWord [] = Unit {0}
StartsWithWord (byte ∷ bytes) = is_blank byte ≡ false
