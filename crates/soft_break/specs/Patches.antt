-- What a probe remembers of the software breakpoints that are set: their addresses, upwards, and the word that each has taken the place of.
-- It is this project's own. What it means is said by the table of the laws of software breakpoints.
use Rattle.std.specs.Prelude.{◌≡◌, ◌<◌, ◌^◌, ℕ, true, List, [], ◌∷◌, length, All, ◌==◌, nat_lt, if◌then◌else◌}
use Rattle.std.specs.FinMap.{empty, get}
use Rattle.std.specs.Int.{byte_at}
use Rattle.rv_model.specs.Memory.{Bytes, with_value}
use Rattle.debug_model.specs.SoftCommand.{IsSoftAddress}
use Rattle.abstract_debugger.specs.Plan.{patch_bytes}
use Rattle.soft_laws.specs.Lowered.{Table}
use Rattle.soft_laws.specs.SoftBreaks.{meets_some, without}
use Rattle.soft_laws.specs.SoftDebugger.{put_in}

pub record Patches : Type 0 where
  pub addresses : List ℕ
  pub originals : List ℕ

abbrev pub no_patches : Patches
no_patches = record { addresses = []; originals = [] }

-- ---- what a list of patches keeps

abbrev pub IsBelow : ℕ → List ℕ → Type 0
IsBelow a [] = Unit {0}
IsBelow a (c ∷ cs) = a < c

-- each address is below the next
abbrev pub Upwards : List ℕ → Type 0
Upwards [] = Unit {0}
Upwards (a ∷ cs) = IsBelow a cs × Upwards cs

pub record ArePatches (p : Patches) : Type 0 where
  pub upwards : Upwards p.addresses
  pub alike : length p.originals ≡ length p.addresses
  pub words : All IsSoftAddress p.addresses

-- ---- the table

-- memory with each original at its address, and nothing else
abbrev pub laid : List ℕ → List ℕ → Bytes
laid [] ws = empty
laid (a ∷ cs) [] = empty
laid (a ∷ cs) (w ∷ ws) = with_value (laid cs ws) a patch_bytes w

abbrev pub table_of : Patches → Table
table_of p = record { covered = p.addresses; originals = laid p.addresses p.originals }

-- they cover the same words, and remember the same of each of their bytes
pub record IsSameTable (t u : Table) : Type 0 where
  pub covered : t.covered ≡ u.covered
  pub bytes : (q : ℕ) → meets_some t.covered q 1 ≡ true → get t.originals q ≡ get u.originals q

-- ---- one patch more, and one less

-- the word of one more, at the place that its address takes
abbrev pub put_word : (at original : ℕ) → List ℕ → List ℕ → List ℕ
put_word at original [] ws = original ∷ ws
put_word at original (a ∷ cs) [] = original ∷ []
put_word at original (a ∷ cs) (w ∷ ws) = if nat_lt at a then original ∷ w ∷ ws else w ∷ put_word at original cs ws

abbrev pub with_patch : (at original : ℕ) → Patches → Patches
with_patch at original p = record { addresses = put_in at p.addresses; originals = put_word at original p.addresses p.originals }

-- the words but that of an address
abbrev pub without_word : ℕ → List ℕ → List ℕ → List ℕ
without_word at [] ws = []
without_word at (a ∷ cs) [] = []
without_word at (a ∷ cs) (w ∷ ws) = if at == a then without_word at cs ws else w ∷ without_word at cs ws

abbrev pub without_patch : ℕ → Patches → Patches
without_patch at p = record { addresses = without at p.addresses; originals = without_word at p.addresses p.originals }

-- the word that the patch at an address has taken the place of
abbrev pub word_in : ℕ → List ℕ → List ℕ → ℕ
word_in at [] ws = 0
word_in at (a ∷ cs) [] = 0
word_in at (a ∷ cs) (w ∷ ws) = if at == a then w else word_in at cs ws

abbrev pub original_of : ℕ → Patches → ℕ
original_of at p = word_in at p.addresses p.originals

-- ---- the bytes of a word

-- one byte of a word takes this value, and the others stay
pub record IsReplaced (place byte old new : ℕ) : Type 0 where
  pub there : byte_at place new ≡ byte
  pub others : (k : ℕ) → k < patch_bytes → (k ≡ place → ⊥) → byte_at k new ≡ byte_at k old

-- as many words are remembered, and each has 32 bits where it had them
pub record KeepsWords (p q : Patches) : Type 0 where
  pub alike : length q.originals ≡ length p.originals
  pub fits : (at : ℕ) → original_of at p < 2 ^ 32 → original_of at q < 2 ^ 32
