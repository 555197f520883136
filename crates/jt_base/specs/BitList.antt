-- Lists of bits, the least significant first, and the numbers that they spell.
-- Serial registers shift their least significant bit out first (IEEE 1149.1, the test data registers).
use Rattle.std.specs.Prelude.{ℕ, zero, suc, ◌+◌, ◌*◌, ◌/◌, ◌%◌, ◌==◌, List, [], ◌∷◌, ◌++◌, Bool, true, false}

-- the most bits of a list
abbrev pub most_bits : ℕ
most_bits = 64

abbrev pub digit : Bool → ℕ
digit false = 0
digit true = 1

-- the lowest `n` bits of a number
unfoldable pub bits_of : ℕ → ℕ → List Bool
bits_of zero v = []
bits_of (suc n) v = (v % 2 == 1) ∷ bits_of n (v / 2)

-- the number that the bits spell: absent bits are 0
unfoldable pub number_of : List Bool → ℕ
number_of [] = 0
number_of (b ∷ bs) = digit b + 2 * number_of bs

-- a serial register after one shift: the lowest bit leaves, and a new one enters at the top
abbrev pub shift_in : Bool → List Bool → List Bool
shift_in b [] = []
shift_in b (x ∷ xs) = xs ++ b ∷ []

-- the bit that leaves at the next shift, false where there is none
abbrev pub lowest : List Bool → Bool
lowest [] = false
lowest (x ∷ xs) = x
