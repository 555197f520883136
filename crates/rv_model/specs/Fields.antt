-- The fields of a word, and the immediates that those of an instruction spell.
-- Unprivileged manual, "Base Instruction Formats" and "Immediate Encoding Variants"; immediates are sign extended, modulo 2^64.
use Rattle.std.specs.Prelude.{ℕ, ◌+◌, ◌-◌, ◌*◌, ◌/◌, ◌%◌, ◌^◌, Bool, if◌then◌else◌, ◌==◌, nat_lt}

-- so many bits of a word, from bit `low` on
abbrev pub field : ℕ → ℕ → ℕ → ℕ
field low count w = w / 2 ^ low % 2 ^ count

-- is a bit of a word set?
abbrev pub bit : ℕ → ℕ → Bool
bit place w = field place 1 w == 1

-- what a bit adds to a word
abbrev pub bit_value : ℕ → Bool → ℕ
bit_value place set = if set then 2 ^ place else 0

-- a number of so many bits, the highest of which is its sign, modulo 2^64
abbrev pub sign_extended : ℕ → ℕ → ℕ
sign_extended bits n = if nat_lt n (2 ^ (bits - 1)) then n else n + (2 ^ 64 - 2 ^ bits)

abbrev pub imm_i : ℕ → ℕ
imm_i w = sign_extended 12 (field 20 12 w)

abbrev pub imm_s : ℕ → ℕ
imm_s w = sign_extended 12 (field 25 7 w * 2 ^ 5 + field 7 5 w)

abbrev pub imm_b : ℕ → ℕ
imm_b w = sign_extended 13 (field 31 1 w * 2 ^ 12 + field 7 1 w * 2 ^ 11 + field 25 6 w * 2 ^ 5 + field 8 4 w * 2)

abbrev pub imm_u : ℕ → ℕ
imm_u w = sign_extended 32 (field 12 20 w * 2 ^ 12)

abbrev pub imm_j : ℕ → ℕ
imm_j w = sign_extended 21 (field 31 1 w * 2 ^ 20 + field 12 8 w * 2 ^ 12 + field 20 1 w * 2 ^ 11 + field 21 10 w * 2)
