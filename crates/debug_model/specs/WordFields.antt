-- A value put where its field stands in a register's word. A field of a word is read by `field` and `bit`.
-- RISC-V Debug Specification 1.0 writes each register as such fields; a value is cut to its field's width.
use Rattle.std.specs.Prelude.{ℕ, ◌*◌, ◌%◌, ◌^◌}

-- a value of so many bits, from bit `low` on
abbrev pub placed : ℕ → ℕ → ℕ → ℕ
placed low count value = value % 2 ^ count * 2 ^ low
