-- Numbers in the bytes of memory's two windows, the harts' MSIP words and RAM, as code writes them.
-- RISC-V Advanced Core Local Interruptor Specification, "Machine-level Software Interrupt Device": of an MSIP word only bit 0 can be written.
use Rattle.std.specs.Prelude.{ℕ, zero, suc, ◌+◌, ◌*◌, ◌/◌, ◌%◌, ◌^◌, ◌==◌, if◌then◌else◌}
use Rattle.std.specs.FinMap.{insert}
use Rattle.rv_model.specs.Memory.{Bytes, hart_places, msip_size}

-- how many bytes the MSIP words of the most harts have
abbrev pub most_words : ℕ
most_words = msip_size * hart_places

-- the map with all of a value's lowest bytes, so many, from an address on
abbrev pub put_value : Bytes → ℕ → ℕ → ℕ → Bytes
put_value m a zero v = m
put_value m a (suc n) v = put_value (insert m a (v % 256)) (a + 1) n (v / 256)

-- the bits of a value that a write to MSIP words keeps: bit 0 of each word that it starts at or holds
abbrev pub kept_bits : ℕ → ℕ → ℕ
kept_bits a v = if a % msip_size == 0 then (v % 2 + v / 2 ^ 32 % 2 * 2 ^ 32) else 0
