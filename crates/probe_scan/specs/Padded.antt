-- A scan of one device's register in a chain of several: before its bits and behind them stand the bits that go around the others.
-- IEEE 1149.1, the serial connection of components, the bypass register and the BYPASS instruction, which is all ones; OpenOCD, remote_bitbang, for the bytes.
use Rattle.std.specs.Prelude.{ℕ, ◌+◌, ◌*◌, List, [], ◌∷◌, ◌++◌, map, replicate, Bool, true, false, ◌&&◌}
use Rattle.bitbang_stream.specs.Clock.{pulsed}
use Rattle.debug_model.specs.Scan.{to_idle, to_shift_dr, to_shift_ir}

-- a bit that is shifted in, and whether the one that comes out for it is asked
pub record Shifted : Type 0 where
  pub bit : Bool
  pub asked : Bool

-- so many bits at this level, none of them asked
abbrev pub pads : ℕ → Bool → List Shifted
pads count level = replicate count (record { bit = level; asked = false })

abbrev pub as_asked : Bool → Bool → Shifted
as_asked ask bit = record { bit = bit; asked = ask }

abbrev pub padded : Bool → ℕ → List Bool → ℕ → Bool → List Shifted
padded level before bits after ask = pads before level ++ (map (as_asked ask) bits ++ pads after level)

-- ---- bytes

abbrev pub is_end : List Shifted → Bool
is_end [] = true
is_end (s ∷ ss) = false

-- a clock for each, the last of them with TMS 1 where it ends the shift
abbrev pub shifted_bytes : Bool → List Shifted → List ℕ
shifted_bytes ends [] = []
shifted_bytes ends (s ∷ ss) = pulsed s.asked (is_end ss && ends) s.bit ++ shifted_bytes ends ss

-- from Run-Test/Idle to Shift-IR, or to Shift-DR
abbrev pub to_shift : Bool → List ℕ
to_shift true = to_shift_ir
to_shift false = to_shift_dr

-- a scan of an instruction register goes around the others with ones, and one of a data register with zeros
abbrev pub scan_bytes : Bool → ℕ → List Bool → ℕ → Bool → List ℕ
scan_bytes ir before bits after ask = to_shift ir ++ (shifted_bytes true (padded ir before bits after ask) ++ to_idle)

-- no scan of so many bits has more bytes
abbrev pub bytes_most : ℕ → ℕ → ℕ → ℕ
bytes_most before bits after = 14 + (2 * before + 3 * bits + 2 * after)
