-- Which TAPs stand beside the chip: the lengths of their instruction registers.
-- IEEE 1149.1 asks for two bits at least. That there are 1 to 7 of them, of at most 8 bits each, is this project's own choice.
use Rattle.std.specs.Prelude.{◌≤◌, ◌+◌, ℕ, List, All, length}
use Rattle.chain_scan.specs.SideTap.{width_least, width_most}

abbrev pub sides_most : ℕ
sides_most = 7

-- seen from TDO towards TDI
pub record Plan : Type 0 where
  pub near : List ℕ  -- between TDO and the chip, the one at TDO first
  pub far : List ℕ  -- between the chip and TDI, the one at the chip first

pub record IsWidth (width : ℕ) : Type 0 where
  pub least : width_least ≤ width
  pub most : width ≤ width_most

pub record IsPlan (near far : List ℕ) : Type 0 where
  pub some : 1 ≤ length near + length far
  pub few : length near + length far ≤ sides_most
  pub near_widths : All IsWidth near
  pub far_widths : All IsWidth far
