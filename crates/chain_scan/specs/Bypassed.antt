-- What a scanner knows of the other devices of a chain: the lengths of their instruction registers, that all stand in the chip's state, and, from a scan of the
-- instruction register on, that BYPASS is selected in each. IEEE 1149.1, the bypass register, and the instruction that a device has behind a reset.
use Rattle.std.specs.Prelude.{◌≡◌, ◌≤◌, ◌+◌, ℕ, List, map, Bool, true, false, Option, Some, None, IfSome}
use Rattle.debug_model.specs.Chip.{Chip}
use Rattle.debug_model.specs.Port.{data_register_of}
use Rattle.debug_model.specs.Scan.{far_at, idle_port, ir_clocks, ticks}
use Rattle.debug_model.specs.Told.{Far, IsFree, IsIdle, IsLive, IsRead}
use Rattle.probe_scan.specs.Remembered.{Holds}
use Rattle.chain_scan.specs.Chain.{Chain}
use Rattle.chain_scan.specs.ChainLaws.{Each, InOneState}
use Rattle.chain_scan.specs.ChainPlan.{Plan}
use Rattle.chain_scan.specs.SideTap.{SideTap}
use Rattle.chain_scan.specs.Told.{ChainFar, chip_far}

abbrev pub width_of : SideTap → ℕ
width_of t = t.width

-- this chain has the TAPs of this plan, and all stand in one state
pub record IsPlanned (plan : Plan) (c : Chain) : Type 0 where
  pub near : map width_of c.near ≡ plan.near
  pub far : map width_of c.far ≡ plan.far
  pub together : InOneState c

abbrev pub IsPlannedTold : Plan → Option ChainFar → Type 0
IsPlannedTold plan told = IfSome told (λ f. IsPlanned plan f.live.chain)

-- its identification is not selected
pub record Bypasses (t : SideTap) : Type 0 where
  pub selected : t.identifies ≡ false

pub record AllBypass (c : Chain) : Type 0 where
  pub near : Each Bypasses c.near
  pub far : Each Bypasses c.far

-- the chip selects the register of this code, and the others BYPASS
pub record HoldsCode (code : ℕ) (f : ChainFar) : Type 0 where
  pub chip : Holds (data_register_of code) (chip_far f)
  pub others : AllBypass f.live.chain

-- the remembered code, where there is one, is the chip's instruction, and the others stand in BYPASS
abbrev pub Remembers : Option ℕ → Option ChainFar → Type 0
Remembers code told = IfSome code (λ c. IfSome told (HoldsCode c))

-- ---- what a call leaves

pub record RestsTold (told : Option Far) : Type 0 where
  pub live : IsLive told
  pub read : IsRead told
  pub free : IsFree told
  pub idle : IsIdle told

-- no scan of the instruction registers has more bits for the others: 8 for each of seven
abbrev pub code_slack : ℕ
code_slack = 56

-- all instruction registers were scanned, the chip's with this code: rounds passed, and nothing else
pub record CodeScanned (code : ℕ) (c : Chip) (new : Option Far) : Type 0 where
  pub rises : ℕ
  pub shift : List Bool
  pub is : new ≡ Some (far_at true (idle_port (data_register_of code) shift) (ticks rises c.inside))
  pub least : ir_clocks ≤ rises
  pub most : rises ≤ ir_clocks + code_slack
