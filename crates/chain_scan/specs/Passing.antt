-- A scan through a chain: the bits that are shifted in come to rest in the registers, and what these held comes out. So a scan of one device's register goes
-- around the others with as many bits more as these have. IEEE 1149.1, the bypass register and the serial connection of components.
use Rattle.std.specs.Prelude.{◌≡◌, List, [], ◌∷◌, ◌++◌, length, map, Bool, false}
use Rattle.chain_scan.specs.Chain.{Chain, chain_falls, chain_rises, chain_tdo}
use Rattle.chain_scan.specs.ChainLaws.{Each, ShiftsAlong, whole}
use Rattle.chain_scan.specs.SideTap.{SideTap}

-- a clock in a Shift state that stays there: TCK falls, and rises with TMS 0 and this level of TDI
abbrev pub shift_clock : Bool → Chain → Chain
shift_clock tdi c = chain_rises false tdi (chain_falls c)

abbrev pub passed : Chain → List Bool → Chain
passed c [] = c
passed c (b ∷ bs) = passed (shift_clock b c) bs

-- TDO between the edges of each clock
abbrev pub taken_out : Chain → List Bool → List Bool
taken_out c [] = []
taken_out c (b ∷ bs) = chain_tdo (chain_falls c) ∷ taken_out (shift_clock b c) bs

pub record Exchanged (c : Chain) (given : List Bool) : Type 0 where
  pub out : taken_out c given ≡ whole c
  pub within : whole (passed c given) ≡ given

-- as many bits as all registers have: what they held is taken out, and what was given stands in them
abbrev pub ScansExchange : Type 0
ScansExchange = (c : Chain) (given : List Bool) → ShiftsAlong c → length given ≡ length (whole c) → Exchanged c given

-- ---- around devices in BYPASS

-- behind a capture
pub record IsBypassed (t : SideTap) : Type 0 where
  pub bit : t.shift ≡ false ∷ []

abbrev pub pad : SideTap → Bool
pad t = false

-- a 0 for each device
abbrev pub pads : List SideTap → List Bool
pads ts = map pad ts

pub record GoesAround (c : Chain) (bits : List Bool) : Type 0 where
  pub out : taken_out c (pads c.near ++ (bits ++ pads c.far)) ≡ pads c.near ++ (c.chip.port.shift ++ pads c.far)
  pub chip : (passed c (pads c.near ++ (bits ++ pads c.far))).chip.port.shift ≡ bits

-- a 0 for each nearer device before the bits and one for each farther device behind them: the chip's register gets just these bits, and what it held comes out
-- between zeros
abbrev pub PadsGoAround : Type 0
PadsGoAround = (c : Chain) (bits : List Bool) → ShiftsAlong c → Each IsBypassed c.near → Each IsBypassed c.far → length bits ≡ length c.chip.port.shift
    → GoesAround c bits
