-- What a chain of TAPs is, in the standard's words. IEEE 1149.1, the serial connection of components: TMS, TCK and TRST reach all TAPs, so all stand in one
-- state; and from TDI to TDO their registers shift as one.
use Rattle.std.specs.Prelude.{◌≡◌, ◌≢◌, ℕ, List, [], ◌∷◌, ◌++◌, ◌⊎◌, Bool, false}
use Rattle.jt_base.specs.BitList.{lowest, shift_in}
use Rattle.debug_model.specs.declared.tap_state.TapState.{TapState}
use Rattle.debug_model.specs.declared.tap_state.TapState.TheVariants.{ShiftDr, ShiftIr}
use Rattle.debug_model.specs.Port.{Port}
use Rattle.chain_scan.specs.Chain.{Chain, chain_falls, chain_rises, chain_tdo, run_chain}
use Rattle.chain_scan.specs.SideTap.{SideTap}

-- it holds of each
abbrev pub Each : {X : Type 0} → (X → Type 0) → List X → Type 0
Each P [] = Unit {0}
Each P (x ∷ xs) = P x × Each P xs

-- ---- one state

pub record StandsAs (p : Port) (t : SideTap) : Type 0 where
  pub state : t.state ≡ p.state
  pub held : t.held ≡ p.held

pub record InOneState (c : Chain) : Type 0 where
  pub near : Each (StandsAs c.chip.port) c.near
  pub far : Each (StandsAs c.chip.port) c.far

-- whatever bytes come
abbrev pub TapsStayInOneState : Type 0
TapsStayInOneState = (c : Chain) (bytes : List ℕ) → InOneState c → InOneState (run_chain c bytes)

-- ---- one register

-- the registers that shift, one behind the other, the one at TDO first
abbrev pub joined_shifts : List SideTap → List Bool
joined_shifts [] = []
joined_shifts (t ∷ ts) = t.shift ++ joined_shifts ts

abbrev pub whole : Chain → List Bool
whole c = joined_shifts c.near ++ (c.chip.port.shift ++ joined_shifts c.far)

abbrev pub HasBits : SideTap → Type 0
HasBits t = t.shift ≢ []

abbrev pub Shifting : TapState → Type 0
Shifting state = (state ≡ ShiftDr) ⊎ (state ≡ ShiftIr)

-- in a Shift state, with no register empty, and TRST is 0
pub record ShiftsAlong (c : Chain) : Type 0 where
  pub together : InOneState c
  pub shifting : Shifting c.chip.port.state
  pub free : c.chip.port.held ≡ false
  pub near : Each HasBits c.near
  pub chip : c.chip.port.shift ≢ []
  pub far : Each HasBits c.far

-- behind a fall TDO is the lowest bit of all, and the rise behind it shifts all of them by one, with TDI at the top
pub record OneRegister (c : Chain) (tms tdi : Bool) : Type 0 where
  pub tdo : chain_tdo (chain_falls c) ≡ lowest (whole c)
  pub shifted : whole (chain_rises tms tdi (chain_falls c)) ≡ shift_in tdi (whole c)

abbrev pub RegistersShiftAsOne : Type 0
RegistersShiftAsOne = (c : Chain) (tms tdi : Bool) → ShiftsAlong c → OneRegister c tms tdi
