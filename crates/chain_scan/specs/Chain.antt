-- Several TAPs in one chain: the chip, with side TAPs between it and the pin TDO and between the pin TDI and it. TCK, TMS and TRST reach all of them.
-- IEEE 1149.1, the serial connection of components; OpenOCD, remote_bitbang, for the bytes. That a rise takes one round of the chip is as without a chain.
use Rattle.std.specs.Prelude.{ℕ, List, [], ◌∷◌, ◌++◌, map, Bool, true, false, Option, Some, None}
use Rattle.debug_model.specs.declared.sign.Sign.{Sign}
use Rattle.debug_model.specs.declared.sign.Sign.TheVariants.{Pins, Ask, Light, Reset, Quit}
use Rattle.debug_model.specs.Chip.{Chip, answer_byte, fall, rise}
use Rattle.debug_model.specs.Port.{port_held}
use Rattle.debug_model.specs.Signs.{sign_of}
use Rattle.chain_scan.specs.SideTap.{SideTap, reset_side, side_falls, side_holds, side_rises}

-- seen from TDO towards TDI
pub record Chain : Type 0 where
  pub near : List SideTap  -- between TDO and the chip, the one at TDO first
  pub chip : Chip
  pub far : List SideTap  -- between the chip and TDI, the one at the chip first

-- what the first of these TAPs gives its neighbour towards TDO, where this level goes into the last
abbrev pub outgoing : Bool → List SideTap → Bool
outgoing tdi [] = tdi
outgoing tdi (t ∷ ts) = t.tdo

-- ---- edges of TCK

-- each takes what its neighbour towards TDI had on TDO before the rise, and the last takes this level
abbrev pub sides_rise : Bool → Bool → List SideTap → List SideTap
sides_rise tms tdi [] = []
sides_rise tms tdi (t ∷ ts) = side_rises tms (outgoing tdi ts) t ∷ sides_rise tms tdi ts

abbrev pub chain_rises : Bool → Bool → Chain → Chain
chain_rises tms tdi c = record {
  near = sides_rise tms c.chip.port.tdo c.near;
  chip = rise tms (outgoing tdi c.far) c.chip;
  far = sides_rise tms tdi c.far;
}

abbrev pub chain_falls : Chain → Chain
chain_falls c = record { near = map side_falls c.near; chip = fall c.chip; far = map side_falls c.far }

-- ---- one byte

-- the level of TCK before, and then the pins as they become
abbrev pub chain_pins : Bool → Bool → Bool → Bool → Chain → Chain
chain_pins false true tms tdi c = chain_rises tms tdi c
chain_pins true false tms tdi c = chain_falls c
chain_pins false false tms tdi c = c
chain_pins true true tms tdi c = c

abbrev pub chain_held : Bool → Chain → Chain
chain_held on c = record {
  near = map (side_holds on) c.near;
  chip = record c.chip { port = port_held on c.chip.port };
  far = map (side_holds on) c.far;
}

-- a chain behind a sign that doesn't end it
abbrev pub chain_signed : Option Sign → Chain → Chain
chain_signed (Some (Pins tck tms tdi)) c = chain_pins c.chip.tck tck tms tdi c
chain_signed (Some Ask) c = c
chain_signed (Some Light) c = c
chain_signed (Some (Reset trst)) c = chain_held trst c
chain_signed (Some Quit) c = c
chain_signed None c = c

-- TDO of the whole is that of the TAP at the pin
abbrev pub chain_tdo : Chain → Bool
chain_tdo c = outgoing c.chip.port.tdo c.near

abbrev pub chain_answered : Option Sign → Chain → List ℕ
chain_answered (Some Ask) c = answer_byte (chain_tdo c) ∷ []
chain_answered (Some (Pins _ _ _)) c = []
chain_answered (Some Light) c = []
chain_answered (Some (Reset _)) c = []
chain_answered (Some Quit) c = []
chain_answered None c = []

unfoldable pub run_chain : Chain → List ℕ → Chain
run_chain c [] = c
run_chain c (b ∷ bs) = run_chain (chain_signed (sign_of b) c) bs

unfoldable pub told_by_chain : Chain → List ℕ → List ℕ
told_by_chain c [] = []
told_by_chain c (b ∷ bs) = chain_answered (sign_of b) c ++ told_by_chain (chain_signed (sign_of b) c) bs

-- as it begins: the lengths of the instruction registers beside this chip
abbrev pub chain_of : List ℕ → Chip → List ℕ → Chain
chain_of near chip far = record { near = map reset_side near; chip = chip; far = map reset_side far }
