-- The devices beside the chip on a bench, the chain that it and they are, and what a wire to that chain tells.
-- IEEE 1149.1, the serial connection of components. That a chain on a bench moves as its definition says is what the contracts of the wire state.
use Rattle.std.specs.Prelude.{ℕ, List, [], map, Bool, true, false, Option, Some, None, is_none, option_map}
use Rattle.debug_model.specs.declared.chip_end.ChipEnd.{ChipEnd}
use Rattle.debug_model.specs.declared.chip_end.ChipEnd.TheVariants.{Quitted, BadByte, AtLimit}
use Rattle.debug_model.specs.Chip.{Chip, Live, unless_ended}
use Rattle.chip_core.specs.declared.fed.Fed.{Fed}
use Rattle.chip_core.specs.declared.fed.Fed.TheVariants.{All, Quit, Bad, EventLimit}
use Rattle.chain_scan.specs.Chain.{Chain, chain_of, sides_rise}
use Rattle.chain_scan.specs.ChainPlan.{Plan}
use Rattle.chain_scan.specs.SideTap.{SideTap, side_falls, side_holds}
use Rattle.chain_scan.specs.Told.{ChainFar, ChainLive, chain_answer, feed_chain, said_in_chain}

-- the devices beside the chip, and the level that TCK has at them
pub record Beside : Type 0 where
  pub near : List SideTap  -- between TDO and the chip, the one at TDO first
  pub far : List SideTap  -- between the chip and TDI, the one at the chip first
  pub tck : Bool

-- the chip's TDO, the level of TCK before, and then the pins as they become
abbrev pub beside_pinned : Bool → Bool → Bool → Bool → Bool → Beside → Beside
beside_pinned chip_tdo false true tms tdi s = record { near = sides_rise tms chip_tdo s.near; far = sides_rise tms tdi s.far; tck = true }
beside_pinned chip_tdo true false tms tdi s = record { near = map side_falls s.near; far = map side_falls s.far; tck = false }
beside_pinned chip_tdo false false tms tdi s = record s { tck = false }
beside_pinned chip_tdo true true tms tdi s = record s { tck = true }

abbrev pub beside_held : Bool → Beside → Beside
beside_held on s = record s { near = map (side_holds on) s.near; far = map (side_holds on) s.far }

-- ---- a bench

abbrev pub tck_of : Option Live → Bool
tck_of None = false
tck_of (Some l) = l.chip.tck

-- what has ended it
abbrev pub ended_of : Option Live → Option ChipEnd
ended_of None = None
ended_of (Some l) = l.ended

-- has nothing ended it?
abbrev pub is_live : Option Live → Bool
is_live None = true
is_live (Some l) = is_none l.ended

-- what has ended it, by what a feed has answered
abbrev pub end_told : Fed → Option ChipEnd
end_told All = None
end_told (Quit place) = Some Quitted
end_told (Bad place byte) = Some (BadByte byte)
end_told (EventLimit place) = Some AtLimit

-- TDO, where nothing has ended it
abbrev pub tdo_of : Option Live → Option Bool
tdo_of None = None
tdo_of (Some l) = unless_ended l.ended (Some l.chip.port.tdo) None

-- ---- the chain

abbrev pub chain_with : Beside → Chip → Chain
chain_with s c = record { near = s.near; chip = c; far = s.far }

abbrev pub live_with : Beside → Live → ChainLive
live_with s l = record { chain = chain_with s l.chip; ended = l.ended }

abbrev pub chain_on : Option Live → Beside → Option ChainLive
chain_on bench s = option_map (live_with s) bench

-- what it is behind bytes
abbrev pub feed_in : Option ChainLive → List ℕ → Option ChainLive
feed_in chain bytes = option_map (λ l. feed_chain l bytes) chain

-- what it answers to a byte, and to bytes
abbrev pub answer_in : Option ChainLive → ℕ → List ℕ
answer_in None b = []
answer_in (Some l) b = chain_answer l b

abbrev pub said_in : Option ChainLive → List ℕ → List ℕ
said_in None bytes = []
said_in (Some l) bytes = said_in_chain l bytes

-- ---- what a wire tells

abbrev pub chain_told : Option ChainLive → List ℕ → Option ChainFar
chain_told chain unread = option_map (λ l. record { live = l; unread = unread }) chain

abbrev pub chain_far : Option Live → Beside → List ℕ → Option ChainFar
chain_far bench s unread = chain_told (chain_on bench s) unread

-- as it begins
abbrev pub planned_live : Plan → Live → ChainLive
planned_live plan l = record { chain = chain_of plan.near l.chip plan.far; ended = l.ended }

abbrev pub planned_far : Plan → Option Live → Option ChainFar
planned_far plan bench = option_map (λ l. record { live = planned_live plan l; unread = [] }) bench
