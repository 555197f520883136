-- What a feed of bytes to a chain answers, and that a chain takes the bytes of a stream in the same sense as its chip alone does.
-- OpenOCD, remote_bitbang, for the stream and its `Q`; that a chain ends as its chip does, and the limit, are this project's own choices.
use Rattle.std.specs.Prelude.{◌≡◌, ℕ, ◌+◌, List, [], ◌∷◌, Option, Some, None, option_map}
use Rattle.debug_model.specs.Chip.{Live, feed}
use Rattle.debug_model.specs.Net.{NetState}
use Rattle.chip_core.specs.Fed.{fed, placed}
use Rattle.chip_core.specs.declared.fed.Fed.{Fed}
use Rattle.chip_core.specs.declared.fed.Fed.TheVariants.{All}
use Rattle.chain_scan.specs.ChainPlan.{Plan}
use Rattle.chain_scan.specs.ChipInChain.{seen_bytes}
use Rattle.chain_scan.specs.Told.{ChainLive, chain_after, chip_live, feed_chain}
use Rattle.chip_server.specs.Feeding.{Feeding, TakesPieces}
use Rattle.chip_server.specs.Served.{ServedBy}
use Rattle.chip_server.specs.declared.served.Served.{Served}
use Rattle.chain_bench.specs.Benched.{feed_in, planned_live, said_in}

-- of the bytes from this place on: where the first one stands that ends the chain
unfoldable pub fed_chain_from : ℕ → ChainLive → List ℕ → Fed
fed_chain_from place l [] = All
fed_chain_from place l (b ∷ bs) = placed (chain_after l b).ended place (fed_chain_from (place + 1) (chain_after l b) bs)

abbrev pub fed_in_from : ℕ → Option ChainLive → List ℕ → Fed
fed_in_from place None bytes = All
fed_in_from place (Some l) bytes = fed_chain_from place l bytes

abbrev pub fed_in : Option ChainLive → List ℕ → Fed
fed_in chain bytes = fed_in_from 0 chain bytes

abbrev pub chain_feeding : Feeding ChainLive
chain_feeding = record { feed_of = feed_in; said_of = said_in; fed_of = fed_in }

-- pieces fed to a chain one after the other are the whole of them fed at once
abbrev pub ChainTakesPieces : Type 0
ChainTakesPieces = TakesPieces chain_feeding

-- ---- its chip

-- these bytes do to the chip of this chain what the same bytes with another TDI, that of its neighbour, do to the chip alone; and they end both at one place
pub record EndsAsChip (l : ChainLive) (bytes : List ℕ) : Type 0 where
  pub chip : chip_live (feed_chain l bytes) ≡ feed (chip_live l) (seen_bytes l.chain bytes)
  pub place : fed_in (Some l) bytes ≡ fed (chip_live l) (seen_bytes l.chain bytes)

abbrev pub ChainEndsAsItsChip : Type 0
ChainEndsAsItsChip = (l : ChainLive) (bytes : List ℕ) → EndsAsChip l bytes

-- ---- a chain that is served over a net

-- the chip on this bench among the devices of this plan, as a reset leaves them
abbrev pub planned_on : Plan → Option Live → Option ChainLive
planned_on plan bench = option_map (planned_live plan) bench

-- the chip of a chain, as it stands on its bench
abbrev pub chip_in : Option ChainLive → Option Live
chip_in chain = option_map chip_live chain

-- the chip on this bench was served as one of a chain: the chain took what was taken and nothing else, what were put are its answers, and the chip is left as
-- it is in the chain behind that
pub record WasServedIn (plan : Plan) (served : Served) (old new : NetState) (bench left : Option Live) : Type 0 where
  pub chain : Option ChainLive
  pub is : ServedBy chain_feeding served old new (planned_on plan bench) chain
  pub chip : left ≡ chip_in chain
