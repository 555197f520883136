-- What an object that carries the stream to a chain may tell of it: the chain with what ended it, and its answers that are not read yet; and what calls do
-- to it.
-- A chain ends as its chip does: OpenOCD, remote_bitbang, for `Q`; that a byte which is no sign and the chip's limit end it is this project's own choice.
use Rattle.std.specs.Prelude.{◌≡◌, ◌++◌, ℕ, List, [], ◌∷◌, Option, Some, None, option_map}
use Rattle.debug_model.specs.declared.chip_end.ChipEnd.{ChipEnd}
use Rattle.debug_model.specs.Chip.{Chip, Live, end_of, unless_ended}
use Rattle.debug_model.specs.Signs.{sign_of}
use Rattle.debug_model.specs.Told.{Far}
use Rattle.debug_model.specs.Wire.{CutShort}
use Rattle.chain_scan.specs.Chain.{Chain, chain_answered, chain_signed}

-- a chain, and what ended it, where something did
pub record ChainLive : Type 0 where
  pub chain : Chain
  pub ended : Option ChipEnd

-- a byte that ends the chain does nothing else: by its end, the chain behind it, and the chain before it
abbrev pub chain_taken_by : Option ChipEnd → Chain → Chain → ChainLive
chain_taken_by None next c = record { chain = next; ended = None }
chain_taken_by (Some end) next c = record { chain = c; ended = Some end }

abbrev pub chain_after : ChainLive → ℕ → ChainLive
chain_after l b = unless_ended l.ended (chain_taken_by (end_of b (sign_of b) l.chain.chip) (chain_signed (sign_of b) l.chain) l.chain) l

abbrev pub chain_answer : ChainLive → ℕ → List ℕ
chain_answer l b = unless_ended l.ended (chain_answered (sign_of b) l.chain) []

-- the chain after these bytes, and all that it answers to them
unfoldable pub feed_chain : ChainLive → List ℕ → ChainLive
feed_chain l [] = l
feed_chain l (b ∷ bs) = feed_chain (chain_after l b) bs

unfoldable pub said_in_chain : ChainLive → List ℕ → List ℕ
said_in_chain l [] = []
said_in_chain l (b ∷ bs) = chain_answer l b ++ said_in_chain (chain_after l b) bs

pub record ChainFar : Type 0 where
  pub live : ChainLive
  pub unread : List ℕ

-- ---- its chip, as one that stands alone is told

abbrev pub chip_live : ChainLive → Live
chip_live l = record { chip = l.chain.chip; ended = l.ended }

abbrev pub chip_far : ChainFar → Far
chip_far f = record { live = chip_live f.live; unread = f.unread }

abbrev pub chip_told : Option ChainFar → Option Far
chip_told told = option_map chip_far told

-- ---- what calls of a wire do

-- the far end after these bytes are sent
abbrev pub chain_sent : List ℕ → ChainFar → ChainFar
chain_sent bytes f = record { live = feed_chain f.live bytes; unread = f.unread ++ said_in_chain f.live bytes }

-- a prefix of these bytes was sent, and no more
abbrev pub ChainSentFront : List ℕ → Option ChainFar → Option ChainFar → Type 0
ChainSentFront bytes None new = new ≡ None
ChainSentFront bytes (Some f) new = (front back : List ℕ) × (bytes ≡ front ++ back) × (new ≡ Some (chain_sent front f))

-- these bytes are the first of what was unread, and the chain stays as it is
abbrev pub ChainReadsFront : List ℕ → Option ChainFar → Option ChainFar → Type 0
ChainReadsFront bytes None new = new ≡ None
ChainReadsFront bytes (Some f) new = (rest : List ℕ) × (f.unread ≡ bytes ++ rest) × (new ≡ Some (record f { unread = rest }))

-- some of the unread answers came, the first of them, and the chain stays as it is
abbrev pub ChainReadsSome : List ℕ → Option ChainFar → Option ChainFar → Type 0
ChainReadsSome into None new = new ≡ None
ChainReadsSome into (Some f) new = (left : List ℕ) × CutShort into f.unread left × (new ≡ Some (record f { unread = left }))

-- some of the unread answers may have come, and the chain stays as it is
abbrev pub KeepsChain : Option ChainFar → Option ChainFar → Type 0
KeepsChain None new = new ≡ None
KeepsChain (Some f) new = (left : List ℕ) × (new ≡ Some (record f { unread = left }))
