-- What the chip of a chain sees: the bytes of the stream with another TDI, that of its neighbour. So all that is proved of a chip under any bytes is so of one
-- in a chain: a rise takes one round, and no operation is lost or done twice. OpenOCD, remote_bitbang, for the bytes: '0' to '7' are the levels of TCK, TMS
-- and TDI, TCK highest.
use Rattle.std.specs.Prelude.{◌≡◌, ℕ, ◌+◌, ◌*◌, List, [], ◌∷◌, Bool, Option, Some, None}
use Rattle.jt_base.specs.BitList.{digit}
use Rattle.debug_model.specs.declared.sign.Sign.{Sign}
use Rattle.debug_model.specs.declared.sign.Sign.TheVariants.{Pins, Ask, Light, Reset, Quit}
use Rattle.debug_model.specs.Chip.{run}
use Rattle.debug_model.specs.Signs.{sign_of}
use Rattle.chain_scan.specs.Chain.{Chain, chain_signed, outgoing, run_chain}

-- the byte that sets these levels
abbrev pub levels_byte : Bool → Bool → Bool → ℕ
levels_byte tck tms tdi = 48 + (4 * digit tck + (2 * digit tms + digit tdi))

abbrev pub seen_byte : Option Sign → ℕ → Chain → ℕ
seen_byte (Some (Pins tck tms tdi)) b c = levels_byte tck tms (outgoing tdi c.far)
seen_byte (Some Ask) b c = b
seen_byte (Some Light) b c = b
seen_byte (Some (Reset trst)) b c = b
seen_byte (Some Quit) b c = b
seen_byte None b c = b

abbrev pub seen_bytes : Chain → List ℕ → List ℕ
seen_bytes c [] = []
seen_bytes c (b ∷ bs) = seen_byte (sign_of b) b c ∷ seen_bytes (chain_signed (sign_of b) c) bs

abbrev pub ChipSeesAnotherTdi : Type 0
ChipSeesAnotherTdi = (c : Chain) (bytes : List ℕ) → (run_chain c bytes).chip ≡ run c.chip (seen_bytes c bytes)
