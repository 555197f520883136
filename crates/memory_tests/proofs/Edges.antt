-- A block that begins at RAM's end or in front of it does not reach the end of all addresses.
use Rattle.std.proofs.Common.{◌≤◌, ◌+◌, ◌*◌, ℕ, arith}
use Rattle.rv_model.specs.declared.size.Size.{Size}
use Rattle.rv_model.specs.declared.size.Size.TheVariants.{B1, B2, B4, B8}
use Rattle.rv_model.specs.Size.{count_of}
use Rattle.debug_model.specs.Command.{all_addresses, most_elements}

pub block_ends : (size : Size) (address count : ℕ) → address ≤ 0x80010000 → count ≤ most_elements → address + count * count_of size ≤ all_addresses
block_ends B1 address count near few = omega arith
block_ends B2 address count near few = omega arith
block_ends B4 address count near few = omega arith
block_ends B8 address count near few = omega arith
