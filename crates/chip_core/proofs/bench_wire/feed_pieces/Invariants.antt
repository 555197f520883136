use Rattle.std.proofs.Common.{◌≡◌, ◌+◌, ◌≤◌, ◌++◌, IsSome, length}
use Rattle.arrayvec.specs.ArrayVec.{array_vec_len}
use Rattle.debug_model.specs.Wire.{piece_most}
use Rattle.chip_core.specs.Feeds.{feed_of, said_of}
use Rattle.chip_core.proofs.bench_wire.feed_pieces.Given as goal

abbrev pub invariant-pieces : goal.invariant-pieces
invariant-pieces g l = record {
  chip : feed_of l.bench l.rest ≡ feed_of l.fn.bench l.fn.bytes;
  answers : l.answers.items ++ said_of l.bench l.rest ≡ l.fn.answers.items ++ said_of l.fn.bench l.fn.bytes;
  loaded : IsSome l.bench;
  room : array_vec_len l.answers + length l.rest ≤ piece_most;
}

abbrev pub decreases-pieces : goal.decreases-pieces
decreases-pieces g l = length l.rest
