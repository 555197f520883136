use Rattle.std.proofs.Common.{◌≡◌, ◌+◌, ◌≤◌, ◌++◌, [], IsSome, drop}
use Rattle.arrayvec.specs.ArrayVec.{array_vec_len}
use Rattle.debug_model.specs.Ties.{timing_told}
use Rattle.chip_core.specs.Feeds.{far_of}
use Rattle.chain_bench.specs.Benched.{chain_on, feed_in, said_in, tck_of}
use Rattle.chain_bench.specs.ChainFed.{fed_in, fed_in_from}
use Rattle.chain_bench.proofs.taking.take_all.Given as goal

abbrev pub invariant-loop-place : goal.invariant-loop-place
invariant-loop-place g l = record {
  chain : feed_in (chain_on l.bench l.sides) (drop l.place l.bytes) ≡ feed_in (chain_on l.fn.bench l.fn.sides) l.bytes;
  answers : l.unread.items ++ said_in (chain_on l.bench l.sides) (drop l.place l.bytes)
      ≡ l.fn.unread.items ++ said_in (chain_on l.fn.bench l.fn.sides) l.bytes;
  fed : fed_in_from l.place (chain_on l.bench l.sides) (drop l.place l.bytes) ≡ fed_in (chain_on l.fn.bench l.fn.sides) l.bytes;
  clock : l.sides.tck ≡ tck_of l.bench;
  timing : timing_told (far_of l.bench []) ≡ timing_told (far_of l.fn.bench []);
  loaded : IsSome l.bench;
  room : array_vec_len l.unread ≤ array_vec_len l.fn.unread + l.place;
}
