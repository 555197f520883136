use Rattle.std.proofs.Common.{◌≡◌, ◌+◌, ◌≤◌, ◌++◌, None, length}
use Rattle.arrayvec.specs.ArrayVec.{array_vec_len}
use Rattle.debug_model.specs.Chip.{feed, said}
use Rattle.chip_core.specs.Fed.{fed, fed_from}
use Rattle.chip_core.proofs.chip.Chip.feed_live.Given as goal

abbrev pub invariant-bytes : goal.invariant-bytes
invariant-bytes g l = record {
  chip : feed l.self l.rest ≡ feed l.fn.self l.fn.bytes;
  answers : l.answers.items ++ said l.self l.rest ≡ l.fn.answers.items ++ said l.fn.self l.fn.bytes;
  fed : fed_from l.place l.self l.rest ≡ fed l.fn.self l.fn.bytes;
  live : l.self.ended ≡ None;
  place : l.place + length l.rest ≡ length l.fn.bytes;
  room : array_vec_len l.answers + length l.rest ≤ array_vec_len l.fn.answers + length l.fn.bytes;
}

abbrev pub decreases-bytes : goal.decreases-bytes
decreases-bytes g l = length l.rest
