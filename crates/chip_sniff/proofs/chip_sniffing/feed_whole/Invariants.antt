use Rattle.std.proofs.Common.{◌≡◌, IsSome, drop}
use Rattle.chip_core.specs.Feeds.{feed_of}
use Rattle.chip_sniff.proofs.chip_sniffing.feed_whole.Given as goal

abbrev pub invariant-loop-byte : goal.invariant-loop-byte
invariant-loop-byte g l = IsSome l.bench × (feed_of l.bench (drop l.byte-index l.bytes) ≡ feed_of l.fn.bench l.fn.bytes)
