use Rattle.std.proofs.Common.{◌≡◌, ◌≤◌, drop}
use Rattle.wire_sniff.proofs.Follows.{Follows}
use Rattle.wire_sniff.proofs.sniffing.put_lines.Given as goal

abbrev pub invariant-loop-byte : goal.invariant-loop-byte
invariant-loop-byte g l = Follows l.answers l.signs (drop l.byte-index l.signs) l.sniffer (g.K.Sink.contents l.fn.out) (g.K.Sink.contents l.out)
    × (l.sniffer.scan.count ≤ l.byte-index)
    × (g.K.Sink.fault_count l.out ≡ g.K.Sink.fault_count l.fn.out)
