use Rattle.std.proofs.Common.{◌≡◌, ◌≤◌, drop}
use Rattle.wire_sniff.proofs.Drawn.{Drawn}
use Rattle.wire_sniff.proofs.waves.draw_all.Given as goal

abbrev pub invariant-loop-place : goal.invariant-loop-place
invariant-loop-place g l = Drawn l.answers l.signs l.place (drop l.place l.signs) l.moment (g.K.Sink.contents l.fn.out) (g.K.Sink.contents l.out)
    × (l.moment.sniffer.scan.count ≤ l.place)
    × (g.K.Sink.fault_count l.out ≡ g.K.Sink.fault_count l.fn.out)
