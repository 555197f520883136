use Rattle.std.proofs.Common.{sym, ◌∙◌}
use Rattle.wire_sniff.proofs.PutLemmas.{grown_none, text-none}
use Rattle.wire_sniff.proofs.SnifferLemmas.{falls_show, others_hide}
use Rattle.wire_sniff.proofs.sniffing.put_sign.Goals as goal

pub returns-then-falls_at-clause-put : goal.returns-then-falls_at-clause-put
returns-then-falls_at-clause-put g c = λ answers s is.
    rw (falls_show c.args.sniffer.now.tck c.args.sign s is.tck (sym c.falls_at.ensures ∙ c.if-falls_at.true)) (c.put_fall.ensures.put answers s is)

pub returns-then-falls_at-clause-front : goal.returns-then-falls_at-clause-front
returns-then-falls_at-clause-front g c = λ answers s is.
    rw (falls_show c.args.sniffer.now.tck c.args.sign s is.tck (sym c.falls_at.ensures ∙ c.if-falls_at.true)) (c.put_fall.ensures.front answers s is)

pub returns-else-falls_at-clause-put : goal.returns-else-falls_at-clause-put
returns-else-falls_at-clause-put g c = λ answers s is.
    rw (others_hide c.args.sniffer.now.tck c.args.sign s is.tck (sym c.falls_at.ensures ∙ c.if-falls_at.false), text-none)
    (grown_none (g.K.Sink.contents c.args.out.now))
