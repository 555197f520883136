use Rattle.wire_sniff.proofs.PutLemmas.{shows_nothing}
use Rattle.wire_sniff.proofs.sniffing.follow.Goals as goal

pub returns-in-Err-clause-put : goal.returns-in-Err-clause-put
returns-in-Err-clause-put g c = λ s is. shows_nothing c.args.byte s (g.K.Sink.contents c.args.out.now) c.in-Err.ensures.bad.1
