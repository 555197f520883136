use Rattle.std.proofs.Common.{refl}
use Rattle.wire_sniff.proofs.moment.Moment.new.Goals as goal

pub returns-clause-state : goal.returns-clause-state
returns-clause-state c = λ answers. record { tms = refl; tdi = refl; sniffer = c.new.ensures.state answers }
