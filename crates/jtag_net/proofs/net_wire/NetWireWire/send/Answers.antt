use Rattle.std.proofs.Common.{ap, ◌∙◌}
use Rattle.jtag_net.specs.Wired.{wired_ties}
use Rattle.jtag_net.proofs.Timed.{front_ties, put_ties}
use Rattle.jtag_net.proofs.net_wire.NetWireWire.send.Goals as goal

pub returns-in-Ok-clause-ties : goal.returns-in-Ok-clause-ties
returns-in-Ok-clause-ties g c =
    ap (λ l. wired_ties c.args.self.now.net.ghost_name l (g.N.Net.state c.put.new.self)) c.put.ensures.lenders
    ∙ put_ties c.args.self.now.net.ghost_name (g.N.Net.lenders c.args.self.now.net.now) c.args.bytes.now (g.N.Net.state c.args.self.now.net.now)
    (g.N.Net.state c.put.new.self) c.in-Ok.ensures.put

pub returns-in-Err-clause-ties : goal.returns-in-Err-clause-ties
returns-in-Err-clause-ties g c =
    ap (λ l. wired_ties c.args.self.now.net.ghost_name l (g.N.Net.state c.put.new.self)) c.put.ensures.lenders
    ∙ front_ties c.args.self.now.net.ghost_name (g.N.Net.lenders c.args.self.now.net.now) c.args.bytes.now (g.N.Net.state c.args.self.now.net.now)
    (g.N.Net.state c.put.new.self) c.in-Err.ensures.front
