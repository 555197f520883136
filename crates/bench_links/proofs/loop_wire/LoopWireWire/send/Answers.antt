use Rattle.bench_links.proofs.Loops.{front_ties}
use Rattle.bench_links.proofs.loop_wire.LoopWireWire.send.Goals as goal

pub returns-in-Ok-clause-ties : goal.returns-in-Ok-clause-ties
returns-in-Ok-clause-ties g c =
    let old = c.args.self.now in
    front_ties old.net.ghost_name old.bench.ghost_name (g.N.Net.lenders old.net.now) (g.N.Net.lenders c.exchange.new.net) (g.N.Net.state old.net.now)
    (g.N.Net.state c.exchange.new.net)
    old.bench.now c.exchange.new.bench c.args.bytes.now old.unread.items c.exchange.new.answers.items old.began.faults old.began.ends c.exchange.ensures.lenders
    c.exchange.ensures.ties c.exchange.ensures.front

pub returns-in-Err-Failed-clause-ties : goal.returns-in-Err-Failed-clause-ties
returns-in-Err-Failed-clause-ties g c =
    let old = c.args.self.now in
    front_ties old.net.ghost_name old.bench.ghost_name (g.N.Net.lenders old.net.now) (g.N.Net.lenders c.exchange.new.net) (g.N.Net.state old.net.now)
    (g.N.Net.state c.exchange.new.net)
    old.bench.now c.exchange.new.bench c.args.bytes.now old.unread.items c.exchange.new.answers.items old.began.faults old.began.ends c.exchange.ensures.lenders
    c.exchange.ensures.ties c.exchange.ensures.front

pub returns-in-Err-Differs-clause-ties : goal.returns-in-Err-Differs-clause-ties
returns-in-Err-Differs-clause-ties g c =
    let old = c.args.self.now in
    front_ties old.net.ghost_name old.bench.ghost_name (g.N.Net.lenders old.net.now) (g.N.Net.lenders c.exchange.new.net) (g.N.Net.state old.net.now)
    (g.N.Net.state c.exchange.new.net)
    old.bench.now c.exchange.new.bench c.args.bytes.now old.unread.items c.exchange.new.answers.items old.began.faults old.began.ends c.exchange.ensures.lenders
    c.exchange.ensures.ties c.exchange.ensures.front

pub returns-else-not-self-clause-ties : goal.returns-else-not-self-clause-ties
returns-else-not-self-clause-ties g c =
    let old = c.args.self.now in
    front_ties old.net.ghost_name old.bench.ghost_name (g.N.Net.lenders old.net.now) (g.N.Net.lenders c.exchange.new.net) (g.N.Net.state old.net.now)
    (g.N.Net.state c.exchange.new.net)
    old.bench.now c.exchange.new.bench c.args.bytes.now old.unread.items c.exchange.new.answers.items old.began.faults old.began.ends c.exchange.ensures.lenders
    c.exchange.ensures.ties c.exchange.ensures.front

pub returns-else-not-self-2-clause-ties : goal.returns-else-not-self-2-clause-ties
returns-else-not-self-2-clause-ties g c =
    let old = c.args.self.now in
    front_ties old.net.ghost_name old.bench.ghost_name (g.N.Net.lenders old.net.now) (g.N.Net.lenders c.exchange.new.net) (g.N.Net.state old.net.now)
    (g.N.Net.state c.exchange.new.net)
    old.bench.now c.exchange.new.bench c.args.bytes.now old.unread.items c.exchange.new.answers.items old.began.faults old.began.ends c.exchange.ensures.lenders
    c.exchange.ensures.ties c.exchange.ensures.front
