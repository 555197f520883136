use Rattle.std.proofs.Common.{rules}
use Rattle.debug_model.specs.Net.{PutFront}
use Rattle.debug_model.specs.declared.net.End.TheVariants as ends
use Rattle.bench_links.proofs.Exchanges.{some_answered}
use Rattle.bench_links.proofs.crossing.exchange.Goals as goal

pub returns-then-is_err-clause-crossed_front : goal.returns-then-is_err-clause-crossed_front
returns-then-is_err-clause-crossed_front g c =
    let put : PutFront ends.Far c.feed.new.answers.items (g.N.Net.state c.cross.new.net) (g.N.Net.state c.put.new.self) = search rules in
    some_answered c.args.bytes.now _ _ _ _ c.in_ok-cross.ensures.crossed put
