use Rattle.std.proofs.Common.{◌≡◌, length, rules, arith}
use Rattle.std.proofs.lemmas.Grind.{common_steps}
use Rattle.debug_model.specs.Net.{after_put}
use Rattle.debug_model.specs.declared.net.End.TheVariants as ends
use Rattle.bench_links.proofs.Exchanges.{others_crossed, some_crossed}
use Rattle.bench_links.proofs.crossing.cross.Goals as goal

pub returns-in_err-take_whole-clause-front : goal.returns-in_err-take_whole-clause-front
returns-in_err-take_whole-clause-front g c =
    let put : g.N.Net.state c.put.new.self ≡ after_put ends.Near c.args.bytes.now (g.N.Net.state c.args.net.now) = grind (arith, common_steps) in
    let room : length c.take_whole.new.into ≡ length c.args.bytes.now = grind (arith, common_steps) in
    let front = some_crossed c.args.bytes.now c.take_whole.new.into (g.N.Net.state c.args.net.now) _ _ put c.in_err-take_whole.ensures.some room in
    search rules

pub returns-then-differ-clause-front : goal.returns-then-differ-clause-front
returns-then-differ-clause-front g c =
    let put : g.N.Net.state c.put.new.self ≡ after_put ends.Near c.args.bytes.now (g.N.Net.state c.args.net.now) = grind (arith, common_steps) in
    let room : length c.take_whole.new.into ≡ length c.args.bytes.now = grind (arith, common_steps) in
    others_crossed _ _ _ _ _ put c.in_ok-take_whole.ensures.came room
