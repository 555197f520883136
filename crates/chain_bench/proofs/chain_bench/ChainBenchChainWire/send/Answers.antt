use Rattle.std.proofs.Common.{ap, sym}
use Rattle.debug_model.specs.Ties.{lent_by}
use Rattle.chain_bench.specs.Benched.{chain_on}
use Rattle.chain_bench.proofs.Tells.{kept_ties, limit_told, sent_far, sent_front, stays_live}
use Rattle.chain_bench.proofs.chain_bench.ChainBenchChainWire.send.Goals as goal

pub returns-clause-sent : goal.returns-clause-sent
returns-clause-sent g c =
    sent_far (chain_on c.args.self.now.bench.now c.args.self.now.sides) (chain_on c.take_all.new.bench c.take_all.new.sides) c.args.self.now.unread.items
    c.take_all.new.unread.items c.args.bytes.now c.take_all.ensures.chain c.take_all.ensures.answers

pub returns-clause-live : goal.returns-clause-live
returns-clause-live g c = λ signs.
    stays_live c.args.self.now.bench.now c.take_all.new.bench c.args.self.now.sides c.take_all.new.sides c.args.self.now.unread.items
    c.take_all.new.unread.items c.args.bytes.now c.take_all.ensures.chain c.requires.open signs (sym c.if-at_limit.ensures)

pub returns-clause-ties : goal.returns-clause-ties
returns-clause-ties g c =
    ap (lent_by c.args.self.now.bench.ghost_name)
    (kept_ties c.args.self.now.bench.now c.take_all.new.bench c.args.self.now.sides c.take_all.new.sides c.args.self.now.unread.items
    c.take_all.new.unread.items c.take_all.ensures.timing)

pub returns-then-at_limit-clause-prefix : goal.returns-then-at_limit-clause-prefix
returns-then-at_limit-clause-prefix g c =
    sent_front (chain_on c.args.self.now.bench.now c.args.self.now.sides) (chain_on c.take_all.new.bench c.take_all.new.sides) c.args.self.now.unread.items
    c.take_all.new.unread.items c.args.bytes.now c.take_all.ensures.chain c.take_all.ensures.answers

pub returns-then-at_limit-clause-cause : goal.returns-then-at_limit-clause-cause
returns-then-at_limit-clause-cause g c = limit_told c.take_all.new.bench c.take_all.new.sides c.take_all.new.unread.items (sym c.if-at_limit.ensures)

pub returns-then-at_limit-clause-ties : goal.returns-then-at_limit-clause-ties
returns-then-at_limit-clause-ties g c =
    ap (lent_by c.args.self.now.bench.ghost_name)
    (kept_ties c.args.self.now.bench.now c.take_all.new.bench c.args.self.now.sides c.take_all.new.sides c.args.self.now.unread.items
    c.take_all.new.unread.items c.take_all.ensures.timing)
