use Rattle.std.proofs.Common.{ap, sym}
use Rattle.debug_model.specs.Ties.{lent_by}
use Rattle.chip_core.proofs.Ends.{stays_live}
use Rattle.chip_core.proofs.Timed.{fed_ties}
use Rattle.chip_core.proofs.bench_wire.BenchWireWire.send.Goals as goal

pub returns-clause-live : goal.returns-clause-live
returns-clause-live g c = λ signs.
    stays_live c.args.self.now.bench.now c.feed_pieces.new.bench c.args.self.now.unread.items c.feed_pieces.new.answers.items c.args.bytes.now
    c.feed_pieces.ensures.chip c.requires.open signs (sym c.if-at_limit.ensures)

pub returns-then-at_limit-clause-ties : goal.returns-then-at_limit-clause-ties
returns-then-at_limit-clause-ties g c =
    ap (lent_by c.args.self.now.bench.ghost_name)
    (fed_ties c.args.self.now.bench.now c.feed_pieces.new.bench c.args.bytes.now c.args.self.now.unread.items c.feed_pieces.new.answers.items
    c.feed_pieces.ensures.chip)

pub returns-clause-ties : goal.returns-clause-ties
returns-clause-ties g c =
    ap (lent_by c.args.self.now.bench.ghost_name)
    (fed_ties c.args.self.now.bench.now c.feed_pieces.new.bench c.args.bytes.now c.args.self.now.unread.items c.feed_pieces.new.answers.items
    c.feed_pieces.ensures.chip)
