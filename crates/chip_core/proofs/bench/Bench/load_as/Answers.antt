use Rattle.std.proofs.Common.{◌≡◌, arith}
use Rattle.std.proofs.lemmas.Grind.{common_steps}
use Rattle.chip_core.specs.Loads.{loaded_as}
use Rattle.chip_core.proofs.Loads.{as_loaded}
use Rattle.chip_laws.proofs.Turns.{board_offers}
use Rattle.chip_core.proofs.bench.Bench.load_as.Goals as goal

pub returns-clause-as_loaded : goal.returns-clause-as_loaded
returns-clause-as_loaded g c = λ first.
    let is : c.new.result ≡ loaded_as c.args.version c.args.image.now c.args.harts c.args.ram c.args.start (g.Q.Schedule.plan c.args.schedule) c.args.most_points =
    grind (arith, common_steps) in
    as_loaded c.args.version c.new.result c.args.image.now c.args.harts c.args.ram c.args.start (g.Q.Schedule.plan c.args.schedule) c.args.most_points
    c.if-harts-lt1.false c.if-harts-gt-MOST_HARTS.false c.in_ok-memory.ensures.right.0 c.in_ok-memory.ensures.right.1
    (λ i. (c.type_inv.image i).fits) first c.requires.limit is

pub returns-clause-turns : goal.returns-clause-turns
returns-clause-turns g c =
    let is : c.new.result ≡ loaded_as c.args.version c.args.image.now c.args.harts c.args.ram c.args.start (g.Q.Schedule.plan c.args.schedule) c.args.most_points =
    grind (arith, common_steps) in
    rw is (board_offers _ _ (g.Q.Schedule.plan c.args.schedule) _)
