use Rattle.std.proofs.Common.{◌≡◌, ◌+◌, ◌∙◌, ap, add_assoc, arith}
use Rattle.std.proofs.lemmas.Grind.{common_steps}
use Rattle.chip_server.proofs.ServedPieces.{serving_given, serving_none, serving_open, serving_plain}
use Rattle.chip_server.proofs.Serves.{served_on, serving_on}
use Rattle.chip_server.proofs.serving.serve.Goals as goal

pub pieces-init : goal.pieces-init
pieces-init g c = (
  serving_none g.F.Feed.feeding g.met.F.Feed.takes_pieces _ _ c.requires.plain,
  c.requires.plain,
  c.requires.opened,
  c.requires.loaded,
  grind (arith, common_steps),
  grind (arith, common_steps),
  grind (arith, common_steps),
  grind (arith, common_steps),
  grind (arith, common_steps),
  grind (arith, common_steps),
)

pub pieces-preserved : goal.pieces-preserved
pieces-preserved g c =
    let given : (g.N.Net.state c.serve_piece.new.net).near_given ≡ (g.N.Net.state c.args.net.now).near_given + (c.pieces.taken + c.in-Ok.count) =
    serving_given g.F.Feed.feeding g.met.F.Feed.takes_pieces _ _ _ _ _ c.in-Ok.ensures.serving ∙ ap (λ n. n + c.in-Ok.count) c.pieces.invariant.4
    ∙ add_assoc (g.N.Net.state c.args.net.now).near_given c.pieces.taken c.in-Ok.count in (
      serving_on g.F.Feed.feeding g.met.F.Feed.takes_pieces _ _ _ _ _ _ _ _ c.requires.plain c.pieces.invariant.0 c.in-Ok.ensures.serving,
      serving_plain g.F.Feed.feeding g.met.F.Feed.takes_pieces _ _ _ _ _ c.in-Ok.ensures.serving c.pieces.invariant.1,
      serving_open g.F.Feed.feeding g.met.F.Feed.takes_pieces _ _ _ _ _ c.in-Ok.ensures.serving c.pieces.invariant.2,
      c.serve_piece.ensures.loaded,
      given,
      omega (arith, given, c.in-Ok.ensures.bound),
      grind (arith, common_steps),
      grind (arith, common_steps),
      grind (arith, common_steps),
      grind (arith, common_steps),
    )

pub returns-in-Err-clause-served : goal.returns-in-Err-clause-served
returns-in-Err-clause-served g c =
    rw c.behind.ensures (served_on g.F.Feed.feeding g.met.F.Feed.takes_pieces c.pieces.taken c.in-Err.served _ _ _ _ _ _ c.requires.plain c.pieces.invariant.0
    c.in-Err.ensures.served)
