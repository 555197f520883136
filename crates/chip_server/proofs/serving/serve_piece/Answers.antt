use Rattle.std.proofs.Common.{refl, arith}
use Rattle.std.proofs.lemmas.Grind.{common_steps}
use Rattle.chip_server.proofs.ServedPieces.{bad_in_piece, peer_ended, piece_bad, piece_by, piece_limit, piece_quit, put_failed, take_failed}
use Rattle.chip_server.proofs.serving.serve_piece.Goals as goal

pub returns-in-Ok-eq0-clause-served : goal.returns-in-Ok-eq0-clause-served
returns-in-Ok-eq0-clause-served g c = peer_ended g.F.Feed.feeding g.met.F.Feed.takes_pieces c.in-Ok-eq0.field-0 _ _ _ _ _ (grind (
  arith,
  common_steps,
)) c.requires.plain c.in-Ok-eq0.ensures.gave
    c.in-Ok-eq0.ensures.took refl

pub returns-in-Err-clause-served : goal.returns-in-Err-clause-served
returns-in-Err-clause-served g c = take_failed g.F.Feed.feeding g.met.F.Feed.takes_pieces _ _ _ _ c.requires.plain c.in-Err.ensures.kept refl

pub returns-then-is_err-clause-served : goal.returns-then-is_err-clause-served
returns-then-is_err-clause-served g c =
    put_failed g.F.Feed.feeding g.met.F.Feed.takes_pieces _ _ _ _ _ _ _ _ _
    (piece_by g.F.Feed.feeding g.met.F.Feed.takes_pieces c.in-Ok.count c.take.new.into _ _ _ _ (g.N.Net.state c.take.new.self) (g.F.Feed.state
    c.args.taker.now) (g.F.Feed.state c.feed-fed.new.self) c.in-Ok.ensures.most
    (grind (arith, common_steps)) c.in-Ok.ensures.gave c.in-Ok.ensures.took c.feed-fed.ensures.state c.new-answers.ensures c.feed-fed.ensures.answers
    c.deref.ensures.0)
    (grind (arith, common_steps))

pub returns-in-Quit-clause-served : goal.returns-in-Quit-clause-served
returns-in-Quit-clause-served g c =
    piece_quit g.F.Feed.feeding g.met.F.Feed.takes_pieces _ _ _ _ _ _ _ _ _ c.in-Quit.field-0
    (piece_by g.F.Feed.feeding g.met.F.Feed.takes_pieces c.in-Ok.count c.take.new.into _ _ _ _ (g.N.Net.state c.take.new.self) (g.F.Feed.state
    c.args.taker.now) (g.F.Feed.state c.feed-fed.new.self) c.in-Ok.ensures.most
    (grind (arith, common_steps)) c.in-Ok.ensures.gave c.in-Ok.ensures.took c.feed-fed.ensures.state c.new-answers.ensures c.feed-fed.ensures.answers
    c.deref.ensures.0)
    (grind (arith, common_steps)) (grind (arith, common_steps))

pub returns-in-Bad-clause-served : goal.returns-in-Bad-clause-served
returns-in-Bad-clause-served g c =
    piece_bad g.F.Feed.feeding g.met.F.Feed.takes_pieces _ _ _ _ _ _ _ _ _ _ _
    (piece_by g.F.Feed.feeding g.met.F.Feed.takes_pieces c.in-Ok.count c.take.new.into _ _ _ _ (g.N.Net.state c.take.new.self) (g.F.Feed.state
    c.args.taker.now) (g.F.Feed.state c.feed-fed.new.self) c.in-Ok.ensures.most
    (grind (arith, common_steps)) c.in-Ok.ensures.gave c.in-Ok.ensures.took c.feed-fed.ensures.state c.new-answers.ensures c.feed-fed.ensures.answers
    c.deref.ensures.0)
    (grind (arith, common_steps)) (grind (arith, common_steps))

pub returns-in-Bad-clause-place : goal.returns-in-Bad-clause-place
returns-in-Bad-clause-place g c = bad_in_piece g.F.Feed.feeding g.met.F.Feed.takes_pieces (g.F.Feed.state c.args.taker.now) c.in-Ok.count
    c.take.new.into c.in-Bad.place c.in-Bad.byte c.in-Ok.ensures.most
    (grind (arith, common_steps)) (grind (arith, common_steps))

pub returns-in-EventLimit-clause-served : goal.returns-in-EventLimit-clause-served
returns-in-EventLimit-clause-served g c =
    piece_limit g.F.Feed.feeding g.met.F.Feed.takes_pieces _ _ _ _ _ _ _ _ _ c.in-EventLimit.field-0
    (piece_by g.F.Feed.feeding g.met.F.Feed.takes_pieces c.in-Ok.count c.take.new.into _ _ _ _ (g.N.Net.state c.take.new.self) (g.F.Feed.state
    c.args.taker.now) (g.F.Feed.state c.feed-fed.new.self) c.in-Ok.ensures.most
    (grind (arith, common_steps)) c.in-Ok.ensures.gave c.in-Ok.ensures.took c.feed-fed.ensures.state c.new-answers.ensures c.feed-fed.ensures.answers
    c.deref.ensures.0)
    (grind (arith, common_steps)) (grind (arith, common_steps))
