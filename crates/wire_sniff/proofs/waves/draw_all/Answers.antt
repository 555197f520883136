use Rattle.std.proofs.Common.{◌≡◌, ◌∷◌, ◌+◌, subst, ◌∙◌, ap, arith, [], drop, drop-cons, add-one, get_or}
use Rattle.wire_sniff.proofs.Drawn.{Drawn, drawn_all, drawn_failed, drawn_more, drawn_none}
use Rattle.wire_sniff.proofs.Follows.{drop_past}
use Rattle.wire_sniff.proofs.PutLemmas.{err_anyway, first_failed}
use Rattle.wire_sniff.specs.Waves.{first_moment, levels, waves_from}
use Rattle.jt_base.specs.Sink.{GrewByPrefix, grown}
use Rattle.wire_sniff.proofs.waves.draw_all.Goals as goal

pub returns-in_err-put-clause-front : goal.returns-in_err-put-clause-front
returns-in_err-put-clause-front g c =
    let first = c.deref.ensures.0 ∙ c.levels.ensures c.args.answers.now (first_moment c.args.answers.now) (c.new-moment.ensures.state c.args.answers.now) in
    err_anyway c.from_residual.result _
    (first_failed (levels (first_moment c.args.answers.now)) (waves_from 1 (first_moment c.args.answers.now) c.args.signs.now)
    (g.K.Sink.contents c.args.out.now) (g.K.Sink.contents c.put.new.self)
    (subst (λ text. GrewByPrefix text (g.K.Sink.contents c.args.out.now) (g.K.Sink.contents c.put.new.self)) first c.in_err-put.ensures.front))

pub loop-place-init : goal.loop-place-init
loop-place-init g c =
    let first = c.deref.ensures.0 ∙ c.levels.ensures c.args.answers.now (first_moment c.args.answers.now) (c.new-moment.ensures.state c.args.answers.now) in (
      drawn_none c.args.answers.now c.args.signs.now c.new-moment.result (g.K.Sink.contents c.args.out.now) (g.K.Sink.contents c.put.new.self)
          (c.new-moment.ensures.state c.args.answers.now)
          (c.in_ok-put.ensures.put ∙ ap (λ text. grown text (g.K.Sink.contents c.args.out.now)) first),
      omega arith,
      c.in_ok-put.ensures.count,
    )

pub returns-in_err-draw-clause-front : goal.returns-in_err-draw-clause-front
returns-in_err-draw-clause-front g c =
    let here : drop c.loop-place.place c.args.signs.now ≡ get_or c.args.signs.now c.loop-place.place 0 ∷ drop (c.loop-place.place + 1) c.args.signs.now =
    rw add-one (drop-cons c.args.signs.now c.loop-place.place 0 (omega arith)) in
    let so_far = subst (λ rest. Drawn c.args.answers.now c.args.signs.now c.loop-place.place rest c.loop-place.moment (g.K.Sink.contents c.args.out.now)
    (g.K.Sink.contents c.loop-place.out)) here c.loop-place.invariant.0 in
    err_anyway c.from_residual-in_err-draw.result _
    (drawn_failed c.args.answers.now c.args.signs.now _ c.loop-place.place (get_or c.args.signs.now c.loop-place.place 0) c.loop-place.moment
    (g.K.Sink.contents c.args.out.now) (g.K.Sink.contents c.loop-place.out) (g.K.Sink.contents c.draw.new.out)
    so_far c.in_err-draw.ensures.front)

pub loop-place-preserved : goal.loop-place-preserved
loop-place-preserved g c =
    let here : drop c.loop-place.place c.args.signs.now ≡ get_or c.args.signs.now c.loop-place.place 0 ∷ drop (c.loop-place.place + 1) c.args.signs.now =
    rw add-one (drop-cons c.args.signs.now c.loop-place.place 0 (omega arith)) in
    let so_far = subst (λ rest. Drawn c.args.answers.now c.args.signs.now c.loop-place.place rest c.loop-place.moment (g.K.Sink.contents c.args.out.now)
    (g.K.Sink.contents c.loop-place.out)) here c.loop-place.invariant.0 in (
      drawn_more c.args.answers.now c.args.signs.now _ c.loop-place.place (get_or c.args.signs.now c.loop-place.place 0) c.loop-place.moment c.draw.new.moment
          (g.K.Sink.contents c.args.out.now) (g.K.Sink.contents c.loop-place.out) (g.K.Sink.contents c.draw.new.out)
          so_far c.in_ok-draw.ensures.state c.in_ok-draw.ensures.put,
      omega (arith, c.in_ok-draw.ensures.bits, c.loop-place.invariant.1),
      c.in_ok-draw.ensures.count ∙ c.loop-place.invariant.2,
    )

pub returns-clause-put : goal.returns-clause-put
returns-clause-put g c =
    let none : drop c.loop-place.place c.args.signs.now ≡ [] = drop_past c.loop-place.place c.args.signs.now c.loop-place-test.false in
    drawn_all c.args.answers.now c.args.signs.now c.loop-place.place c.loop-place.moment (g.K.Sink.contents c.args.out.now) (g.K.Sink.contents c.loop-place.out)
    (subst (λ rest. Drawn c.args.answers.now c.args.signs.now c.loop-place.place rest c.loop-place.moment (g.K.Sink.contents c.args.out.now)
    (g.K.Sink.contents c.loop-place.out)) none c.loop-place.invariant.0)
