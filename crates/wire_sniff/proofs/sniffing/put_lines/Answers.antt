use Rattle.std.proofs.Common.{◌≡◌, ◌∷◌, ◌+◌, subst, ◌∙◌, refl, arith, [], drop, drop-cons, add-one, get_or}
use Rattle.wire_sniff.proofs.Follows.{Follows, drop_past, follows_all, follows_failed, follows_more, follows_none}
use Rattle.wire_sniff.proofs.PutLemmas.{err_anyway}
use Rattle.wire_sniff.proofs.sniffing.put_lines.Goals as goal

pub loop-byte-init : goal.loop-byte-init
loop-byte-init g c = (
  follows_none c.args.answers.now c.args.signs.now c.new-sniffer.result (g.K.Sink.contents c.args.out.now) (c.new-sniffer.ensures.state c.args.answers.now),
  omega arith,
  refl,
)

pub returns-in_err-follow-clause-front : goal.returns-in_err-follow-clause-front
returns-in_err-follow-clause-front g c =
    let here : drop c.loop-byte.byte-index c.args.signs.now ≡ get_or c.args.signs.now c.loop-byte.byte-index 0 ∷ drop (c.loop-byte.byte-index + 1)
    c.args.signs.now =
    rw add-one (drop-cons c.args.signs.now c.loop-byte.byte-index 0 (omega arith)) in
    let so_far = subst (λ rest. Follows c.args.answers.now c.args.signs.now rest c.loop-byte.sniffer (g.K.Sink.contents c.args.out.now)
    (g.K.Sink.contents c.loop-byte.out)) here c.loop-byte.invariant.0 in
    err_anyway c.from_residual.result _
    (follows_failed c.args.answers.now c.args.signs.now _ (get_or c.args.signs.now c.loop-byte.byte-index 0) c.loop-byte.sniffer
    (g.K.Sink.contents c.args.out.now) (g.K.Sink.contents c.loop-byte.out) (g.K.Sink.contents c.follow.new.out)
    so_far c.in_err-follow.ensures.front)

pub loop-byte-preserved : goal.loop-byte-preserved
loop-byte-preserved g c =
    let here : drop c.loop-byte.byte-index c.args.signs.now ≡ get_or c.args.signs.now c.loop-byte.byte-index 0 ∷ drop (c.loop-byte.byte-index + 1)
    c.args.signs.now =
    rw add-one (drop-cons c.args.signs.now c.loop-byte.byte-index 0 (omega arith)) in
    let so_far = subst (λ rest. Follows c.args.answers.now c.args.signs.now rest c.loop-byte.sniffer (g.K.Sink.contents c.args.out.now)
    (g.K.Sink.contents c.loop-byte.out)) here c.loop-byte.invariant.0 in (
      follows_more c.args.answers.now c.args.signs.now _ (get_or c.args.signs.now c.loop-byte.byte-index 0) c.loop-byte.sniffer c.follow.new.sniffer
          (g.K.Sink.contents c.args.out.now) (g.K.Sink.contents c.loop-byte.out) (g.K.Sink.contents c.follow.new.out)
          so_far c.in_ok-follow.ensures.state c.in_ok-follow.ensures.put,
      omega (arith, c.in_ok-follow.ensures.bits, c.loop-byte.invariant.1),
      c.in_ok-follow.ensures.count ∙ c.loop-byte.invariant.2,
    )

pub returns-clause-put : goal.returns-clause-put
returns-clause-put g c =
    let none : drop c.loop-byte.byte-index c.args.signs.now ≡ [] = drop_past c.loop-byte.byte-index c.args.signs.now c.loop-byte-test.false in
    follows_all c.args.answers.now c.args.signs.now c.loop-byte.sniffer (g.K.Sink.contents c.args.out.now) (g.K.Sink.contents c.loop-byte.out)
    (subst (λ rest. Follows c.args.answers.now c.args.signs.now rest c.loop-byte.sniffer (g.K.Sink.contents c.args.out.now)
    (g.K.Sink.contents c.loop-byte.out)) none c.loop-byte.invariant.0)
