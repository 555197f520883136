use Rattle.std.proofs.Common.{◌≡◌, ◌∙◌, ◌+◌, ◌∷◌, ◌++◌, [], ap, arith, drop, drop-cons, add-one, get_or}
use Rattle.wire_sniff.proofs.Follows.{drop_past}
use Rattle.sniff_tests.proofs.Answering.{answered_all, answered_more}
use Rattle.sniff_tests.proofs.chips.answers_of.Goals as goal

pub loop-byte-preserved : goal.loop-byte-preserved
loop-byte-preserved c =
    let byte = get_or c.args.bytes.now c.loop-byte.byte-index 0 in
    let rest = drop (c.loop-byte.byte-index + 1) c.args.bytes.now in
    let here : drop c.loop-byte.byte-index c.args.bytes.now ≡ byte ∷ rest = rw add-one (drop-cons c.args.bytes.now c.loop-byte.byte-index 0 (omega arith)) in (
      c.feed.ensures.loaded,
      answered_more c.loop-byte.bench _ c.loop-byte.all.items _ byte _ rest _ c.feed.ensures.chip
          (c.in_ok-extend_from_slice.ensures.items
          ∙ ap (λ more. c.loop-byte.all.items ++ more) (c.deref.ensures.0 ∙ rw c.new-answers.ensures at c.feed.ensures.answers)) here
          c.loop-byte.invariant.1,
    )

pub returns : goal.returns
returns c = answered_all c.loop-byte.bench _ _ _ (drop_past c.loop-byte.byte-index c.args.bytes.now c.loop-byte-test.false) c.loop-byte.invariant.1
