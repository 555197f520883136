use Rattle.std.proofs.Common.{◌≡◌, ◌∙◌, ◌+◌, ◌∷◌, [], ap, sym, arith, drop, drop-cons, add-one, get_or}
use Rattle.chip_core.specs.Feeds.{feed_of}
use Rattle.wire_sniff.proofs.Follows.{drop_past}
use Rattle.chip_sniff.proofs.Benches.{feed_of-cons, feed_of-nil}
use Rattle.chip_sniff.proofs.chip_sniffing.feed_whole.Goals as goal

pub loop-byte-preserved : goal.loop-byte-preserved
loop-byte-preserved g c =
    let byte = get_or c.args.bytes.now c.loop-byte.byte-index 0 in
    let rest = drop (c.loop-byte.byte-index + 1) c.args.bytes.now in
    let here : drop c.loop-byte.byte-index c.args.bytes.now ≡ byte ∷ rest = rw add-one (drop-cons c.args.bytes.now c.loop-byte.byte-index 0 (omega arith)) in (
      c.feed.ensures.loaded,
      ap (λ bench. feed_of bench rest) c.feed.ensures.chip ∙ feed_of-cons c.loop-byte.bench byte rest ∙ ap (feed_of c.loop-byte.bench) (sym here)
          ∙ c.loop-byte.invariant.1,
    )

pub returns : goal.returns
returns g c =
    let none : drop c.loop-byte.byte-index c.args.bytes.now ≡ [] = drop_past c.loop-byte.byte-index c.args.bytes.now c.loop-byte-test.false in
    sym (feed_of-nil c.loop-byte.bench) ∙ ap (feed_of c.loop-byte.bench) (sym none) ∙ c.loop-byte.invariant.1
