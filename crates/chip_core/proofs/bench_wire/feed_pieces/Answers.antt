use Rattle.std.proofs.Common.{ap, sym, ◌∙◌, arith}
use Rattle.std.proofs.lemmas.Grind.{common_steps}
use Rattle.chip_core.specs.Feeds.{feed_of}
use Rattle.chip_core.proofs.Feeding.{feed_of-append, piece_said, nothing_fed, nothing_said}
use Rattle.chip_core.proofs.bench_wire.feed_pieces.Goals as goal

pub pieces-preserved : goal.pieces-preserved
pieces-preserved g c =
    let old = c.pieces.bench in
    let front = c.split_at.result.0.now in
    let back = c.split_at.result.1.now in
    let whole = c.split_at.ensures.by_index.0 in
    record {
      chip = ap (λ b. feed_of b back) c.feed.ensures.chip ∙ feed_of-append old front back ∙ ap (λ xs. feed_of old xs) (sym whole) ∙ c.pieces.invariant.chip;
      answers = piece_said old c.feed.new.self front back c.pieces.rest.now c.pieces.answers.items c.feed.new.answers.items _ c.feed.ensures.chip
          c.feed.ensures.answers whole c.pieces.invariant.answers;
      loaded = c.feed.ensures.loaded;
      room = omega (arith, c.feed.ensures.room, c.split_at.ensures.front_len, c.split_at.ensures.back_len, c.pieces.invariant.room);
    }

pub returns-clause-chip : goal.returns-clause-chip
returns-clause-chip g c = sym (nothing_fed c.pieces.bench c.pieces.rest.now (grind (arith, common_steps))) ∙ c.pieces.invariant.chip

pub returns-clause-answers : goal.returns-clause-answers
returns-clause-answers g c = sym (nothing_said c.pieces.bench c.pieces.rest.now c.pieces.answers.items (grind (arith, common_steps)))
    ∙ c.pieces.invariant.answers
