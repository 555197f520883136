use Rattle.std.proofs.Common.{ap, sym, ◌∙◌, arith}
use Rattle.debug_model.specs.Chip.{feed}
use Rattle.chip_core.proofs.Firsts.{fed_met, fed_next, fed_none, feed_first, feed_met, feed_none, said_met, said_next, said_none, tail, tail_length}
use Rattle.chip_core.proofs.chip.Chip.feed_live.Goals as goal

pub bytes-preserved : goal.bytes-preserved
bytes-preserved g c =
    let old = c.bytes.self in
    let new = c.take.new.self in
    let rest = c.bytes.rest.now in
    let some = c.in-len1-up.len_at_least in
    let live = sym c.ending.ensures ∙ c.in_default-ending.is in
    record {
      chip = ap (λ m. feed m (tail rest)) c.take.ensures.chip ∙ feed_first old rest some ∙ c.bytes.invariant.chip;
      answers = said_next old new rest c.bytes.answers.items c.take.new.answers.items _ some c.take.ensures.chip c.take.ensures.answers
          c.bytes.invariant.answers;
      fed = fed_next old new c.bytes.place rest some c.take.ensures.chip live ∙ c.bytes.invariant.fed;
      live = live;
      place = omega (arith, c.bytes.invariant.place, tail_length rest some);
      room = omega (arith, c.take.ensures.room, c.bytes.invariant.room, tail_length rest some);
    }

pub returns-in-Some-clause-chip : goal.returns-in-Some-clause-chip
returns-in-Some-clause-chip g c =
    feed_met c.bytes.self c.take.new.self c.in-Some.end c.bytes.rest.now c.in-len1-up.len_at_least c.take.ensures.chip (sym c.ending.ensures ∙ c.in-Some.is)
    ∙ c.bytes.invariant.chip

pub returns-in-Some-clause-answers : goal.returns-in-Some-clause-answers
returns-in-Some-clause-answers g c =
    said_met c.bytes.self c.take.new.self c.in-Some.end c.bytes.rest.now c.bytes.answers.items c.take.new.answers.items _
    c.in-len1-up.len_at_least c.take.ensures.chip (sym c.ending.ensures ∙ c.in-Some.is) c.take.ensures.answers c.bytes.invariant.answers

pub returns-in-Some-clause-fed : goal.returns-in-Some-clause-fed
returns-in-Some-clause-fed g c =
    c.fed_at.ensures ∙ fed_met c.bytes.self c.take.new.self c.in-Some.end c.bytes.place c.bytes.rest.now c.in-len1-up.len_at_least c.take.ensures.chip
    (sym c.ending.ensures ∙ c.in-Some.is)
    ∙ c.bytes.invariant.fed

pub returns-clause-chip : goal.returns-clause-chip
returns-clause-chip g c = sym (feed_none c.bytes.self c.bytes.rest.now c.in_default.len_below) ∙ c.bytes.invariant.chip

pub returns-clause-answers : goal.returns-clause-answers
returns-clause-answers g c = sym (said_none c.bytes.self c.bytes.rest.now c.bytes.answers.items c.in_default.len_below) ∙ c.bytes.invariant.answers

pub returns-clause-fed : goal.returns-clause-fed
returns-clause-fed g c = sym (fed_none c.bytes.place c.bytes.self c.bytes.rest.now c.in_default.len_below) ∙ c.bytes.invariant.fed
