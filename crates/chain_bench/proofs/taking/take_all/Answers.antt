use Rattle.std.proofs.Common.{◌∙◌, ◌<◌, ◌++◌, None, Some, get_or, length, arith}
use Rattle.std.proofs.lemmas.List.{get_or_default}
use Rattle.chain_bench.specs.Benched.{chain_on, feed_in, said_in}
use Rattle.chain_bench.specs.ChainFed.{fed_in}
use Rattle.chain_bench.proofs.Courses.{answers_end, answers_more, answers_stop, course_end, course_more, course_stop, ended_on, ends_end, ends_more, ends_stop}
use Rattle.chain_bench.proofs.taking.take_all.Goals as goal

pub returns-clause-chain : goal.returns-clause-chain
returns-clause-chain g c =
    course_end (chain_on c.loop-place.bench c.loop-place.sides) _ c.args.bytes.now c.loop-place.place (omega arith) c.loop-place.invariant.chain

pub returns-clause-answers : goal.returns-clause-answers
returns-clause-answers g c =
    answers_end (chain_on c.loop-place.bench c.loop-place.sides) c.loop-place.unread.items _ c.args.bytes.now c.loop-place.place (omega arith)
    c.loop-place.invariant.answers

pub returns-clause-fed : goal.returns-clause-fed
returns-clause-fed g c =
    ends_end (chain_on c.loop-place.bench c.loop-place.sides) _ c.args.bytes.now c.loop-place.place (omega arith) c.loop-place.invariant.fed

pub loop-place-preserved : goal.loop-place-preserved
loop-place-preserved g c =
    let b = get_or c.args.bytes.now c.loop-place.place 0 in
    let here : c.loop-place.place < length c.args.bytes.now = omega arith in
    record {
      chain = course_more (chain_on c.loop-place.bench c.loop-place.sides) (chain_on c.take.new.bench c.take.new.sides)
          (feed_in (chain_on c.args.bench.now c.args.sides.now) c.args.bytes.now) c.args.bytes.now c.loop-place.place b here
          (get_or_default c.args.bytes.now c.loop-place.place 0 b here) c.take.ensures.chain c.loop-place.invariant.chain;
      answers = answers_more (chain_on c.loop-place.bench c.loop-place.sides) (chain_on c.take.new.bench c.take.new.sides) c.loop-place.unread.items
          c.take.new.unread.items (c.args.unread.now.items ++ said_in (chain_on c.args.bench.now c.args.sides.now) c.args.bytes.now) c.args.bytes.now
          c.loop-place.place b here (get_or_default c.args.bytes.now c.loop-place.place 0 b here) c.take.ensures.chain c.take.ensures.answers
          c.loop-place.invariant.answers;
      fed = ends_more (chain_on c.loop-place.bench c.loop-place.sides) (chain_on c.take.new.bench c.take.new.sides)
          (fed_in (chain_on c.args.bench.now c.args.sides.now) c.args.bytes.now) c.args.bytes.now c.loop-place.place b here
          (get_or_default c.args.bytes.now c.loop-place.place 0 b here) c.take.ensures.chain
          (ended_on c.take.new.bench c.take.new.sides None c.in_default.ensures.ended) c.loop-place.invariant.fed;
      clock = c.take.ensures.clock;
      timing = c.take.ensures.timing ∙ c.loop-place.invariant.timing;
      loaded = c.take.ensures.loaded;
      room = omega (arith, c.take.ensures.room, c.loop-place.invariant.room);
    }

pub returns-in-Some-clause-chain : goal.returns-in-Some-clause-chain
returns-in-Some-clause-chain g c =
    let b = get_or c.args.bytes.now c.loop-place.place 0 in
    let here : c.loop-place.place < length c.args.bytes.now = omega arith in
    course_stop (chain_on c.loop-place.bench c.loop-place.sides) (chain_on c.take.new.bench c.take.new.sides)
    (feed_in (chain_on c.args.bench.now c.args.sides.now) c.args.bytes.now) c.args.bytes.now c.loop-place.place b c.in-Some.end here
    (get_or_default c.args.bytes.now c.loop-place.place 0 b here) c.take.ensures.chain
    (ended_on c.take.new.bench c.take.new.sides (Some c.in-Some.end) c.in-Some.ensures.ended) c.loop-place.invariant.chain

pub returns-in-Some-clause-answers : goal.returns-in-Some-clause-answers
returns-in-Some-clause-answers g c =
    let b = get_or c.args.bytes.now c.loop-place.place 0 in
    let here : c.loop-place.place < length c.args.bytes.now = omega arith in
    answers_stop (chain_on c.loop-place.bench c.loop-place.sides) (chain_on c.take.new.bench c.take.new.sides) c.loop-place.unread.items
    c.take.new.unread.items (c.args.unread.now.items ++ said_in (chain_on c.args.bench.now c.args.sides.now) c.args.bytes.now) c.args.bytes.now
    c.loop-place.place b c.in-Some.end here (get_or_default c.args.bytes.now c.loop-place.place 0 b here) c.take.ensures.chain c.take.ensures.answers
    (ended_on c.take.new.bench c.take.new.sides (Some c.in-Some.end) c.in-Some.ensures.ended)
    c.loop-place.invariant.answers

pub returns-in-Some-clause-fed : goal.returns-in-Some-clause-fed
returns-in-Some-clause-fed g c =
    let b = get_or c.args.bytes.now c.loop-place.place 0 in
    let here : c.loop-place.place < length c.args.bytes.now = omega arith in
    ends_stop (chain_on c.loop-place.bench c.loop-place.sides) (chain_on c.take.new.bench c.take.new.sides) c.fed_at.result
    (fed_in (chain_on c.args.bench.now c.args.sides.now) c.args.bytes.now) c.args.bytes.now
    c.loop-place.place b c.in-Some.end here (get_or_default c.args.bytes.now c.loop-place.place 0 b here) c.take.ensures.chain
    (ended_on c.take.new.bench c.take.new.sides (Some c.in-Some.end) c.in-Some.ensures.ended) c.fed_at.ensures c.loop-place.invariant.fed
