use Rattle.std.proofs.Common.{◌≡◌, ◌∙◌, ap, arith, length, length-append}
use Rattle.generator.specs.Commands.{session}
use Rattle.generator.proofs.Sessions.{one_more_block}
use Rattle.generator.proofs.session.script.Goals as goal

pub loop-number-preserved : goal.loop-number-preserved
loop-number-preserved c = record {
  made = one_more_block c.args.words.now c.loop-number.number c.loop-number.script c.append.new.script c.block.result
      c.loop-number.invariant.made c.in_ok-append.ensures c.block.ensures.value;
  count = omega (
    arith,
    ap length c.in_ok-append.ensures,
    length-append c.loop-number.script c.block.result,
    ap length c.block.ensures.value,
    c.loop-number.invariant.count,
  );
}

pub returns : goal.returns
returns c =
    let all : c.loop-number.number ≡ 100 = omega (arith, c.loop-number.auto.number-end, c.loop-number-test.false) in
    c.loop-number.invariant.made ∙ ap (λ n. session n c.args.words.now) all
