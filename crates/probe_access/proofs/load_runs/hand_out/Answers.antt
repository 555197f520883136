use Rattle.std.proofs.Common.{◌≡◌, ◌∙◌, ◌≤◌, ◌+◌, ◌-◌, ◌*◌, length, subst, sym, arith}
use Rattle.probe_access.specs.ReadRuns.{is_wide, own_words}
use Rattle.probe_access.proofs.AskedCalls.{left_within}
use Rattle.probe_access.proofs.ReadCalls.{handed_one}
use Rattle.probe_access.proofs.load_runs.hand_out.Goals as goal

pub elements-preserved : goal.elements-preserved
elements-preserved c =
    let more = left_within (c.args.taken - c.elements._element) (c.args.looks + own_words (is_wide c.args.size)) (omega (arith, c.elements-test.true)) in
    let less : c.args.taken - (c.elements._element + 1) ≡ c.args.taken - c.elements._element - 1 = omega (arith, c.elements-test.true) in
    let own = c.from-own.ensures ∙ c.own_words.ensures.words in
    record {
      what = handed_one (is_wide c.args.size) c.args.looks c.from.result c.from-own.result c.args.taken c.elements._element c.elements.at
          c.element_of.result c.args.words.now c.args.into.now.items
          c.elements.into.items c.push.new.self.items c.elements-test.true c.from.ensures own c.push.ensures.items c.element_of.ensures
          c.elements.invariant.what;
      count = omega (arith, c.push.ensures.len, c.elements.invariant.count);
      enough = subst (λ n. c.elements.at + c.from.result + c.from-own.result + n * (c.args.looks + own_words
          (is_wide c.args.size)) ≤ length c.args.words.now) (sym less)
          (omega (arith, c.elements.invariant.enough, more, c.from.ensures, own));
    }
