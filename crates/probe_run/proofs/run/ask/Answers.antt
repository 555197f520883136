use Rattle.std.proofs.Common.{◌∙◌, ◌+◌, ◌≤◌, inl, sym, ap, arith}
use Rattle.debug_model.proofs.RiseLemmas.{within_more, within_then}
use Rattle.probe_run.specs.Told.{told}
use Rattle.probe_run.specs.Looks.{seen_in_status, test_of}
use Rattle.probe_run.specs.Outcomes.{RunBroke, asks}
use Rattle.probe_run.specs.Outcomes.RunBroke.{at_first, at_look}
use Rattle.probe_run.proofs.ActLemmas.{if_err}
use Rattle.probe_run.proofs.SoonCalls.{all_vain, looks_more, looks_within}
use Rattle.probe_run.proofs.Waiting.{looked_again, looked_broke, looked_first}
use Rattle.probe_run.proofs.run.ask.Goals as goal

pub returns-in_err-word-clause-broke : goal.returns-in_err-word-clause-broke
returns-in_err-word-clause-broke g c =
    if_err (RunBroke c.args.request (test_of c.args.wanted) c.args.hart (g.D.Dmi.seen c.args.link.now).fault_count
    (g.D.Dmi.seen c.control_and_look.new.link).fault_count (told (g.D.Dmi.seen c.args.link.now)) (g.D.Dmi.seen c.control_and_look.new.link).far)
    c.from_residual.result _ c.from_residual.ensures.1 (at_first c.in_err-word.ensures.broke)

pub looks-init : goal.looks-init
looks-init g c = record {
  stands = c.in_ok-word.ensures.keeps.behind;
  later = c.control_and_look.ensures.keeps.later;
  fixed = c.control_and_look.ensures.keeps.fixed;
  rises = c.control_and_look.ensures.rises;
  soon = λ looks some. inl some;
  looked = looked_first (test_of c.args.wanted) (asks c.args.request c.args.hart) _ _ _ c.in_ok-word.ensures.did;
}

pub returns-in_err-word-2-clause-broke : goal.returns-in_err-word-2-clause-broke
returns-in_err-word-2-clause-broke g c =
    if_err (RunBroke c.args.request (test_of c.args.wanted) c.args.hart (g.D.Dmi.seen c.args.link.now).fault_count (g.D.Dmi.seen c.look.new.link).fault_count
    (told (g.D.Dmi.seen c.args.link.now)) (g.D.Dmi.seen c.look.new.link).far)
    c.from_residual-in_err-word-2.result _ c.from_residual-in_err-word-2.ensures.1
    (at_look (looked_broke (test_of c.args.wanted) (asks c.args.request c.args.hart) _ (told (g.D.Dmi.seen c.looks.link)) c.looks._looks c.looks.word
    (g.D.Dmi.seen c.args.link.now).fault_count (g.D.Dmi.seen c.looks.link).fault_count (g.D.Dmi.seen c.look.new.link).fault_count _ _
    c.looks.invariant.looked
    (ap (λ s. test_of c.args.wanted (seen_in_status s)) (sym c.from_word.ensures) ∙ sym c.is_shown.ensures ∙ c.if-is_shown.false) (omega arith)
    c.looks.invariant.later c.look.ensures.keeps.later c.in_err-word-2.ensures.broke))

pub looks-preserved : goal.looks-preserved
looks-preserved g c = record {
  stands = c.in_ok-word-2.ensures.keeps.behind;
  later = let a = c.looks.invariant.later in let b = c.look.ensures.keeps.later in omega arith;
  fixed = c.look.ensures.keeps.fixed ∙ c.looks.invariant.fixed;
  rises = within_then (1 + c.looks._looks) 1 _ _ (g.D.Dmi.seen c.looks.link) _ c.looks.invariant.rises c.look.ensures.rises c.looks.invariant.fixed
      (omega arith);
  soon = looks_more c.args.request (test_of c.args.wanted) c.args.hart c.looks._looks c.looks.word _ (told (g.D.Dmi.seen c.looks.link))
      c.looks.invariant.soon c.looks.invariant.looked
      (ap (λ s. test_of c.args.wanted (seen_in_status s)) (sym c.from_word.ensures) ∙ sym c.is_shown.ensures ∙ c.if-is_shown.false);
  looked = looked_again (test_of c.args.wanted) (asks c.args.request c.args.hart) _ (told (g.D.Dmi.seen c.looks.link)) _ c.looks._looks c.looks.word
      c.in_ok-word-2.word c.looks.invariant.looked
      (ap (λ s. test_of c.args.wanted (seen_in_status s)) (sym c.from_word.ensures) ∙ sym c.is_shown.ensures ∙ c.if-is_shown.false)
      c.in_ok-word-2.ensures.did;
}

pub returns-in_err-word-clause-rises : goal.returns-in_err-word-clause-rises
returns-in_err-word-clause-rises g c = within_more 2 _ _ _ c.control_and_look.ensures.rises (omega arith)

pub returns-in_err-word-2-clause-rises : goal.returns-in_err-word-2-clause-rises
returns-in_err-word-2-clause-rises g c = within_then (1 + c.looks._looks) 1 _ _ (g.D.Dmi.seen c.looks.link) _ c.looks.invariant.rises c.look.ensures.rises
    c.looks.invariant.fixed (omega arith)

pub returns-then-is_shown-clause-rises : goal.returns-then-is_shown-clause-rises
returns-then-is_shown-clause-rises g c = within_more (1 + c.looks._looks) _ _ _ c.looks.invariant.rises (omega arith)

pub returns-in_err-word-clause-soon : goal.returns-in_err-word-clause-soon
returns-in_err-word-clause-soon g c = λ looks some. inl (within_more 2 (1 + looks) _ _ c.control_and_look.ensures.rises (omega (arith, some)))

pub returns-in_err-word-2-clause-soon : goal.returns-in_err-word-2-clause-soon
returns-in_err-word-2-clause-soon g c =
    looks_within c.args.request (test_of c.args.wanted) c.args.hart (c.looks._looks + 1) _ _
    (looks_more c.args.request (test_of c.args.wanted) c.args.hart c.looks._looks c.looks.word _ (told (g.D.Dmi.seen c.looks.link))
    c.looks.invariant.soon c.looks.invariant.looked
    (ap (λ s. test_of c.args.wanted (seen_in_status s)) (sym c.from_word.ensures) ∙ sym c.is_shown.ensures ∙ c.if-is_shown.false))
    (within_then (1 + c.looks._looks) 1 (1 + (c.looks._looks + 1)) _ (g.D.Dmi.seen c.looks.link) _ c.looks.invariant.rises c.look.ensures.rises
    c.looks.invariant.fixed (omega arith))

pub returns-then-is_shown-clause-soon : goal.returns-then-is_shown-clause-soon
returns-then-is_shown-clause-soon g c =
    looks_within c.args.request (test_of c.args.wanted) c.args.hart c.looks._looks _ _ c.looks.invariant.soon c.looks.invariant.rises

pub returns-then-is_shown-2-clause-soon : goal.returns-then-is_shown-2-clause-soon
returns-then-is_shown-2-clause-soon g c =
    looks_within c.args.request (test_of c.args.wanted) c.args.hart c.looks._looks _ _ c.looks.invariant.soon c.looks.invariant.rises

pub returns-clause-soon : goal.returns-clause-soon
returns-clause-soon g c =
    looks_within c.args.request (test_of c.args.wanted) c.args.hart c.looks._looks _ _ c.looks.invariant.soon c.looks.invariant.rises

pub returns-clause-vain : goal.returns-clause-vain
returns-clause-vain g c = λ looks some few.
    let most : looks ≤ 64 = few in
    all_vain c.args.request (test_of c.args.wanted) c.args.hart c.looks._looks c.looks.word looks _ (told (g.D.Dmi.seen c.looks.link))
    c.looks.invariant.soon c.looks.invariant.looked
    (ap (λ s. test_of c.args.wanted (seen_in_status s)) (sym c.from_word-last.ensures) ∙ sym c.is_shown-2.ensures ∙ c.if-is_shown-2.false) some
    (omega (arith, most, c.looks-test.false))
