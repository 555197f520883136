use Rattle.std.proofs.Common.{◌∙◌, refl, sym, ap, arith}
use Rattle.debug_model.specs.declared.abstractcs.Abstractcs.{Abstractcs}
use Rattle.probe_access.proofs.CommandNever.{poll_lost, polls_never}
use Rattle.probe_access.proofs.PollRises.{few_fails, few_first, few_more, few_polls}
use Rattle.probe_access.proofs.Polls.{not_false, read_did, started_always, started_broke, started_first, started_more}
use Rattle.probe_access.proofs.RegisterCalls.{err_failed}
use Rattle.probe_access.proofs.commands.await_end.Goals as goal

pub polls-init : goal.polls-init
polls-init g c = record { started = started_first c.args.first _; few = few_first c.args.first _; stands = c.requires.stands; later = omega arith; fixed = refl }

pub returns-in_err-word-clause-failed : goal.returns-in_err-word-clause-failed
returns-in_err-word-clause-failed g c =
    err_failed c.from_residual.result _ _ c.from_residual.ensures.1
    (started_broke c.polls._polls c.args.first c.polls.word _ _ _ _ _ _ c.in_err-word.field-0.0 c.polls.invariant.started c.polls-test.true
    (sym (ap (λ (s : Abstractcs). s.busy) c.from_word.ensures) ∙ not_false _ c.if-not-from_word.false)
    c.polls.invariant.later c.read.ensures.keeps.later c.in_err-word.ensures.cut c.in_err-word.ensures.cause)

pub polls-preserved : goal.polls-preserved
polls-preserved g c = record {
  started =
      started_more c.polls._polls c.args.first c.polls.word c.in_ok-word.word _ _ _ c.polls.invariant.started
      (sym (ap (λ (s : Abstractcs). s.busy) c.from_word.ensures) ∙ not_false _ c.if-not-from_word.false)
      (read_did 22 c.in_ok-word.word _ _ c.in_ok-word.ensures.operated c.in_ok-word.ensures.answers);
  few =
      few_more c.polls._polls c.polls.word c.in_ok-word.word _ _ _ c.polls.invariant.few
      (sym (ap (λ (s : Abstractcs). s.busy) c.from_word.ensures) ∙ not_false _ c.if-not-from_word.false) c.read.ensures.rises c.polls.invariant.fixed
      c.in_ok-word.ensures.operated;
  stands = c.in_ok-word.ensures.keeps.behind;
  later = omega (arith, c.polls.invariant.later, c.read.ensures.keeps.later);
  fixed = c.read.ensures.keeps.fixed ∙ c.polls.invariant.fixed;
}

pub returns-then-from_word-clause-failed : goal.returns-then-from_word-clause-failed
returns-then-from_word-clause-failed g c =
    started_always c.polls._polls c.args.first c.polls.word _ _ c.polls.invariant.started (omega (arith, c.polls-test.false))
    (sym (ap (λ (s : Abstractcs). s.busy) c.from_word-2.ensures) ∙ c.if-from_word.true)

pub returns-in_err-word-clause-rises : goal.returns-in_err-word-clause-rises
returns-in_err-word-clause-rises g c =
    few_fails c.polls._polls c.polls.word _ _ _ c.polls.invariant.few
    (sym (ap (λ (s : Abstractcs). s.busy) c.from_word.ensures) ∙ not_false _ c.if-not-from_word.false) c.read.ensures.rises c.polls.invariant.fixed

pub returns-then-not-from_word-clause-rises : goal.returns-then-not-from_word-clause-rises
returns-then-not-from_word-clause-rises g c = few_polls c.polls._polls c.polls.word _ _ c.polls.invariant.few

pub returns-then-from_word-clause-rises : goal.returns-then-from_word-clause-rises
returns-then-from_word-clause-rises g c = few_polls c.polls._polls c.polls.word _ _ c.polls.invariant.few

pub returns-clause-rises : goal.returns-clause-rises
returns-clause-rises g c = few_polls c.polls._polls c.polls.word _ _ c.polls.invariant.few

pub returns-in_err-word-clause-never : goal.returns-in_err-word-clause-never
returns-in_err-word-clause-never g c =
    err_failed c.from_residual.result _ _ c.from_residual.ensures.1
    (poll_lost c.polls._polls c.polls.word _ _ c.in_err-word.field-0.0 c.polls.invariant.few c.in_err-word.ensures.never)

pub returns-then-from_word-clause-never : goal.returns-then-from_word-clause-never
returns-then-from_word-clause-never g c = polls_never c.polls._polls c.polls.word _ _ c.polls.invariant.few (omega (arith, c.polls-test.false))
