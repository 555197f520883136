use Rattle.std.proofs.Common.{[], sym, ap, ◌∙◌, arith, refl}
use Rattle.probe_access.specs.declared.odd.OddStatus.TheVariants as odd_status
use Rattle.debug_model.specs.declared.abstractcs.Abstractcs.{Abstractcs}
use Rattle.probe_access.specs.ElementRuns.HandFailed.{in_run, oddly}
use Rattle.probe_access.proofs.ElementCalls.{last_words_failed, words_failed}
use Rattle.probe_access.proofs.RegisterCalls.{err_failed, same_failed, same_ran}
use Rattle.probe_access.proofs.elements.hand_next.Goals as goal

pub returns-in_err-last-clause-failed : goal.returns-in_err-last-clause-failed
returns-in_err-last-clause-failed g c =
    err_failed c.from_residual.result c.in_err-last.field-0.0 _ c.from_residual.ensures.1
    (in_run c.in_err-last.field-0.0 (same_failed [] _ _ c.in_err-last.field-0.0 _ _ _ _ c.next_command.ensures c.in_err-last.ensures.failed))

pub returns-in_err-value-in-0-clause-failed : goal.returns-in_err-value-in-0-clause-failed
returns-in_err-value-in-0-clause-failed g c =
    err_failed c.from_residual-in_err-value-in-0.result _ _ c.from_residual-in_err-value-in-0.ensures.1
    (words_failed c.in_ok-last.last c.in_err-value-in-0.field-0.0 _ _ _ _ _ _
    (same_ran [] _ _ c.in_ok-last.last _ _ c.next_command.ensures c.in_ok-last.ensures.ran)
    (ap (λ (s : Abstractcs). s.cmderr) (sym c.from_word.ensures) ∙ c.in-0.is) c.run_command.ensures.keeps.later c.read_double.ensures.keeps.later
    c.in_err-value-in-0.ensures.broke)

pub returns-in_err-value-in-3-clause-failed : goal.returns-in_err-value-in-3-clause-failed
returns-in_err-value-in-3-clause-failed g c =
    err_failed c.from_residual-in_err-value-in-3.result _ _ c.from_residual-in_err-value-in-3.ensures.1
    (last_words_failed c.in_ok-last.last c.in_err-value-in-3.field-0.0 _ _ _ _ _ _
    (same_ran [] _ _ c.in_ok-last.last _ _ c.next_command.ensures c.in_ok-last.ensures.ran)
    (ap (λ (s : Abstractcs). s.cmderr) (sym c.from_word.ensures) ∙ c.in-3.is) c.run_command.ensures.keeps.later
    c.read_double-in-3.ensures.keeps.later c.in_err-value-in-3.ensures.broke)

pub returns-in_default-clause-failed : goal.returns-in_default-clause-failed
returns-in_default-clause-failed g c =
    let same = ap (λ (s : Abstractcs). s.cmderr) c.from_word.ensures in
    oddly (odd_status.Abstractcs c.in_ok-last.last)
    (record {
      last = c.in_ok-last.last;
      is = refl;
      ran = same_ran [] _ _ c.in_ok-last.last _ _ c.next_command.ensures c.in_ok-last.ensures.ran;
      some = λ e. let f = same ∙ e in omega arith;
      other = λ e. let f = same ∙ e in omega arith;
    })
