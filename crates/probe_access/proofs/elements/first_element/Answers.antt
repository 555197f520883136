use Rattle.std.proofs.Common.{sym, ap, ◌∙◌, arith, refl}
use Rattle.probe_access.specs.declared.odd.OddStatus.TheVariants as odd_status
use Rattle.debug_model.specs.declared.abstractcs.Abstractcs.{Abstractcs}
use Rattle.probe_access.specs.ElementRuns.RunFailed.{in_run, faulted, oddly}
use Rattle.probe_access.proofs.RegisterCalls.{err_failed}
use Rattle.probe_access.proofs.elements.first_element.Goals as goal

pub returns-in_err-last-clause-failed : goal.returns-in_err-last-clause-failed
returns-in_err-last-clause-failed g c =
    err_failed c.from_residual.result c.in_err-last.field-0.0 _ c.from_residual.ensures.1 (in_run c.in_err-last.field-0.0 c.in_err-last.ensures.failed)

pub returns-in-0-clause-ran : goal.returns-in-0-clause-ran
returns-in-0-clause-ran g c =
    record { last = c.in_ok-last.last; ran = c.in_ok-last.ensures.ran; error_is = ap (λ (s : Abstractcs). s.cmderr) (sym c.from_word.ensures) ∙ c.in-0.is }

pub returns-in-3-clause-failed : goal.returns-in-3-clause-failed
returns-in-3-clause-failed g c =
    faulted (record {
      last = c.in_ok-last.last;
      ran = c.in_ok-last.ensures.ran;
      error_is = ap (λ (s : Abstractcs). s.cmderr) (sym c.from_word.ensures)
          ∙ c.in-3.is;
    })

pub returns-in_default-clause-failed : goal.returns-in_default-clause-failed
returns-in_default-clause-failed g c =
    let same = ap (λ (s : Abstractcs). s.cmderr) c.from_word.ensures in
    oddly (odd_status.Abstractcs c.in_ok-last.last)
    (record {
      last = c.in_ok-last.last;
      is = refl;
      ran = c.in_ok-last.ensures.ran;
      some = λ e. let f = same ∙ e in omega arith;
      other = λ e. let f = same ∙ e in omega arith;
    })
