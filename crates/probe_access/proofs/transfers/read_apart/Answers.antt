use Rattle.std.proofs.Common.{[], sym, ap, ◌∙◌}
use Rattle.debug_model.specs.declared.abstractcs.Abstractcs.{Abstractcs}
use Rattle.probe_access.proofs.RegisterCalls.{err_failed, read_command_failed, read_words_failed, same_failed, same_ran}
use Rattle.probe_access.proofs.transfers.read_apart.Goals as goal

pub returns-in_err-last-clause-failed : goal.returns-in_err-last-clause-failed
returns-in_err-last-clause-failed g c =
    err_failed c.from_residual.result c.in_err-last.field-0.0 _ c.from_residual.ensures.1
    (read_command_failed c.args.register c.in_err-last.field-0.0 _ _ _ _
    (same_failed [] _ _ c.in_err-last.field-0.0 _ _ _ _ c.transfer_of.ensures c.in_err-last.ensures.failed))

pub returns-in_err-value-in-0-clause-failed : goal.returns-in_err-value-in-0-clause-failed
returns-in_err-value-in-0-clause-failed g c =
    err_failed c.from_residual-in_err-value-in-0.result _ _ c.from_residual-in_err-value-in-0.ensures.1
    (read_words_failed c.args.register c.in_ok-last.last c.in_err-value-in-0.field-0.0 _ _ _ _ _ _
    (same_ran [] _ _ c.in_ok-last.last _ _ c.transfer_of.ensures c.in_ok-last.ensures.ran)
    (ap (λ (s : Abstractcs). s.cmderr) (sym c.from_word.ensures) ∙ c.in-0.is) c.run_command.ensures.keeps.later c.read_double.ensures.keeps.later
    c.in_err-value-in-0.ensures.broke)
