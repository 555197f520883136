use Rattle.debug_model.specs.Addresses.{abstractcs_address}
use Rattle.probe_run.specs.Told.{told}
use Rattle.std.proofs.Common.{refl, ap, ◌∙◌}
use Rattle.debug_model.specs.declared.abstractcs.Abstractcs.{Abstractcs}
use Rattle.probe_access.specs.CommandRuns.{EndBegun}
use Rattle.probe_access.specs.CommandRuns.EndBegun.{clears}
use Rattle.probe_access.proofs.RegisterCalls.{ended_then, err_failed, put_did, some_cleared, word_broke_behind}
use Rattle.probe_access.proofs.commands.end_command.Goals as goal

pub returns-in_err-write-clause-failed : goal.returns-in_err-write-clause-failed
returns-in_err-write-clause-failed g c =
    let polled = c.in_ok-last.ensures.polled in
    err_failed c.from_residual-in_err-write.result _ _ c.from_residual-in_err-write.ensures.1
    (word_broke_behind (EndBegun c.args.first) polled.rest 22 0x700 0x700 _ _ _ (told (g.D.Dmi.seen c.args.link.now))
    (told (g.D.Dmi.seen c.await_end.new.link)) _ c.in_err-write.field-0.0 refl
    (clears polled.words c.in_ok-last.last polled.rest polled.vain polled.idle
    (λ e. c.if-status-eq0.false (ap (λ (s : Abstractcs). s.cmderr) c.from_word-status.ensures ∙ e)) polled.is)
    polled.did c.await_end.ensures.keeps.later c.write.ensures.keeps.later c.in_err-write.ensures.cut c.in_err-write.ensures.cause)

pub returns-clause-ended : goal.returns-clause-ended
returns-clause-ended g c =
    ended_then c.args.first c.in_ok-last.last _ _ _ c.in_ok-last.ensures.polled _
    (put_did abstractcs_address 0x700 _ _ c.in_ok-write.ensures.operated c.in_ok-write.ensures.passes)
    (some_cleared _ (λ e. c.if-status-eq0.false (ap (λ (s : Abstractcs). s.cmderr) c.from_word-status.ensures ∙ e)))
