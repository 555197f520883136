use Rattle.std.proofs.Common.{List, ℕ, slice_index_or, sym, subst, arith}
use Rattle.probe_run.specs.Acts.{Did}
use Rattle.probe_run.specs.Told.{told}
use Rattle.debug_model.specs.ModuleWords.{command_word}
use Rattle.probe_access.specs.RegisterRuns.{double_written}
use Rattle.probe_access.proofs.RegisterCalls.{err_failed, failed_behind, ran_behind, sent_acts}
use Rattle.probe_access.proofs.SentCalls.{with_broke, with_did}
use Rattle.probe_access.proofs.commands.run_with.Goals as goal

pub returns-in_err-many-clause-failed : goal.returns-in_err-many-clause-failed
returns-in_err-many-clause-failed g c =
    err_failed c.from_residual.result _ _ c.from_residual.ensures.1
    (with_broke c.low_word.result c.high_word.result c.args.value c.word.result (command_word c.args.command) _ _ (told (g.D.Dmi.seen c.args.link.now)) _
    c.in_err-many.field-0.0 c.low_word.ensures c.high_word.ensures c.word.ensures c.in_err-many.ensures.cut c.in_err-many.ensures.cause)

pub returns-in_err-last-clause-failed : goal.returns-in_err-last-clause-failed
returns-in_err-last-clause-failed g c =
    err_failed c.from_residual-in_err-last.result c.in_err-last.field-0.0 _ c.from_residual-in_err-last.ensures.1
    (failed_behind (double_written c.args.value) (command_word c.args.command) (slice_index_or c.deref.result.now 3 0) c.in_err-last.field-0.0 _ _ _ _ _ _
    (subst (λ (xs : List ℕ). Did (told (g.D.Dmi.seen c.args.link.now))
    (sent_acts (double_written c.args.value) (command_word c.args.command) (slice_index_or xs 3 0)) (told (g.D.Dmi.seen c.many.new.self)))
    (sym c.deref.ensures.0)
    (with_did c.low_word.result c.high_word.result c.args.value c.word.result (command_word c.args.command) c.many.new.results.items _ _ c.low_word.ensures
    c.high_word.ensures c.word.ensures (omega arith) (omega arith) (omega arith) c.in_ok-many.ensures.count c.in_ok-many.ensures.operated
    c.in_ok-many.ensures.answers))
    c.many.ensures.keeps.later c.end_command.ensures.keeps.later c.in_err-last.ensures.failed)

pub returns-clause-ran : goal.returns-clause-ran
returns-clause-ran g c =
    ran_behind (double_written c.args.value) (command_word c.args.command) (slice_index_or c.deref.result.now 3 0) c.in_ok-last.last _ _ _
    (subst (λ (xs : List ℕ). Did (told (g.D.Dmi.seen c.args.link.now))
    (sent_acts (double_written c.args.value) (command_word c.args.command) (slice_index_or xs 3 0)) (told (g.D.Dmi.seen c.many.new.self)))
    (sym c.deref.ensures.0)
    (with_did c.low_word.result c.high_word.result c.args.value c.word.result (command_word c.args.command) c.many.new.results.items _ _ c.low_word.ensures
    c.high_word.ensures c.word.ensures (omega arith) (omega arith) (omega arith) c.in_ok-many.ensures.count c.in_ok-many.ensures.operated
    c.in_ok-many.ensures.answers))
    c.in_ok-last.ensures.ended
