use Rattle.std.proofs.Common.{List, ℕ, slice_index_or, sym, subst, arith}
use Rattle.probe_run.specs.Acts.{Did}
use Rattle.probe_run.specs.Told.{told}
use Rattle.std.proofs.Common.{◌∙◌, ap}
use Rattle.debug_model.specs.ModuleWords.{command_word}
use Rattle.probe_access.specs.MemoryRuns.{program_set}
use Rattle.probe_access.specs.RegisterAccess.{program_word}
use Rattle.probe_access.proofs.RegisterCalls.{err_failed, failed_behind, ran_behind, sent_acts}
use Rattle.probe_access.proofs.SentCalls.{program_broke, program_did}
use Rattle.probe_access.proofs.program.run_program.Goals as goal

pub returns-in_err-many-clause-failed : goal.returns-in_err-many-clause-failed
returns-in_err-many-clause-failed g c =
    err_failed c.from_residual.result _ _ c.from_residual.ensures.1
    (program_broke c.args.instruction c.low_word.result c.high_word.result c.args.address c.word.result program_word _ _ (told (g.D.Dmi.seen c.args.link.now))
    _ c.in_err-many.field-0.0 c.low_word.ensures c.high_word.ensures (c.word.ensures ∙ ap command_word c.program_of.ensures) c.in_err-many.ensures.cut
    c.in_err-many.ensures.cause)

pub returns-in_err-last-clause-failed : goal.returns-in_err-last-clause-failed
returns-in_err-last-clause-failed g c =
    err_failed c.from_residual-in_err-last.result c.in_err-last.field-0.0 _ c.from_residual-in_err-last.ensures.1
    (failed_behind (program_set c.args.instruction c.args.address) program_word (slice_index_or c.deref.result.now 5 0) c.in_err-last.field-0.0 _ _ _ _ _ _
    (subst (λ (xs : List ℕ). Did (told (g.D.Dmi.seen c.args.link.now))
    (sent_acts (program_set c.args.instruction c.args.address) program_word (slice_index_or xs 5 0)) (told (g.D.Dmi.seen c.many.new.self)))
    (sym c.deref.ensures.0)
    (program_did c.args.instruction c.low_word.result c.high_word.result c.args.address c.word.result program_word c.many.new.results.items _ _
    c.low_word.ensures c.high_word.ensures (c.word.ensures ∙ ap command_word c.program_of.ensures) (omega arith) (omega arith) (omega arith) (omega arith)
    c.in_ok-many.ensures.count c.in_ok-many.ensures.operated c.in_ok-many.ensures.answers))
    c.many.ensures.keeps.later c.end_command.ensures.keeps.later c.in_err-last.ensures.failed)

pub returns-clause-ran : goal.returns-clause-ran
returns-clause-ran g c =
    ran_behind (program_set c.args.instruction c.args.address) program_word (slice_index_or c.deref.result.now 5 0) c.in_ok-last.last _ _ _
    (subst (λ (xs : List ℕ). Did (told (g.D.Dmi.seen c.args.link.now))
    (sent_acts (program_set c.args.instruction c.args.address) program_word (slice_index_or xs 5 0)) (told (g.D.Dmi.seen c.many.new.self)))
    (sym c.deref.ensures.0)
    (program_did c.args.instruction c.low_word.result c.high_word.result c.args.address c.word.result program_word c.many.new.results.items _ _
    c.low_word.ensures c.high_word.ensures (c.word.ensures ∙ ap command_word c.program_of.ensures) (omega arith) (omega arith) (omega arith) (omega arith)
    c.in_ok-many.ensures.count c.in_ok-many.ensures.operated c.in_ok-many.ensures.answers))
    c.in_ok-last.ensures.ended
