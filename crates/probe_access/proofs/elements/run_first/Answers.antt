use Rattle.std.proofs.Common.{List, ℕ, slice_index_or, sym, subst, arith, ◌∙◌, ap}
use Rattle.probe_run.specs.Acts.{Did}
use Rattle.probe_run.specs.Told.{told}
use Rattle.debug_model.specs.ModuleWords.{command_word}
use Rattle.probe_access.specs.ElementRuns.{block_program}
use Rattle.probe_access.specs.RegisterAccess.{next_word}
use Rattle.probe_access.proofs.ElementCalls.{block_broke, block_did}
use Rattle.probe_access.proofs.RegisterCalls.{err_failed, failed_behind, ran_behind, sent_acts}
use Rattle.probe_access.proofs.elements.run_first.Goals as goal

pub returns-in_err-many-clause-failed : goal.returns-in_err-many-clause-failed
returns-in_err-many-clause-failed g c =
    err_failed c.from_residual.result _ _ c.from_residual.ensures.1
    (block_broke c.args.instruction c.advance_of.result c.word.result next_word c.args.size _ _ (told (g.D.Dmi.seen c.args.link.now)) _
    c.in_err-many.field-0.0 c.advance_of.ensures (c.word.ensures ∙ ap command_word c.next_command.ensures) c.in_err-many.ensures.cut
    c.in_err-many.ensures.cause)

pub returns-in_err-last-clause-failed : goal.returns-in_err-last-clause-failed
returns-in_err-last-clause-failed g c =
    err_failed c.from_residual-in_err-last.result c.in_err-last.field-0.0 _ c.from_residual-in_err-last.ensures.1
    (failed_behind (block_program c.args.instruction c.args.size) next_word (slice_index_or c.deref.result.now 4 0) c.in_err-last.field-0.0 _ _ _ _ _ _
    (subst (λ (xs : List ℕ). Did (told (g.D.Dmi.seen c.args.link.now))
    (sent_acts (block_program c.args.instruction c.args.size) next_word (slice_index_or xs 4 0)) (told (g.D.Dmi.seen c.many.new.self)))
    (sym c.deref.ensures.0)
    (block_did c.args.instruction c.advance_of.result c.word.result next_word c.args.size c.many.new.results.items _ _
    c.advance_of.ensures (c.word.ensures ∙ ap command_word c.next_command.ensures) (omega arith) (omega arith) (omega arith)
    c.in_ok-many.ensures.count c.in_ok-many.ensures.operated c.in_ok-many.ensures.answers))
    c.many.ensures.keeps.later c.end_command.ensures.keeps.later c.in_err-last.ensures.failed)

pub returns-clause-ran : goal.returns-clause-ran
returns-clause-ran g c =
    ran_behind (block_program c.args.instruction c.args.size) next_word (slice_index_or c.deref.result.now 4 0) c.in_ok-last.last _ _ _
    (subst (λ (xs : List ℕ). Did (told (g.D.Dmi.seen c.args.link.now))
    (sent_acts (block_program c.args.instruction c.args.size) next_word (slice_index_or xs 4 0)) (told (g.D.Dmi.seen c.many.new.self)))
    (sym c.deref.ensures.0)
    (block_did c.args.instruction c.advance_of.result c.word.result next_word c.args.size c.many.new.results.items _ _
    c.advance_of.ensures (c.word.ensures ∙ ap command_word c.next_command.ensures) (omega arith) (omega arith) (omega arith)
    c.in_ok-many.ensures.count c.in_ok-many.ensures.operated c.in_ok-many.ensures.answers))
    c.in_ok-last.ensures.ended
