use Rattle.std.proofs.Common.{◌≡◌, ◌∙◌, ◌++◌, ◌∷◌, List, ℕ, [], slice_index_or, sym, ap, subst, arith}
use Rattle.debug_model.specs.ModuleWords.{command_word}
use Rattle.debug_model.specs.declared.abstractcs.Abstractcs.{Abstractcs}
use Rattle.debug_model.specs.declared.abstract_command.AbstractCommand.{AbstractCommand}
use Rattle.probe_run.specs.Acts.{Did, Tells}
use Rattle.probe_run.specs.Told.{told}
use Rattle.probe_access.specs.CommandRuns.{poll_act}
use Rattle.probe_access.specs.DcsrRuns.{DcsrAtOnce, dcsr_acts}
use Rattle.probe_access.proofs.AskCalls.{ended_behind}
use Rattle.probe_access.proofs.DcsrCalls.{dcsr_ask_failed, dcsr_broke, dcsr_did}
use Rattle.probe_access.proofs.RegisterCalls.{err_failed}
use Rattle.probe_access.proofs.dcsr.dcsr_at_once.Goals as goal

as_read : (word value : ℕ) (old new : Tells) → value ≡ word → DcsrAtOnce word old new → DcsrAtOnce value old new
as_read word value old new is r = subst (λ n. DcsrAtOnce n old new) (sym is) r

pub returns-in_err-many-clause-failed : goal.returns-in_err-many-clause-failed
returns-in_err-many-clause-failed g c =
    err_failed c.from_residual.result _ _ c.from_residual.ensures.1
    (dcsr_broke c.word.result _ _ (told (g.D.Dmi.seen c.args.link.now)) (told (g.D.Dmi.seen c.many.new.self)) c.in_err-many.field-0.0
    (c.word.ensures ∙ ap (λ (k : AbstractCommand). command_word k) c.transfer_of.ensures) c.in_err-many.ensures.cut c.in_err-many.ensures.cause)

pub returns-in_err-last-clause-failed : goal.returns-in_err-last-clause-failed
returns-in_err-last-clause-failed g c =
    err_failed c.from_residual-in_err-last.result c.in_err-last.field-0.0 _ c.from_residual-in_err-last.ensures.1
    (dcsr_ask_failed (slice_index_or c.many.new.results.items 1 0) (slice_index_or c.deref.result.now 2 0) c.in_err-last.field-0.0 _ _ _ _ _ _
    (subst (λ (xs : List ℕ). Did (told (g.D.Dmi.seen c.args.link.now))
    (dcsr_acts (slice_index_or c.many.new.results.items 1 0) ++ poll_act (slice_index_or xs 2 0) ∷ []) (told (g.D.Dmi.seen c.many.new.self)))
    (sym c.deref.ensures.0)
    (dcsr_did c.word.result c.many.new.results.items _ _
    (c.word.ensures ∙ ap (λ (k : AbstractCommand). command_word k) c.transfer_of.ensures) (omega arith) c.in_ok-many.ensures.count
    c.in_ok-many.ensures.operated c.in_ok-many.ensures.answers))
    c.many.ensures.keeps.later c.end_command.ensures.keeps.later c.in_err-last.ensures.failed)

pub returns-then-from_word-ne0-clause-asked : goal.returns-then-from_word-ne0-clause-asked
returns-then-from_word-ne0-clause-asked g c = record {
  word = slice_index_or c.many.new.results.items 1 0;
  last = c.in_ok-last.last;
  ended = ended_behind (dcsr_acts (slice_index_or c.many.new.results.items 1 0)) (slice_index_or c.deref.result.now 2 0) c.in_ok-last.last _ _ _
      (subst (λ (xs : List ℕ). Did (told (g.D.Dmi.seen c.args.link.now))
      (dcsr_acts (slice_index_or c.many.new.results.items 1 0) ++ poll_act (slice_index_or xs 2 0) ∷ []) (told (g.D.Dmi.seen c.many.new.self)))
      (sym c.deref.ensures.0)
      (dcsr_did c.word.result c.many.new.results.items _ _
      (c.word.ensures ∙ ap (λ (k : AbstractCommand). command_word k) c.transfer_of.ensures) (omega arith) c.in_ok-many.ensures.count
      c.in_ok-many.ensures.operated c.in_ok-many.ensures.answers))
      c.in_ok-last.ensures.ended;
  some = λ none. c.if-from_word-ne0.true (ap (λ (s : Abstractcs). s.cmderr) c.from_word.ensures ∙ none);
}

pub returns-clause-asked : goal.returns-clause-asked
returns-clause-asked g c =
    as_read (slice_index_or c.many.new.results.items 1 0) c.from.result _ _
    (c.from.ensures ∙ ap (λ (xs : List ℕ). slice_index_or xs 1 0) c.deref-2.ensures.0) (record {
      last = c.in_ok-last.last;
      ended = ended_behind (dcsr_acts (slice_index_or c.many.new.results.items 1 0)) (slice_index_or c.deref.result.now 2 0) c.in_ok-last.last _ _ _
          (subst (λ (xs : List ℕ). Did (told (g.D.Dmi.seen c.args.link.now))
          (dcsr_acts (slice_index_or c.many.new.results.items 1 0) ++ poll_act (slice_index_or xs 2 0) ∷ []) (told (g.D.Dmi.seen c.many.new.self)))
          (sym c.deref.ensures.0)
          (dcsr_did c.word.result c.many.new.results.items _ _
          (c.word.ensures ∙ ap (λ (k : AbstractCommand). command_word k) c.transfer_of.ensures) (omega arith) c.in_ok-many.ensures.count
          c.in_ok-many.ensures.operated c.in_ok-many.ensures.answers))
          c.in_ok-last.ensures.ended;
      error_is = ap (λ (s : Abstractcs). s.cmderr) (sym c.from_word.ensures) ∙ c.if-from_word-ne0.false;
    })
