use Rattle.std.proofs.Common.{◌∙◌, ◌++◌, ◌∷◌, List, ℕ, [], slice_index_or, sym, ap, subst, arith}
use Rattle.rv_model.specs.Dcsr.{dcsr_of_word}
use Rattle.debug_model.specs.ModuleWords.{command_word}
use Rattle.debug_model.specs.declared.abstractcs.Abstractcs.{Abstractcs}
use Rattle.debug_model.specs.declared.abstract_command.AbstractCommand.{AbstractCommand}
use Rattle.probe_run.specs.Acts.{Did}
use Rattle.probe_run.specs.Told.{told}
use Rattle.probe_access.specs.CommandRuns.{poll_act}
use Rattle.probe_access.specs.RegisterAccess.{joined}
use Rattle.probe_access.specs.Stops.{stop_acts}
use Rattle.probe_access.proofs.AskCalls.{ended_behind}
use Rattle.probe_access.proofs.RegisterCalls.{err_failed}
use Rattle.probe_access.proofs.StopCalls.{stop_ask_failed, stop_broke, stop_did}
use Rattle.probe_access.proofs.stops.stop_at_once.Goals as goal

pub returns-in_err-many-clause-failed : goal.returns-in_err-many-clause-failed
returns-in_err-many-clause-failed g c =
    err_failed c.from_residual.result _ _ c.from_residual.ensures.1
    (stop_broke c.word-dpc.result c.word-dcsr.result _ _ (told (g.D.Dmi.seen c.args.link.now)) (told (g.D.Dmi.seen c.many.new.self)) c.in_err-many.field-0.0
    (c.word-dpc.ensures ∙ ap (λ (k : AbstractCommand). command_word k) c.transfer_of.ensures)
    (c.word-dcsr.ensures ∙ ap (λ (k : AbstractCommand). command_word k) c.transfer_of-2.ensures) c.in_err-many.ensures.cut c.in_err-many.ensures.cause)

pub returns-in_err-last-clause-failed : goal.returns-in_err-last-clause-failed
returns-in_err-last-clause-failed g c =
    err_failed c.from_residual-in_err-last.result c.in_err-last.field-0.0 _ c.from_residual-in_err-last.ensures.1
    (stop_ask_failed (slice_index_or c.many.new.results.items 2 0) (slice_index_or c.many.new.results.items 1 0)
    (slice_index_or c.many.new.results.items 4 0) (slice_index_or c.deref.result.now 5 0) c.in_err-last.field-0.0 _ _ _ _ _ _
    (subst (λ (xs : List ℕ). Did (told (g.D.Dmi.seen c.args.link.now))
    (stop_acts (slice_index_or c.many.new.results.items 2 0) (slice_index_or c.many.new.results.items 1 0) (slice_index_or c.many.new.results.items 4 0)
    ++ poll_act (slice_index_or xs 5 0) ∷ []) (told (g.D.Dmi.seen c.many.new.self)))
    (sym c.deref.ensures.0)
    (stop_did c.word-dpc.result c.word-dcsr.result c.many.new.results.items _ _
    (c.word-dpc.ensures ∙ ap (λ (k : AbstractCommand). command_word k) c.transfer_of.ensures)
    (c.word-dcsr.ensures ∙ ap (λ (k : AbstractCommand). command_word k) c.transfer_of-2.ensures) (omega arith) (omega arith) c.in_ok-many.ensures.count
    c.in_ok-many.ensures.operated c.in_ok-many.ensures.answers))
    c.many.ensures.keeps.later c.end_command.ensures.keeps.later c.in_err-last.ensures.failed)

pub returns-then-from_word-ne0-clause-asked : goal.returns-then-from_word-ne0-clause-asked
returns-then-from_word-ne0-clause-asked g c = record {
  low = slice_index_or c.many.new.results.items 2 0;
  high = slice_index_or c.many.new.results.items 1 0;
  word = slice_index_or c.many.new.results.items 4 0;
  last = c.in_ok-last.last;
  ended = ended_behind (stop_acts (slice_index_or c.many.new.results.items 2 0) (slice_index_or c.many.new.results.items 1 0)
      (slice_index_or c.many.new.results.items 4 0)) (slice_index_or c.deref.result.now 5 0) c.in_ok-last.last _ _ _
      (subst (λ (xs : List ℕ). Did (told (g.D.Dmi.seen c.args.link.now))
      (stop_acts (slice_index_or c.many.new.results.items 2 0) (slice_index_or c.many.new.results.items 1 0) (slice_index_or c.many.new.results.items 4 0)
      ++ poll_act (slice_index_or xs 5 0) ∷ []) (told (g.D.Dmi.seen c.many.new.self)))
      (sym c.deref.ensures.0)
      (stop_did c.word-dpc.result c.word-dcsr.result c.many.new.results.items _ _
      (c.word-dpc.ensures ∙ ap (λ (k : AbstractCommand). command_word k) c.transfer_of.ensures)
      (c.word-dcsr.ensures ∙ ap (λ (k : AbstractCommand). command_word k) c.transfer_of-2.ensures) (omega arith) (omega arith) c.in_ok-many.ensures.count
      c.in_ok-many.ensures.operated c.in_ok-many.ensures.answers))
      c.in_ok-last.ensures.ended;
  some = λ none. c.if-from_word-ne0.true (ap (λ (s : Abstractcs). s.cmderr) c.from_word.ensures ∙ none);
}

pub returns-clause-asked : goal.returns-clause-asked
returns-clause-asked g c = record {
  low = slice_index_or c.many.new.results.items 2 0;
  high = slice_index_or c.many.new.results.items 1 0;
  word = slice_index_or c.many.new.results.items 4 0;
  last = c.in_ok-last.last;
  pc_is = c.stop_of.ensures.pc ∙ c.join.ensures
      ∙ ap (λ (xs : List ℕ). joined (slice_index_or xs 2 0) (slice_index_or c.deref-3.result.now 1 0)) c.deref-2.ensures.0
      ∙ ap (λ (xs : List ℕ). joined (slice_index_or c.many.new.results.items 2 0) (slice_index_or xs 1 0)) c.deref-3.ensures.0;
  cause_is = c.stop_of.ensures.cause
      ∙ ap (λ n. (dcsr_of_word n).cause) (c.from.ensures ∙ ap (λ (xs : List ℕ). slice_index_or xs 4 0) c.deref-4.ensures.0);
  ended = ended_behind (stop_acts (slice_index_or c.many.new.results.items 2 0) (slice_index_or c.many.new.results.items 1 0)
      (slice_index_or c.many.new.results.items 4 0)) (slice_index_or c.deref.result.now 5 0) c.in_ok-last.last _ _ _
      (subst (λ (xs : List ℕ). Did (told (g.D.Dmi.seen c.args.link.now))
      (stop_acts (slice_index_or c.many.new.results.items 2 0) (slice_index_or c.many.new.results.items 1 0) (slice_index_or c.many.new.results.items 4 0)
      ++ poll_act (slice_index_or xs 5 0) ∷ []) (told (g.D.Dmi.seen c.many.new.self)))
      (sym c.deref.ensures.0)
      (stop_did c.word-dpc.result c.word-dcsr.result c.many.new.results.items _ _
      (c.word-dpc.ensures ∙ ap (λ (k : AbstractCommand). command_word k) c.transfer_of.ensures)
      (c.word-dcsr.ensures ∙ ap (λ (k : AbstractCommand). command_word k) c.transfer_of-2.ensures) (omega arith) (omega arith) c.in_ok-many.ensures.count
      c.in_ok-many.ensures.operated c.in_ok-many.ensures.answers))
      c.in_ok-last.ensures.ended;
  error_is = ap (λ (s : Abstractcs). s.cmderr) (sym c.from_word.ensures) ∙ c.if-from_word-ne0.false;
}
