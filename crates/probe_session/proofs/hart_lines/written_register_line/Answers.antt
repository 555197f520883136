use Rattle.debug_model.proofs.RiseLemmas.{within_more, within_then}
use Rattle.std.proofs.Common.{arith, refl, ◌∙◌}
use Rattle.probe_trig.specs.declared.change.Change.TheVariants.{Forget}
use Rattle.probe_trig.specs.Runs.{ChangesAny}
use Rattle.probe_session.specs.Commands.{ends_with}
use Rattle.probe_session.specs.Failures.{failure_of_trig}
use Rattle.probe_session.specs.Said.{said_by}
use Rattle.probe_session.proofs.Conversions.{slots_failed}
use Rattle.probe_session.proofs.HartLines.{forget_falls, write_falls, write_refused, written, written_pc}
use Rattle.probe_session.proofs.LinkLemmas.{if_err}
use Rattle.probe_session.proofs.OneLine.{err_then, ok_then}
use Rattle.probe_session.proofs.SeenLemmas.{gave_false, gave_true}
use Rattle.probe_session.proofs.NeverLemmas.{behind_then, by_trig, gives_up_then}
use Rattle.probe_session.proofs.hart_lines.written_register_line.Goals as goal

pub returns-in_err-set_reg_if_taken-clause-falls : goal.returns-in_err-set_reg_if_taken-clause-falls
returns-in_err-set_reg_if_taken-clause-falls g c = if_err _ c.in_err-set_reg_if_taken.field-0.0 _ c.from_residual.ensures.1
    (write_falls c.args.halted.now.number c.args.number c.args.value c.in_err-set_reg_if_taken.ensures.fell)

pub returns-then-not-branch-clause-went : goal.returns-then-not-branch-clause-went
returns-then-not-branch-clause-went g c = write_refused c.args.halted.now.number c.args.number c.args.value c.requires.of
    (gave_false c.if-not-branch.true c.in_ok-set_reg_if_taken.ensures.gave)

pub returns-in_err-forget_hits-clause-falls : goal.returns-in_err-forget_hits-clause-falls
returns-in_err-forget_hits-clause-falls g c = if_err _ (failure_of_trig c.in_err-forget_hits.field-0.0) _ c.from_residual-in_err-forget_hits.ensures.1
    (forget_falls c.args.halted.now.number c.args.number c.args.value c.if-number-eq-DPC.true
    (gave_true c.if-not-branch.false c.in_ok-set_reg_if_taken.ensures.gave)
    c.set_reg_if_taken.ensures.keeps.later
    (slots_failed (ChangesAny Forget) c.args.halted.now.number c.in_err-forget_hits.field-0.0 refl c.forget_hits.ensures.keeps.later
    c.in_ok-set_reg_if_taken.ensures.keeps.behind.serving c.in_err-forget_hits.ensures.failed c.in_err-forget_hits.ensures.left
    c.in_err-forget_hits.ensures.cut))

pub returns-then-number-eq-DPC-clause-went : goal.returns-then-number-eq-DPC-clause-went
returns-then-number-eq-DPC-clause-went g c =
    ok_then (λ line. ends_with (said_by line)) _ _ (written_pc c.args.halted.now.number c.args.number c.args.value c.if-number-eq-DPC.true
    (gave_true c.if-not-branch.false c.in_ok-set_reg_if_taken.ensures.gave) (record {
      heard = c.in_ok-forget_hits.ensures.did;
      told = c.in_ok-forget_hits.ensures.forgot;
    })) c.register_line.ensures.went

pub returns-then-number-eq-DPC-clause-falls : goal.returns-then-number-eq-DPC-clause-falls
returns-then-number-eq-DPC-clause-falls g c =
    err_then _ _ _ (written_pc c.args.halted.now.number c.args.number c.args.value c.if-number-eq-DPC.true
    (gave_true c.if-not-branch.false c.in_ok-set_reg_if_taken.ensures.gave) (record {
      heard = c.in_ok-forget_hits.ensures.did;
      told = c.in_ok-forget_hits.ensures.forgot;
    }))
    (omega (arith, c.set_reg_if_taken.ensures.keeps.later, c.forget_hits.ensures.keeps.later)) c.register_line.ensures.falls

pub returns-clause-went : goal.returns-clause-went
returns-clause-went g c =
    ok_then (λ line. ends_with (said_by line)) _ _ (written c.args.halted.now.number c.args.number c.args.value c.requires.of c.if-number-eq-DPC.false
    (gave_true c.if-not-branch.false c.in_ok-set_reg_if_taken.ensures.gave)) c.register_line-2.ensures.went

pub returns-clause-falls : goal.returns-clause-falls
returns-clause-falls g c =
    err_then _ _ _ (written c.args.halted.now.number c.args.number c.args.value c.requires.of c.if-number-eq-DPC.false
    (gave_true c.if-not-branch.false c.in_ok-set_reg_if_taken.ensures.gave)) c.set_reg_if_taken.ensures.keeps.later c.register_line-2.ensures.falls

pub returns-in_err-set_reg_if_taken-clause-rises : goal.returns-in_err-set_reg_if_taken-clause-rises
returns-in_err-set_reg_if_taken-clause-rises g c =
    within_more 8 176 _ _ c.set_reg_if_taken.ensures.rises (omega arith)

pub returns-then-not-branch-clause-rises : goal.returns-then-not-branch-clause-rises
returns-then-not-branch-clause-rises g c =
    within_more 8 176 _ _ c.set_reg_if_taken.ensures.rises (omega arith)

pub returns-in_err-forget_hits-clause-rises : goal.returns-in_err-forget_hits-clause-rises
returns-in_err-forget_hits-clause-rises g c =
    within_then 8 152 176 _ (g.D.Dmi.seen c.set_reg_if_taken.new.link) _ c.set_reg_if_taken.ensures.rises c.forget_hits.ensures.rises
    c.set_reg_if_taken.ensures.keeps.fixed (omega arith)

pub returns-then-number-eq-DPC-clause-rises : goal.returns-then-number-eq-DPC-clause-rises
returns-then-number-eq-DPC-clause-rises g c =
    within_then 160 16 176 _ (g.D.Dmi.seen c.forget_hits.new.link) _ (within_then 8 152 160 _ (g.D.Dmi.seen c.set_reg_if_taken.new.link) _
    c.set_reg_if_taken.ensures.rises c.forget_hits.ensures.rises c.set_reg_if_taken.ensures.keeps.fixed (omega arith)) c.register_line.ensures.rises
    (c.forget_hits.ensures.keeps.fixed ∙ c.set_reg_if_taken.ensures.keeps.fixed) (omega arith)

pub returns-clause-rises : goal.returns-clause-rises
returns-clause-rises g c =
    within_then 8 16 176 _ (g.D.Dmi.seen c.set_reg_if_taken.new.link) _ c.set_reg_if_taken.ensures.rises c.register_line-2.ensures.rises
    c.set_reg_if_taken.ensures.keeps.fixed (omega arith)

pub returns-in_err-forget_hits-clause-never : goal.returns-in_err-forget_hits-clause-never
returns-in_err-forget_hits-clause-never g c =
    if_err _ (failure_of_trig c.in_err-forget_hits.field-0.0) _ c.from_residual-in_err-forget_hits.ensures.1
    (gives_up_then 8 _ (g.D.Dmi.seen c.set_reg_if_taken.new.link) (failure_of_trig c.in_err-forget_hits.field-0.0) c.set_reg_if_taken.ensures.rises
    (by_trig (g.D.Dmi.seen c.set_reg_if_taken.new.link) c.in_err-forget_hits.field-0.0 c.in_err-forget_hits.ensures.never))

pub returns-then-number-eq-DPC-clause-never : goal.returns-then-number-eq-DPC-clause-never
returns-then-number-eq-DPC-clause-never g c =
    behind_then 8 _ (g.D.Dmi.seen c.set_reg_if_taken.new.link) _ c.set_reg_if_taken.ensures.rises
    (behind_then 152 (g.D.Dmi.seen c.set_reg_if_taken.new.link) (g.D.Dmi.seen c.forget_hits.new.link) _ c.forget_hits.ensures.rises c.register_line.ensures.never)
