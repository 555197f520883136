use Rattle.debug_model.proofs.RiseLemmas.{within_more, within_then}
use Rattle.std.proofs.Common.{arith, refl}
use Rattle.probe_trig.specs.declared.change.Change.TheVariants.{Forget}
use Rattle.probe_trig.specs.Runs.{ChangesAny}
use Rattle.probe_session.specs.Failures.{failure_of_trig}
use Rattle.probe_session.proofs.Conversions.{slots_failed}
use Rattle.probe_session.proofs.LinkLemmas.{if_err}
use Rattle.probe_session.proofs.NeverLemmas.{by_trig}
use Rattle.probe_trig.proofs.NeverLemmas.{slot_lost_then}
use Rattle.probe_session.proofs.SeenLemmas.{gave_false, gave_true}
use Rattle.elf_session.proofs.Entering.{entered, entry_falls, entry_refused, forget_falls}
use Rattle.elf_session.proofs.loading.entered_line.Goals as goal

pub returns-in_err-set_reg_if_taken-clause-falls : goal.returns-in_err-set_reg_if_taken-clause-falls
returns-in_err-set_reg_if_taken-clause-falls g c = if_err _ c.in_err-set_reg_if_taken.field-0.0 _ c.from_residual.ensures.1
    (entry_falls c.args.halted.now.number c.args.entry c.args.size c.in_err-set_reg_if_taken.ensures.fell)

pub returns-then-not-branch-clause-went : goal.returns-then-not-branch-clause-went
returns-then-not-branch-clause-went g c =
    entry_refused c.args.halted.now.number c.args.entry c.args.size (gave_false c.if-not-branch.true c.in_ok-set_reg_if_taken.ensures.gave)

pub returns-in_err-forget_hits-clause-falls : goal.returns-in_err-forget_hits-clause-falls
returns-in_err-forget_hits-clause-falls g c = if_err _ (failure_of_trig c.in_err-forget_hits.field-0.0) _ c.from_residual-in_err-forget_hits.ensures.1
    (forget_falls c.args.halted.now.number c.args.entry c.args.size (gave_true c.if-not-branch.false c.in_ok-set_reg_if_taken.ensures.gave)
    c.set_reg_if_taken.ensures.keeps.later
    (slots_failed (ChangesAny Forget) c.args.halted.now.number c.in_err-forget_hits.field-0.0 refl c.forget_hits.ensures.keeps.later
    c.in_ok-set_reg_if_taken.ensures.keeps.behind.serving c.in_err-forget_hits.ensures.failed c.in_err-forget_hits.ensures.left
    c.in_err-forget_hits.ensures.cut))

pub returns-clause-went : goal.returns-clause-went
returns-clause-went g c =
    entered c.args.halted.now.number c.args.entry c.args.size (gave_true c.if-not-branch.false c.in_ok-set_reg_if_taken.ensures.gave)
    (record { heard = c.in_ok-forget_hits.ensures.did; told = c.in_ok-forget_hits.ensures.forgot })

pub returns-in_err-set_reg_if_taken-clause-rises : goal.returns-in_err-set_reg_if_taken-clause-rises
returns-in_err-set_reg_if_taken-clause-rises g c =
    within_more 8 160 _ _ c.set_reg_if_taken.ensures.rises (omega arith)

pub returns-then-not-branch-clause-rises : goal.returns-then-not-branch-clause-rises
returns-then-not-branch-clause-rises g c =
    within_more 8 160 _ _ c.set_reg_if_taken.ensures.rises (omega arith)

pub returns-in_err-forget_hits-clause-rises : goal.returns-in_err-forget_hits-clause-rises
returns-in_err-forget_hits-clause-rises g c =
    within_then 8 152 160 _ (g.D.Dmi.seen c.set_reg_if_taken.new.link) _ c.set_reg_if_taken.ensures.rises c.forget_hits.ensures.rises
    c.set_reg_if_taken.ensures.keeps.fixed (omega arith)

pub returns-clause-rises : goal.returns-clause-rises
returns-clause-rises g c =
    within_then 8 152 160 _ (g.D.Dmi.seen c.set_reg_if_taken.new.link) _ c.set_reg_if_taken.ensures.rises c.forget_hits.ensures.rises
    c.set_reg_if_taken.ensures.keeps.fixed (omega arith)

pub returns-in_err-forget_hits-clause-never : goal.returns-in_err-forget_hits-clause-never
returns-in_err-forget_hits-clause-never g c = if_err _ (failure_of_trig c.in_err-forget_hits.field-0.0) _ c.from_residual-in_err-forget_hits.ensures.1
    (by_trig (g.D.Dmi.seen c.args.link.now) c.in_err-forget_hits.field-0.0
    (slot_lost_then 8 (g.D.Dmi.seen c.args.link.now) (g.D.Dmi.seen c.set_reg_if_taken.new.link) c.in_err-forget_hits.field-0.0
    c.set_reg_if_taken.ensures.rises c.in_err-forget_hits.ensures.never))
