use Rattle.debug_model.proofs.RiseLemmas.{within_more, within_then}
use Rattle.probe_trig.proofs.Refusals.{of_tdata1, of_tselect}
use Rattle.std.proofs.Common.{[], ◌∷◌, arith}
use Rattle.probe_trig.specs.declared.register.TriggerRegister.TheVariants.{Tselect, Tdata1}
use Rattle.probe_trig.specs.Transfers.Transfer.{Got, Set}
use Rattle.probe_trig.proofs.Fitting.{word_gets, word_selects}
use Rattle.probe_run.proofs.ActLemmas.{if_err}
use Rattle.probe_trig.proofs.TransferLemmas.{failed_behind, failed_first, made_then}
use Rattle.probe_access.specs.Never.{NeverLost}
use Rattle.probe_access.proofs.NeverLemmas.{lost_then}
use Rattle.probe_trig.proofs.register.read_word.Goals as goal

pub returns-in_err-set_reg-clause-failed : goal.returns-in_err-set_reg-clause-failed
returns-in_err-set_reg-clause-failed g c =
    if_err _ c.from_residual.result _ c.from_residual.ensures.1
    (failed_first _ _ _ _ _ _ _ _ (word_selects c.args.slot) (rw (c.from.ensures) at c.in_err-set_reg.ensures.failed))

pub returns-in_err-tdata1-clause-failed : goal.returns-in_err-tdata1-clause-failed
returns-in_err-tdata1-clause-failed g c =
    if_err _ c.from_residual-in_err-tdata1.result _ c.from_residual-in_err-tdata1.ensures.1
    (failed_behind _ _ (Set Tselect c.args.slot ∷ []) _ _ _ _ _ _ _ _ c.set_reg.ensures.keeps.later c.reg.ensures.keeps.later
    (rw (c.from.ensures) at c.in_ok-set_reg.ensures.made) (word_gets c.args.slot) c.in_err-tdata1.ensures.failed)

pub returns-clause-made : goal.returns-clause-made
returns-clause-made g c =
    made_then c.args.halted.now.number (Set Tselect c.args.slot ∷ []) (Got Tdata1 c.in_ok-tdata1.tdata1 ∷ []) _ _ _
    (rw (c.from.ensures) at c.in_ok-set_reg.ensures.made) c.in_ok-tdata1.ensures.made

pub returns-in_err-set_reg-clause-rises : goal.returns-in_err-set_reg-clause-rises
returns-in_err-set_reg-clause-rises g c =
    within_more 8 24 _ _ c.set_reg.ensures.rises (omega arith)

pub returns-in_err-tdata1-clause-rises : goal.returns-in_err-tdata1-clause-rises
returns-in_err-tdata1-clause-rises g c =
    within_then 8 16 24 _ (g.D.Dmi.seen c.set_reg.new.link) _ c.set_reg.ensures.rises c.reg.ensures.rises
    c.set_reg.ensures.keeps.fixed (omega arith)

pub returns-clause-rises : goal.returns-clause-rises
returns-clause-rises g c =
    within_then 8 16 24 _ (g.D.Dmi.seen c.set_reg.new.link) _ c.set_reg.ensures.rises c.reg.ensures.rises
    c.set_reg.ensures.keeps.fixed (omega arith)

pub returns-in_err-set_reg-clause-refuses : goal.returns-in_err-set_reg-clause-refuses
returns-in_err-set_reg-clause-refuses g c =
    if_err _ c.from_residual.result _ c.from_residual.ensures.1
    (of_tselect _ c.in_err-set_reg.ensures.refuses)

pub returns-in_err-tdata1-clause-refuses : goal.returns-in_err-tdata1-clause-refuses
returns-in_err-tdata1-clause-refuses g c =
    if_err _ c.from_residual-in_err-tdata1.result _ c.from_residual-in_err-tdata1.ensures.1
    (of_tdata1 _ c.in_err-tdata1.ensures.refuses)

pub returns-in_err-tdata1-clause-never : goal.returns-in_err-tdata1-clause-never
returns-in_err-tdata1-clause-never g c =
    if_err (NeverLost (g.D.Dmi.seen c.args.link.now)) c.from_residual-in_err-tdata1.result _ c.from_residual-in_err-tdata1.ensures.1
    (lost_then _ (g.D.Dmi.seen c.args.link.now) (g.D.Dmi.seen c.set_reg.new.link) c.in_err-tdata1.field-0.0 c.set_reg.ensures.rises
    c.in_err-tdata1.ensures.never)
