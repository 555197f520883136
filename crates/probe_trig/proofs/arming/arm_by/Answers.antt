use Rattle.debug_model.proofs.RiseLemmas.{within_more, within_then}
use Rattle.probe_trig.proofs.Refusals.{of_tdata1}
use Rattle.std.proofs.Common.{◌≡◌, ◌∙◌, [], ◌∷◌, ap, arith}
use Rattle.rv_model.specs.TriggerWords.{tdata1_of}
use Rattle.probe_trig.specs.declared.register.TriggerRegister.TheVariants.{Tdata1}
use Rattle.probe_trig.specs.Runs.{address_set}
use Rattle.probe_trig.specs.Transfers.Transfer.{Set}
use Rattle.probe_trig.specs.SlotRegisters.{address_named, word_named}
use Rattle.probe_trig.proofs.ArmFits.{arms_address, arms_trigger}
use Rattle.probe_run.proofs.ActLemmas.{if_err}
use Rattle.probe_trig.proofs.TransferLemmas.{failed_behind, failed_first, made_then}
use Rattle.probe_access.specs.Never.{NeverLost}
use Rattle.probe_access.proofs.NeverLemmas.{lost_then}
use Rattle.probe_trig.proofs.arming.arm_by.Goals as goal

pub returns-in_err-set_address-clause-failed : goal.returns-in_err-set_address-clause-failed
returns-in_err-set_address-clause-failed g c =
    if_err _ c.from_residual.result _ c.from_residual.ensures.1 (failed_first _ _ _ _ _ _ _ _ (arms_address c.args.version c.args.what) c.in_err-set_address.ensures.failed)

pub returns-in_err-set_reg-clause-failed : goal.returns-in_err-set_reg-clause-failed
returns-in_err-set_reg-clause-failed g c =
    let word_is : c.tdata1-tdata1.result ≡ word_named c.args.version c.args.what = c.tdata1-tdata1.ensures ∙ ap (tdata1_of c.args.version) c.trigger_for.ensures.is in
    if_err _ c.from_residual-in_err-set_reg.result _ c.from_residual-in_err-set_reg.ensures.1
    (failed_behind _ _ (address_set (address_named c.args.what)) _ _ _ _ _ _ _ _ c.set_address.ensures.keeps.later c.set_reg.ensures.keeps.later
    c.in_ok-set_address.ensures.made (arms_trigger c.args.version c.args.what)
    (rw (word_is) at c.in_err-set_reg.ensures.failed))

pub returns-clause-made : goal.returns-clause-made
returns-clause-made g c =
    let word_is : c.tdata1-tdata1.result ≡ word_named c.args.version c.args.what = c.tdata1-tdata1.ensures ∙ ap (tdata1_of c.args.version) c.trigger_for.ensures.is in
    made_then c.args.halted.now.number (address_set (address_named c.args.what))
    (Set Tdata1 (word_named c.args.version c.args.what) ∷ []) _ _ _ c.in_ok-set_address.ensures.made
    (rw (word_is) at c.in_ok-set_reg.ensures.made)

pub returns-in_err-set_address-clause-rises : goal.returns-in_err-set_address-clause-rises
returns-in_err-set_address-clause-rises g c =
    within_more 8 16 _ _ c.set_address.ensures.rises (omega arith)

pub returns-in_err-set_reg-clause-rises : goal.returns-in_err-set_reg-clause-rises
returns-in_err-set_reg-clause-rises g c =
    within_then 8 8 16 _ (g.D.Dmi.seen c.set_address.new.link) _ c.set_address.ensures.rises c.set_reg.ensures.rises
    c.set_address.ensures.keeps.fixed (omega arith)

pub returns-clause-rises : goal.returns-clause-rises
returns-clause-rises g c =
    within_then 8 8 16 _ (g.D.Dmi.seen c.set_address.new.link) _ c.set_address.ensures.rises c.set_reg.ensures.rises
    c.set_address.ensures.keeps.fixed (omega arith)

pub returns-in_err-set_address-clause-refuses : goal.returns-in_err-set_address-clause-refuses
returns-in_err-set_address-clause-refuses g c =
    if_err _ c.from_residual.result _ c.from_residual.ensures.1
    (c.in_err-set_address.ensures.refuses)

pub returns-in_err-set_reg-clause-refuses : goal.returns-in_err-set_reg-clause-refuses
returns-in_err-set_reg-clause-refuses g c =
    if_err _ c.from_residual-in_err-set_reg.result _ c.from_residual-in_err-set_reg.ensures.1
    (of_tdata1 _ c.in_err-set_reg.ensures.refuses)

pub returns-in_err-set_reg-clause-never : goal.returns-in_err-set_reg-clause-never
returns-in_err-set_reg-clause-never g c =
    if_err (NeverLost (g.D.Dmi.seen c.args.link.now)) c.from_residual-in_err-set_reg.result _ c.from_residual-in_err-set_reg.ensures.1
    (lost_then _ (g.D.Dmi.seen c.args.link.now) (g.D.Dmi.seen c.set_address.new.link) c.in_err-set_reg.field-0.0 c.set_address.ensures.rises
    c.in_err-set_reg.ensures.never)
