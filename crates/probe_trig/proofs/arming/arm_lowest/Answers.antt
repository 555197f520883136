use Rattle.debug_model.proofs.RiseLemmas.{within_more, within_then}
use Rattle.probe_trig.proofs.Refusals.{of_tselect}
use Rattle.std.proofs.Common.{[], ◌∷◌, ◌++◌, Some, None, arith, ◌∙◌}
use Rattle.probe_trig.specs.declared.register.TriggerRegister.TheVariants.{Tselect}
use Rattle.probe_trig.specs.Runs.{armed}
use Rattle.probe_trig.specs.Transfers.Transfer.{Got}
use Rattle.probe_trig.proofs.ArmFits.{arms_armed, arms_back, arms_keep, arms_none, arms_seek, armed_did, armed_made, none_did, sought_behind, tinfo_of}
use Rattle.probe_run.proofs.ActLemmas.{if_err}
use Rattle.probe_trig.proofs.TransferLemmas.{failed_behind, failed_first, made_then}
use Rattle.probe_access.specs.Never.{NeverLost}
use Rattle.probe_access.proofs.NeverLemmas.{lost_then}
use Rattle.probe_trig.proofs.arming.arm_lowest.Goals as goal

pub returns-in_err-kept-clause-failed : goal.returns-in_err-kept-clause-failed
returns-in_err-kept-clause-failed g c =
    if_err _ c.from_residual.result _ c.from_residual.ensures.1 (failed_first _ _ _ _ _ _ _ _ (arms_keep c.args.what) c.in_err-kept.ensures.failed)

pub returns-in_err-slot-clause-failed : goal.returns-in_err-slot-clause-failed
returns-in_err-slot-clause-failed g c =
    if_err _ c.from_residual-in_err-slot.result _ c.from_residual-in_err-slot.ensures.1
    (failed_behind _ _ (Got Tselect c.in_ok-kept.kept ∷ []) _ _ _ _ _ _ _ _ c.reg.ensures.keeps.later c.seek_free.ensures.keeps.later c.in_ok-kept.ensures.made
    (arms_seek c.args.what c.in_ok-kept.kept) c.in_err-slot.ensures.failed)

pub returns-in_err-arm_selected-in-Some-clause-failed : goal.returns-in_err-arm_selected-in-Some-clause-failed
returns-in_err-arm_selected-in-Some-clause-failed g c =
    let d = rw (c.in-Some.is) at c.in_ok-slot.ensures.did in
    if_err _ c.from_residual-in_err-arm_selected-in-Some.result _ c.from_residual-in_err-arm_selected-in-Some.ensures.1
    (failed_behind _ _ (Got Tselect c.in_ok-kept.kept ∷ d.transfers) _ _ _ _ _ _ _ _
    (omega (arith, c.reg.ensures.keeps.later, c.seek_free.ensures.keeps.later)) c.arm_selected.ensures.keeps.later
    (sought_behind c.in_ok-kept.kept c.args.halted.now.number _ _ _ (Some c.in-Some.slot) c.in_ok-kept.ensures.made d)
    (arms_armed c.args.halted.now.version c.args.what c.in_ok-kept.kept c.in-Some.slot d.transfers d.whole) c.in_err-arm_selected-in-Some.ensures.failed)

pub returns-in_err-set_reg-in-Some-clause-failed : goal.returns-in_err-set_reg-in-Some-clause-failed
returns-in_err-set_reg-in-Some-clause-failed g c =
    let d = rw (c.in-Some.is) at c.in_ok-slot.ensures.did in
    let tinfo = tinfo_of c.args.halted.now.version c.args.what c.args.halted.now.number _ _ c.in_ok-arm_selected-in-Some.ensures.did in
    if_err _ c.from_residual-in_err-set_reg-in-Some.result _ c.from_residual-in_err-set_reg-in-Some.ensures.1
    (failed_behind _ _ (Got Tselect c.in_ok-kept.kept ∷ (d.transfers ++ armed c.args.halted.now.version c.args.what tinfo)) _ _ _ _ _ _ _ _
    (omega (arith, c.reg.ensures.keeps.later, c.seek_free.ensures.keeps.later, c.arm_selected.ensures.keeps.later)) c.set_reg.ensures.keeps.later
    (made_then c.args.halted.now.number (Got Tselect c.in_ok-kept.kept ∷ d.transfers) (armed c.args.halted.now.version c.args.what tinfo) _ _ _
    (sought_behind c.in_ok-kept.kept c.args.halted.now.number _ _ _ (Some c.in-Some.slot) c.in_ok-kept.ensures.made d)
    (armed_made c.args.halted.now.version c.args.what c.args.halted.now.number _ _ c.in_ok-arm_selected-in-Some.ensures.did))
    (arms_back c.args.halted.now.version c.args.what c.in_ok-kept.kept c.in-Some.slot tinfo d.transfers d.whole) c.in_err-set_reg-in-Some.ensures.failed)

pub returns-in_err-set_reg-in-None-clause-failed : goal.returns-in_err-set_reg-in-None-clause-failed
returns-in_err-set_reg-in-None-clause-failed g c =
    let d = rw (c.in-None.is) at c.in_ok-slot.ensures.did in
    if_err _ c.from_residual-in_err-set_reg-in-None.result _ c.from_residual-in_err-set_reg-in-None.ensures.1
    (failed_behind _ _ (Got Tselect c.in_ok-kept.kept ∷ d.transfers) _ _ _ _ _ _ _ _
    (omega (arith, c.reg.ensures.keeps.later, c.seek_free.ensures.keeps.later)) c.set_reg-in-None.ensures.keeps.later
    (sought_behind c.in_ok-kept.kept c.args.halted.now.number _ _ _ None c.in_ok-kept.ensures.made d)
    (arms_none c.args.what c.in_ok-kept.kept d.transfers d.whole) c.in_err-set_reg-in-None.ensures.failed)

pub returns-in_ok-set_reg-in-Some-clause-did : goal.returns-in_ok-set_reg-in-Some-clause-did
returns-in_ok-set_reg-in-Some-clause-did g c =
    armed_did c.args.halted.now.version c.args.what c.in_ok-kept.kept c.in-Some.slot c.args.halted.now.number _ _ _ _ _ c.in_ok-kept.ensures.made
    (rw (c.in-Some.is) at c.in_ok-slot.ensures.did) c.in_ok-arm_selected-in-Some.ensures.did c.in_ok-set_reg-in-Some.ensures.made

pub returns-in_ok-set_reg-in-None-clause-did : goal.returns-in_ok-set_reg-in-None-clause-did
returns-in_ok-set_reg-in-None-clause-did g c =
    none_did c.args.halted.now.version c.args.what c.in_ok-kept.kept c.args.halted.now.number _ _ _ _ c.in_ok-kept.ensures.made
    (rw (c.in-None.is) at c.in_ok-slot.ensures.did) c.in_ok-set_reg-in-None.ensures.made

pub returns-in_err-kept-clause-rises : goal.returns-in_err-kept-clause-rises
returns-in_err-kept-clause-rises g c =
    within_more 16 152 _ _ c.reg.ensures.rises (omega arith)

pub returns-in_err-slot-clause-rises : goal.returns-in_err-slot-clause-rises
returns-in_err-slot-clause-rises g c =
    within_then 16 96 152 _ (g.D.Dmi.seen c.reg.new.link) _ c.reg.ensures.rises c.seek_free.ensures.rises
    c.reg.ensures.keeps.fixed (omega arith)

pub returns-in_err-arm_selected-in-Some-clause-rises : goal.returns-in_err-arm_selected-in-Some-clause-rises
returns-in_err-arm_selected-in-Some-clause-rises g c =
    within_then 112 32 152 _ (g.D.Dmi.seen c.seek_free.new.link) _ (within_then 16 96 112 _ (g.D.Dmi.seen c.reg.new.link) _ c.reg.ensures.rises c.seek_free.ensures.rises
    c.reg.ensures.keeps.fixed (omega arith)) c.arm_selected.ensures.rises
    (c.seek_free.ensures.keeps.fixed ∙ c.reg.ensures.keeps.fixed) (omega arith)

pub returns-in_err-set_reg-in-Some-clause-rises : goal.returns-in_err-set_reg-in-Some-clause-rises
returns-in_err-set_reg-in-Some-clause-rises g c =
    within_then 144 8 152 _ (g.D.Dmi.seen c.arm_selected.new.link) _ (within_then 112 32 144 _ (g.D.Dmi.seen c.seek_free.new.link) _ (within_then 16 96 112 _ (g.D.Dmi.seen c.reg.new.link) _ c.reg.ensures.rises c.seek_free.ensures.rises
    c.reg.ensures.keeps.fixed (omega arith)) c.arm_selected.ensures.rises
    (c.seek_free.ensures.keeps.fixed ∙ c.reg.ensures.keeps.fixed) (omega arith)) c.set_reg.ensures.rises
    (c.arm_selected.ensures.keeps.fixed ∙ c.seek_free.ensures.keeps.fixed ∙ c.reg.ensures.keeps.fixed) (omega arith)

pub returns-in_ok-set_reg-in-Some-clause-rises : goal.returns-in_ok-set_reg-in-Some-clause-rises
returns-in_ok-set_reg-in-Some-clause-rises g c =
    within_then 144 8 152 _ (g.D.Dmi.seen c.arm_selected.new.link) _ (within_then 112 32 144 _ (g.D.Dmi.seen c.seek_free.new.link) _ (within_then 16 96 112 _ (g.D.Dmi.seen c.reg.new.link) _ c.reg.ensures.rises c.seek_free.ensures.rises
    c.reg.ensures.keeps.fixed (omega arith)) c.arm_selected.ensures.rises
    (c.seek_free.ensures.keeps.fixed ∙ c.reg.ensures.keeps.fixed) (omega arith)) c.set_reg.ensures.rises
    (c.arm_selected.ensures.keeps.fixed ∙ c.seek_free.ensures.keeps.fixed ∙ c.reg.ensures.keeps.fixed) (omega arith)

pub returns-in_err-set_reg-in-None-clause-rises : goal.returns-in_err-set_reg-in-None-clause-rises
returns-in_err-set_reg-in-None-clause-rises g c =
    within_then 112 8 152 _ (g.D.Dmi.seen c.seek_free.new.link) _ (within_then 16 96 112 _ (g.D.Dmi.seen c.reg.new.link) _ c.reg.ensures.rises c.seek_free.ensures.rises
    c.reg.ensures.keeps.fixed (omega arith)) c.set_reg-in-None.ensures.rises
    (c.seek_free.ensures.keeps.fixed ∙ c.reg.ensures.keeps.fixed) (omega arith)

pub returns-in_ok-set_reg-in-None-clause-rises : goal.returns-in_ok-set_reg-in-None-clause-rises
returns-in_ok-set_reg-in-None-clause-rises g c =
    within_then 112 8 152 _ (g.D.Dmi.seen c.seek_free.new.link) _ (within_then 16 96 112 _ (g.D.Dmi.seen c.reg.new.link) _ c.reg.ensures.rises c.seek_free.ensures.rises
    c.reg.ensures.keeps.fixed (omega arith)) c.set_reg-in-None.ensures.rises
    (c.seek_free.ensures.keeps.fixed ∙ c.reg.ensures.keeps.fixed) (omega arith)

pub returns-in_err-kept-clause-refuses : goal.returns-in_err-kept-clause-refuses
returns-in_err-kept-clause-refuses g c =
    if_err _ c.from_residual.result _ c.from_residual.ensures.1
    (of_tselect _ c.in_err-kept.ensures.refuses)

pub returns-in_err-slot-clause-refuses : goal.returns-in_err-slot-clause-refuses
returns-in_err-slot-clause-refuses g c =
    if_err _ c.from_residual-in_err-slot.result _ c.from_residual-in_err-slot.ensures.1
    (c.in_err-slot.ensures.refuses)

pub returns-in_err-arm_selected-in-Some-clause-refuses : goal.returns-in_err-arm_selected-in-Some-clause-refuses
returns-in_err-arm_selected-in-Some-clause-refuses g c =
    if_err _ c.from_residual-in_err-arm_selected-in-Some.result _ c.from_residual-in_err-arm_selected-in-Some.ensures.1
    (c.in_err-arm_selected-in-Some.ensures.refuses)

pub returns-in_err-set_reg-in-Some-clause-refuses : goal.returns-in_err-set_reg-in-Some-clause-refuses
returns-in_err-set_reg-in-Some-clause-refuses g c =
    if_err _ c.from_residual-in_err-set_reg-in-Some.result _ c.from_residual-in_err-set_reg-in-Some.ensures.1
    (of_tselect _ c.in_err-set_reg-in-Some.ensures.refuses)

pub returns-in_err-set_reg-in-None-clause-refuses : goal.returns-in_err-set_reg-in-None-clause-refuses
returns-in_err-set_reg-in-None-clause-refuses g c =
    if_err _ c.from_residual-in_err-set_reg-in-None.result _ c.from_residual-in_err-set_reg-in-None.ensures.1
    (of_tselect _ c.in_err-set_reg-in-None.ensures.refuses)

pub returns-in_err-slot-clause-never : goal.returns-in_err-slot-clause-never
returns-in_err-slot-clause-never g c =
    if_err (NeverLost (g.D.Dmi.seen c.args.link.now)) c.from_residual-in_err-slot.result _ c.from_residual-in_err-slot.ensures.1
    (lost_then _ (g.D.Dmi.seen c.args.link.now) (g.D.Dmi.seen c.reg.new.link) c.in_err-slot.field-0.0 c.reg.ensures.rises c.in_err-slot.ensures.never)

pub returns-in_err-arm_selected-in-Some-clause-never : goal.returns-in_err-arm_selected-in-Some-clause-never
returns-in_err-arm_selected-in-Some-clause-never g c =
    if_err (NeverLost (g.D.Dmi.seen c.args.link.now)) c.from_residual-in_err-arm_selected-in-Some.result _
    c.from_residual-in_err-arm_selected-in-Some.ensures.1
    (lost_then _ (g.D.Dmi.seen c.args.link.now) (g.D.Dmi.seen c.reg.new.link) c.in_err-arm_selected-in-Some.field-0.0 c.reg.ensures.rises
    (lost_then _ (g.D.Dmi.seen c.reg.new.link) (g.D.Dmi.seen c.seek_free.new.link) c.in_err-arm_selected-in-Some.field-0.0 c.seek_free.ensures.rises
    c.in_err-arm_selected-in-Some.ensures.never))

pub returns-in_err-set_reg-in-Some-clause-never : goal.returns-in_err-set_reg-in-Some-clause-never
returns-in_err-set_reg-in-Some-clause-never g c =
    if_err (NeverLost (g.D.Dmi.seen c.args.link.now)) c.from_residual-in_err-set_reg-in-Some.result _ c.from_residual-in_err-set_reg-in-Some.ensures.1
    (lost_then _ (g.D.Dmi.seen c.args.link.now) (g.D.Dmi.seen c.reg.new.link) c.in_err-set_reg-in-Some.field-0.0 c.reg.ensures.rises
    (lost_then _ (g.D.Dmi.seen c.reg.new.link) (g.D.Dmi.seen c.seek_free.new.link) c.in_err-set_reg-in-Some.field-0.0 c.seek_free.ensures.rises
    (lost_then _ (g.D.Dmi.seen c.seek_free.new.link) (g.D.Dmi.seen c.arm_selected.new.link) c.in_err-set_reg-in-Some.field-0.0 c.arm_selected.ensures.rises
    c.in_err-set_reg-in-Some.ensures.never)))

pub returns-in_err-set_reg-in-None-clause-never : goal.returns-in_err-set_reg-in-None-clause-never
returns-in_err-set_reg-in-None-clause-never g c =
    if_err (NeverLost (g.D.Dmi.seen c.args.link.now)) c.from_residual-in_err-set_reg-in-None.result _ c.from_residual-in_err-set_reg-in-None.ensures.1
    (lost_then _ (g.D.Dmi.seen c.args.link.now) (g.D.Dmi.seen c.reg.new.link) c.in_err-set_reg-in-None.field-0.0 c.reg.ensures.rises
    (lost_then _ (g.D.Dmi.seen c.reg.new.link) (g.D.Dmi.seen c.seek_free.new.link) c.in_err-set_reg-in-None.field-0.0 c.seek_free.ensures.rises
    c.in_err-set_reg-in-None.ensures.never))
