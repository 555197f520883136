use Rattle.debug_model.proofs.RiseLemmas.{within_none}
use Rattle.probe_trig.proofs.Refusals.{of_tdata2}
use Rattle.probe_run.proofs.ActLemmas.{if_err}
use Rattle.std.proofs.Common.{◌∙◌, sym, refl}
use Rattle.probe_trig.proofs.ArmFits.{no_address_done}
use Rattle.probe_trig.proofs.arming.set_address.Goals as goal

pub returns-in-None-clause-made : goal.returns-in-None-clause-made
returns-in-None-clause-made g c = no_address_done c.args.what c.args.halted.now.number _ (sym c.address_of.ensures ∙ c.in-None.is)

pub returns-in-None-clause-rises : goal.returns-in-None-clause-rises
returns-in-None-clause-rises g c =
    within_none 8 _ _ refl

pub returns-in_err-set_reg-in-Some-clause-refuses : goal.returns-in_err-set_reg-in-Some-clause-refuses
returns-in_err-set_reg-in-Some-clause-refuses g c =
    if_err _ c.from_residual.result _ c.from_residual.ensures.1
    (of_tdata2 _ c.in_err-set_reg-in-Some.ensures.refuses)
