use Rattle.debug_model.proofs.RiseLemmas.{within_more, within_then}
use Rattle.std.proofs.Common.{[], ◌∷◌, arith}
use Rattle.probe_trig.specs.declared.register.TriggerRegister.TheVariants.{Dcsr}
use Rattle.probe_trig.specs.Transfers.Transfer.{Got}
use Rattle.probe_trig.proofs.Calls.{changed_any}
use Rattle.probe_trig.proofs.EndFits.{ends_changes, ends_did, ends_word}
use Rattle.probe_run.proofs.ActLemmas.{if_err}
use Rattle.probe_trig.proofs.TransferLemmas.{failed_behind, failed_first}
use Rattle.probe_access.specs.Never.{NeverLost}
use Rattle.probe_access.proofs.NeverLemmas.{lost_then}
use Rattle.probe_trig.proofs.stepping.put_back.Goals as goal

pub returns-in_err-word-clause-failed : goal.returns-in_err-word-clause-failed
returns-in_err-word-clause-failed g c =
    if_err _ c.from_residual.result _ c.from_residual.ensures.1 (failed_first _ _ _ _ _ _ _ _ ends_word c.in_err-word.ensures.failed)

pub returns-in_err-_some-clause-failed : goal.returns-in_err-_some-clause-failed
returns-in_err-_some-clause-failed g c =
    if_err _ c.from_residual-in_err-_some.result _ c.from_residual-in_err-_some.ensures.1
    (failed_behind _ _ (Got Dcsr c.in_ok-word.word ∷ []) _ _ _ _ _ _ _ _ c.reg.ensures.keeps.later c.change_hits.ensures.keeps.later c.in_ok-word.ensures.made
    (ends_changes c.shows_step-executed.result c.in_ok-word.word c.shows_step-executed.ensures) (rw (c.ending.ensures) at c.in_err-_some.ensures.failed))

pub returns-clause-did : goal.returns-clause-did
returns-clause-did g c =
    ends_did c.shows_step-executed.result c.in_ok-word.word c.args.halted.now.number _ _ _ c.shows_step-executed.ensures c.in_ok-word.ensures.made
    (changed_any _ _ c.args.halted.now.number _ _ (rw (c.ending.ensures) at c.in_ok-_some.ensures.did))

pub returns-in_err-word-clause-rises : goal.returns-in_err-word-clause-rises
returns-in_err-word-clause-rises g c =
    within_more 16 168 _ _ c.reg.ensures.rises (omega arith)

pub returns-in_err-_some-clause-rises : goal.returns-in_err-_some-clause-rises
returns-in_err-_some-clause-rises g c =
    within_then 16 152 168 _ (g.D.Dmi.seen c.reg.new.link) _ c.reg.ensures.rises c.change_hits.ensures.rises
    c.reg.ensures.keeps.fixed (omega arith)

pub returns-clause-rises : goal.returns-clause-rises
returns-clause-rises g c =
    within_then 16 152 168 _ (g.D.Dmi.seen c.reg.new.link) _ c.reg.ensures.rises c.change_hits.ensures.rises
    c.reg.ensures.keeps.fixed (omega arith)

pub returns-in_err-_some-clause-never : goal.returns-in_err-_some-clause-never
returns-in_err-_some-clause-never g c =
    if_err (NeverLost (g.D.Dmi.seen c.args.link.now)) c.from_residual-in_err-_some.result _ c.from_residual-in_err-_some.ensures.1
    (lost_then _ (g.D.Dmi.seen c.args.link.now) (g.D.Dmi.seen c.reg.new.link) c.in_err-_some.field-0.0 c.reg.ensures.rises c.in_err-_some.ensures.never)
