use Rattle.debug_model.proofs.RiseLemmas.{within_more, within_then}
use Rattle.std.proofs.Common.{[], ◌∷◌, arith}
use Rattle.probe_trig.specs.declared.register.TriggerRegister.TheVariants.{Tdata2}
use Rattle.probe_trig.specs.Runs.{word_read}
use Rattle.probe_trig.specs.Transfers.Transfer.{Got}
use Rattle.probe_trig.proofs.Fitting.{slot_gets, slot_words}
use Rattle.probe_run.proofs.ActLemmas.{if_err}
use Rattle.probe_trig.proofs.TransferLemmas.{failed_behind, failed_first, made_then}
use Rattle.probe_access.specs.Never.{NeverLost}
use Rattle.probe_access.proofs.NeverLemmas.{lost_then}
use Rattle.probe_trig.proofs.viewing.read_slot.Goals as goal

pub returns-in_err-tdata1-clause-failed : goal.returns-in_err-tdata1-clause-failed
returns-in_err-tdata1-clause-failed g c =
    if_err _ c.from_residual.result _ c.from_residual.ensures.1 (failed_first _ _ _ _ _ _ _ _ (slot_words c.args.slot) c.in_err-tdata1.ensures.failed)

pub returns-in_err-tdata2-clause-failed : goal.returns-in_err-tdata2-clause-failed
returns-in_err-tdata2-clause-failed g c =
    if_err _ c.from_residual-in_err-tdata2.result _ c.from_residual-in_err-tdata2.ensures.1
    (failed_behind _ _ (word_read c.args.slot c.in_ok-tdata1.tdata1) _ _ _ _ _ _ _ _ c.read_word.ensures.keeps.later c.reg.ensures.keeps.later
    c.in_ok-tdata1.ensures.made (slot_gets c.args.slot c.in_ok-tdata1.tdata1) c.in_err-tdata2.ensures.failed)

pub returns-clause-made : goal.returns-clause-made
returns-clause-made g c =
    made_then c.args.halted.now.number (word_read c.args.slot c.in_ok-tdata1.tdata1)
    (Got Tdata2 c.in_ok-tdata2.tdata2 ∷ []) _ _ _ c.in_ok-tdata1.ensures.made c.in_ok-tdata2.ensures.made

pub returns-in_err-tdata1-clause-rises : goal.returns-in_err-tdata1-clause-rises
returns-in_err-tdata1-clause-rises g c =
    within_more 24 40 _ _ c.read_word.ensures.rises (omega arith)

pub returns-in_err-tdata2-clause-rises : goal.returns-in_err-tdata2-clause-rises
returns-in_err-tdata2-clause-rises g c =
    within_then 24 16 40 _ (g.D.Dmi.seen c.read_word.new.link) _ c.read_word.ensures.rises c.reg.ensures.rises
    c.read_word.ensures.keeps.fixed (omega arith)

pub returns-clause-rises : goal.returns-clause-rises
returns-clause-rises g c =
    within_then 24 16 40 _ (g.D.Dmi.seen c.read_word.new.link) _ c.read_word.ensures.rises c.reg.ensures.rises
    c.read_word.ensures.keeps.fixed (omega arith)

pub returns-in_err-tdata2-clause-never : goal.returns-in_err-tdata2-clause-never
returns-in_err-tdata2-clause-never g c =
    if_err (NeverLost (g.D.Dmi.seen c.args.link.now)) c.from_residual-in_err-tdata2.result _ c.from_residual-in_err-tdata2.ensures.1
    (lost_then _ (g.D.Dmi.seen c.args.link.now) (g.D.Dmi.seen c.read_word.new.link) c.in_err-tdata2.field-0.0 c.read_word.ensures.rises
    c.in_err-tdata2.ensures.never)
