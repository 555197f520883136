use Rattle.debug_model.proofs.RiseLemmas.{within_more, within_then}
use Rattle.std.proofs.Common.{◌∙◌, sym, arith}
use Rattle.probe_trig.specs.Runs.{word_read}
use Rattle.probe_trig.proofs.Fitting.{changed_sets, changed_words, changed_made, unchanged_made}
use Rattle.probe_run.proofs.ActLemmas.{if_err}
use Rattle.probe_trig.proofs.TransferLemmas.{failed_behind, failed_first}
use Rattle.probe_access.specs.Never.{NeverLost}
use Rattle.probe_access.proofs.NeverLemmas.{lost_then}
use Rattle.probe_trig.proofs.rewriting.change_slot.Goals as goal

pub returns-in_err-tdata1-clause-failed : goal.returns-in_err-tdata1-clause-failed
returns-in_err-tdata1-clause-failed g c =
    if_err _ c.from_residual.result _ c.from_residual.ensures.1
    (failed_first _ _ _ _ _ _ _ _ (changed_words c.args.change c.args.slot) c.in_err-tdata1.ensures.failed)

pub returns-in_err-set_reg-clause-failed : goal.returns-in_err-set_reg-clause-failed
returns-in_err-set_reg-clause-failed g c =
    if_err _ c.from_residual-in_err-set_reg.result _ c.from_residual-in_err-set_reg.ensures.1
    (failed_behind _ _ (word_read c.args.slot c.in_ok-tdata1.tdata1) _ _ _ _ _ _ _ _ c.read_word.ensures.keeps.later c.set_reg.ensures.keeps.later
    c.in_ok-tdata1.ensures.made
    (changed_sets c.args.change c.args.slot c.in_ok-tdata1.tdata1 (sym c.shows_hit.ensures ∙ c.if-not-shows_hit.false))
    (rw (c.of_word.ensures) at c.in_err-set_reg.ensures.failed))

pub returns-then-not-shows_hit-clause-made : goal.returns-then-not-shows_hit-clause-made
returns-then-not-shows_hit-clause-made g c =
    unchanged_made c.args.change c.args.slot c.in_ok-tdata1.tdata1 c.args.halted.now.number _ _
    (sym c.shows_hit.ensures ∙ c.if-not-shows_hit.true) c.in_ok-tdata1.ensures.made

pub returns-clause-made : goal.returns-clause-made
returns-clause-made g c =
    changed_made c.args.change c.args.slot c.in_ok-tdata1.tdata1 c.args.halted.now.number _ _ _
    (sym c.shows_hit.ensures ∙ c.if-not-shows_hit.false) c.in_ok-tdata1.ensures.made (rw (c.of_word.ensures) at c.in_ok-set_reg.ensures.made)

pub returns-in_err-tdata1-clause-rises : goal.returns-in_err-tdata1-clause-rises
returns-in_err-tdata1-clause-rises g c =
    within_more 24 32 _ _ c.read_word.ensures.rises (omega arith)

pub returns-then-not-shows_hit-clause-rises : goal.returns-then-not-shows_hit-clause-rises
returns-then-not-shows_hit-clause-rises g c =
    within_more 24 32 _ _ c.read_word.ensures.rises (omega arith)

pub returns-in_err-set_reg-clause-rises : goal.returns-in_err-set_reg-clause-rises
returns-in_err-set_reg-clause-rises g c =
    within_then 24 8 32 _ (g.D.Dmi.seen c.read_word.new.link) _ c.read_word.ensures.rises c.set_reg.ensures.rises
    c.read_word.ensures.keeps.fixed (omega arith)

pub returns-clause-rises : goal.returns-clause-rises
returns-clause-rises g c =
    within_then 24 8 32 _ (g.D.Dmi.seen c.read_word.new.link) _ c.read_word.ensures.rises c.set_reg.ensures.rises
    c.read_word.ensures.keeps.fixed (omega arith)

pub returns-in_err-set_reg-clause-never : goal.returns-in_err-set_reg-clause-never
returns-in_err-set_reg-clause-never g c =
    if_err (NeverLost (g.D.Dmi.seen c.args.link.now)) c.from_residual-in_err-set_reg.result _ c.from_residual-in_err-set_reg.ensures.1
    (lost_then _ (g.D.Dmi.seen c.args.link.now) (g.D.Dmi.seen c.read_word.new.link) c.in_err-set_reg.field-0.0 c.read_word.ensures.rises
    c.in_err-set_reg.ensures.never)
