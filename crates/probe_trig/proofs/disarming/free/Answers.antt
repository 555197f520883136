use Rattle.debug_model.proofs.RiseLemmas.{within_more, within_then}
use Rattle.std.proofs.Common.{[], ◌∷◌, ◌++◌, ◌∙◌, false, refl, sym, arith}
use Rattle.probe_trig.specs.declared.register.TriggerRegister.TheVariants.{Tselect}
use Rattle.probe_trig.specs.Runs.{freed, put_back, word_read}
use Rattle.probe_trig.specs.Transfers.Transfer.{Got}
use Rattle.probe_trig.proofs.ArmFits.{frees_back, frees_keep, frees_none, frees_set, frees_word}
use Rattle.probe_run.proofs.ActLemmas.{if_err}
use Rattle.probe_trig.proofs.TransferLemmas.{failed_behind, failed_first, made_then}
use Rattle.probe_access.specs.Never.{NeverLost}
use Rattle.probe_access.proofs.NeverLemmas.{lost_then}
use Rattle.probe_trig.proofs.disarming.free.Goals as goal

pub returns-in_err-kept-clause-failed : goal.returns-in_err-kept-clause-failed
returns-in_err-kept-clause-failed g c =
    if_err _ c.from_residual.result _ c.from_residual.ensures.1 (failed_first _ _ _ _ _ _ _ _ (frees_keep c.args.slot) c.in_err-kept.ensures.failed)

pub returns-in_err-tdata1-clause-failed : goal.returns-in_err-tdata1-clause-failed
returns-in_err-tdata1-clause-failed g c =
    if_err _ c.from_residual-in_err-tdata1.result _ c.from_residual-in_err-tdata1.ensures.1
    (failed_behind _ _ (Got Tselect c.in_ok-kept.kept ∷ []) _ _ _ _ _ _ _ _ c.reg.ensures.keeps.later c.read_word.ensures.keeps.later c.in_ok-kept.ensures.made
    (frees_word c.args.slot c.in_ok-kept.kept) c.in_err-tdata1.ensures.failed)

pub returns-in_err-set_reg-clause-failed : goal.returns-in_err-set_reg-clause-failed
returns-in_err-set_reg-clause-failed g c =
    if_err _ c.from_residual-in_err-set_reg.result _ c.from_residual-in_err-set_reg.ensures.1
    (failed_behind _ _ (Got Tselect c.in_ok-kept.kept ∷ word_read c.args.slot c.in_ok-tdata1.tdata1) _ _ _ _ _ _ _ _
    (omega (arith, c.reg.ensures.keeps.later, c.read_word.ensures.keeps.later)) c.set_reg.ensures.keeps.later
    (made_then c.args.halted.now.number (Got Tselect c.in_ok-kept.kept ∷ [])
    (word_read c.args.slot c.in_ok-tdata1.tdata1) _ _ _ c.in_ok-kept.ensures.made c.in_ok-tdata1.ensures.made)
    (frees_none c.args.slot c.in_ok-kept.kept c.in_ok-tdata1.tdata1 (sym c.shows_free.ensures ∙ c.if-shows_free.true)) c.in_err-set_reg.ensures.failed)

pub returns-then-shows_free-clause-did : goal.returns-then-shows_free-clause-did
returns-then-shows_free-clause-did g c = record {
  transfers = Got Tselect c.in_ok-kept.kept ∷ (word_read c.args.slot c.in_ok-tdata1.tdata1 ++ put_back c.in_ok-kept.kept);
  whole = record { kept = c.in_ok-kept.kept; tdata1 = c.in_ok-tdata1.tdata1; shows = sym c.shows_free.ensures ∙ c.if-shows_free.true; is = refl };
  made = made_then c.args.halted.now.number (Got Tselect c.in_ok-kept.kept ∷ [])
      (word_read c.args.slot c.in_ok-tdata1.tdata1 ++ put_back c.in_ok-kept.kept) _ _ _ c.in_ok-kept.ensures.made
      (made_then c.args.halted.now.number (word_read c.args.slot c.in_ok-tdata1.tdata1)
      (put_back c.in_ok-kept.kept) _ _ _ c.in_ok-tdata1.ensures.made c.in_ok-set_reg.ensures.made);
}

pub returns-in_err-set_reg-2-clause-failed : goal.returns-in_err-set_reg-2-clause-failed
returns-in_err-set_reg-2-clause-failed g c =
    if_err _ c.from_residual-in_err-set_reg-2.result _ c.from_residual-in_err-set_reg-2.ensures.1
    (failed_behind _ _ (Got Tselect c.in_ok-kept.kept ∷ word_read c.args.slot c.in_ok-tdata1.tdata1) _ _ _ _ _ _ _ _
    (omega (arith, c.reg.ensures.keeps.later, c.read_word.ensures.keeps.later)) c.set_reg-2.ensures.keeps.later
    (made_then c.args.halted.now.number (Got Tselect c.in_ok-kept.kept ∷ [])
    (word_read c.args.slot c.in_ok-tdata1.tdata1) _ _ _ c.in_ok-kept.ensures.made c.in_ok-tdata1.ensures.made)
    (frees_set c.args.slot c.in_ok-kept.kept c.in_ok-tdata1.tdata1 (sym c.shows_free.ensures ∙ c.if-shows_free.false))
    c.in_err-set_reg-2.ensures.failed)

pub returns-in_err-set_reg-3-clause-failed : goal.returns-in_err-set_reg-3-clause-failed
returns-in_err-set_reg-3-clause-failed g c =
    if_err _ c.from_residual-in_err-set_reg-3.result _ c.from_residual-in_err-set_reg-3.ensures.1
    (failed_behind _ _ (Got Tselect c.in_ok-kept.kept ∷ (word_read c.args.slot c.in_ok-tdata1.tdata1 ++ freed false)) _ _ _ _ _ _ _ _
    (omega (arith, c.reg.ensures.keeps.later, c.read_word.ensures.keeps.later, c.set_reg-2.ensures.keeps.later)) c.set_reg-3.ensures.keeps.later
    (made_then c.args.halted.now.number (Got Tselect c.in_ok-kept.kept ∷ [])
    (word_read c.args.slot c.in_ok-tdata1.tdata1 ++ freed false) _ _ _ c.in_ok-kept.ensures.made
    (made_then c.args.halted.now.number (word_read c.args.slot c.in_ok-tdata1.tdata1) (freed false) _ _ _ c.in_ok-tdata1.ensures.made
    c.in_ok-set_reg-2.ensures.made))
    (frees_back c.args.slot c.in_ok-kept.kept c.in_ok-tdata1.tdata1 (sym c.shows_free.ensures ∙ c.if-shows_free.false)) c.in_err-set_reg-3.ensures.failed)

pub returns-clause-did : goal.returns-clause-did
returns-clause-did g c = record {
  transfers = Got Tselect c.in_ok-kept.kept ∷ (word_read c.args.slot c.in_ok-tdata1.tdata1 ++ (freed false ++ put_back c.in_ok-kept.kept));
  whole = record { kept = c.in_ok-kept.kept; tdata1 = c.in_ok-tdata1.tdata1; shows = sym c.shows_free.ensures ∙ c.if-shows_free.false; is = refl };
  made = made_then c.args.halted.now.number (Got Tselect c.in_ok-kept.kept ∷ [])
      (word_read c.args.slot c.in_ok-tdata1.tdata1 ++ (freed false ++ put_back c.in_ok-kept.kept)) _ _ _ c.in_ok-kept.ensures.made
      (made_then c.args.halted.now.number (word_read c.args.slot c.in_ok-tdata1.tdata1)
      (freed false ++ put_back c.in_ok-kept.kept) _ _ _ c.in_ok-tdata1.ensures.made
      (made_then c.args.halted.now.number (freed false) (put_back c.in_ok-kept.kept) _ _ _
      c.in_ok-set_reg-2.ensures.made c.in_ok-set_reg-3.ensures.made));
}

pub returns-in_err-kept-clause-rises : goal.returns-in_err-kept-clause-rises
returns-in_err-kept-clause-rises g c =
    within_more 16 56 _ _ c.reg.ensures.rises (omega arith)

pub returns-in_err-tdata1-clause-rises : goal.returns-in_err-tdata1-clause-rises
returns-in_err-tdata1-clause-rises g c =
    within_then 16 24 56 _ (g.D.Dmi.seen c.reg.new.link) _ c.reg.ensures.rises c.read_word.ensures.rises
    c.reg.ensures.keeps.fixed (omega arith)

pub returns-in_err-set_reg-clause-rises : goal.returns-in_err-set_reg-clause-rises
returns-in_err-set_reg-clause-rises g c =
    within_then 40 8 56 _ (g.D.Dmi.seen c.read_word.new.link) _ (within_then 16 24 40 _ (g.D.Dmi.seen c.reg.new.link) _ c.reg.ensures.rises c.read_word.ensures.rises
    c.reg.ensures.keeps.fixed (omega arith)) c.set_reg.ensures.rises
    (c.read_word.ensures.keeps.fixed ∙ c.reg.ensures.keeps.fixed) (omega arith)

pub returns-then-shows_free-clause-rises : goal.returns-then-shows_free-clause-rises
returns-then-shows_free-clause-rises g c =
    within_then 40 8 56 _ (g.D.Dmi.seen c.read_word.new.link) _ (within_then 16 24 40 _ (g.D.Dmi.seen c.reg.new.link) _ c.reg.ensures.rises c.read_word.ensures.rises
    c.reg.ensures.keeps.fixed (omega arith)) c.set_reg.ensures.rises
    (c.read_word.ensures.keeps.fixed ∙ c.reg.ensures.keeps.fixed) (omega arith)

pub returns-in_err-set_reg-2-clause-rises : goal.returns-in_err-set_reg-2-clause-rises
returns-in_err-set_reg-2-clause-rises g c =
    within_then 40 8 56 _ (g.D.Dmi.seen c.read_word.new.link) _ (within_then 16 24 40 _ (g.D.Dmi.seen c.reg.new.link) _ c.reg.ensures.rises c.read_word.ensures.rises
    c.reg.ensures.keeps.fixed (omega arith)) c.set_reg-2.ensures.rises
    (c.read_word.ensures.keeps.fixed ∙ c.reg.ensures.keeps.fixed) (omega arith)

pub returns-in_err-set_reg-3-clause-rises : goal.returns-in_err-set_reg-3-clause-rises
returns-in_err-set_reg-3-clause-rises g c =
    within_then 48 8 56 _ (g.D.Dmi.seen c.set_reg-2.new.link) _ (within_then 40 8 48 _ (g.D.Dmi.seen c.read_word.new.link) _ (within_then 16 24 40 _ (g.D.Dmi.seen c.reg.new.link) _ c.reg.ensures.rises c.read_word.ensures.rises
    c.reg.ensures.keeps.fixed (omega arith)) c.set_reg-2.ensures.rises
    (c.read_word.ensures.keeps.fixed ∙ c.reg.ensures.keeps.fixed) (omega arith)) c.set_reg-3.ensures.rises
    (c.set_reg-2.ensures.keeps.fixed ∙ c.read_word.ensures.keeps.fixed ∙ c.reg.ensures.keeps.fixed) (omega arith)

pub returns-clause-rises : goal.returns-clause-rises
returns-clause-rises g c =
    within_then 48 8 56 _ (g.D.Dmi.seen c.set_reg-2.new.link) _ (within_then 40 8 48 _ (g.D.Dmi.seen c.read_word.new.link) _ (within_then 16 24 40 _ (g.D.Dmi.seen c.reg.new.link) _ c.reg.ensures.rises c.read_word.ensures.rises
    c.reg.ensures.keeps.fixed (omega arith)) c.set_reg-2.ensures.rises
    (c.read_word.ensures.keeps.fixed ∙ c.reg.ensures.keeps.fixed) (omega arith)) c.set_reg-3.ensures.rises
    (c.set_reg-2.ensures.keeps.fixed ∙ c.read_word.ensures.keeps.fixed ∙ c.reg.ensures.keeps.fixed) (omega arith)

pub returns-in_err-tdata1-clause-never : goal.returns-in_err-tdata1-clause-never
returns-in_err-tdata1-clause-never g c =
    if_err (NeverLost (g.D.Dmi.seen c.args.link.now)) c.from_residual-in_err-tdata1.result _ c.from_residual-in_err-tdata1.ensures.1
    (lost_then _ (g.D.Dmi.seen c.args.link.now) (g.D.Dmi.seen c.reg.new.link) c.in_err-tdata1.field-0.0 c.reg.ensures.rises c.in_err-tdata1.ensures.never)

pub returns-in_err-set_reg-clause-never : goal.returns-in_err-set_reg-clause-never
returns-in_err-set_reg-clause-never g c =
    if_err (NeverLost (g.D.Dmi.seen c.args.link.now)) c.from_residual-in_err-set_reg.result _ c.from_residual-in_err-set_reg.ensures.1
    (lost_then _ (g.D.Dmi.seen c.args.link.now) (g.D.Dmi.seen c.reg.new.link) c.in_err-set_reg.field-0.0 c.reg.ensures.rises
    (lost_then _ (g.D.Dmi.seen c.reg.new.link) (g.D.Dmi.seen c.read_word.new.link) c.in_err-set_reg.field-0.0 c.read_word.ensures.rises
    c.in_err-set_reg.ensures.never))

pub returns-in_err-set_reg-2-clause-never : goal.returns-in_err-set_reg-2-clause-never
returns-in_err-set_reg-2-clause-never g c =
    if_err (NeverLost (g.D.Dmi.seen c.args.link.now)) c.from_residual-in_err-set_reg-2.result _ c.from_residual-in_err-set_reg-2.ensures.1
    (lost_then _ (g.D.Dmi.seen c.args.link.now) (g.D.Dmi.seen c.reg.new.link) c.in_err-set_reg-2.field-0.0 c.reg.ensures.rises
    (lost_then _ (g.D.Dmi.seen c.reg.new.link) (g.D.Dmi.seen c.read_word.new.link) c.in_err-set_reg-2.field-0.0 c.read_word.ensures.rises
    c.in_err-set_reg-2.ensures.never))

pub returns-in_err-set_reg-3-clause-never : goal.returns-in_err-set_reg-3-clause-never
returns-in_err-set_reg-3-clause-never g c =
    if_err (NeverLost (g.D.Dmi.seen c.args.link.now)) c.from_residual-in_err-set_reg-3.result _ c.from_residual-in_err-set_reg-3.ensures.1
    (lost_then _ (g.D.Dmi.seen c.args.link.now) (g.D.Dmi.seen c.reg.new.link) c.in_err-set_reg-3.field-0.0 c.reg.ensures.rises
    (lost_then _ (g.D.Dmi.seen c.reg.new.link) (g.D.Dmi.seen c.read_word.new.link) c.in_err-set_reg-3.field-0.0 c.read_word.ensures.rises
    (lost_then _ (g.D.Dmi.seen c.read_word.new.link) (g.D.Dmi.seen c.set_reg-2.new.link) c.in_err-set_reg-3.field-0.0 c.set_reg-2.ensures.rises
    c.in_err-set_reg-3.ensures.never)))
