use Rattle.debug_model.proofs.RiseLemmas.{within_more, within_none, within_then}
use Rattle.std.proofs.Common.{◌∙◌, refl, sym, arith, ◌+◌, ◌*◌}
use Rattle.probe_trig.specs.Runs.{words_read}
use Rattle.probe_trig.proofs.ArmFits.{seeks_word, sought_all, sought_found, sought_more, sought_none}
use Rattle.probe_run.proofs.ActLemmas.{if_err}
use Rattle.probe_trig.proofs.TransferLemmas.{failed_behind}
use Rattle.probe_access.specs.Never.{NeverLost}
use Rattle.probe_access.proofs.NeverLemmas.{lost_then}
use Rattle.probe_trig.proofs.arming.seek_free.Goals as goal

pub seeking-init : goal.seeking-init
seeking-init g c = record {
  sought = sought_none _ _;
  callable = c.requires.callable;
  serving = c.requires.serving;
  rises = within_none 0 _ _ refl;
  stands = λ h. absurd (omega arith);
  later = omega arith;
  fixed = refl;
}

pub seeking-preserved : goal.seeking-preserved
seeking-preserved g c = let b = c.in_ok-tdata1.ensures.keeps.behind in record {
  sought = sought_more _ c.seeking.slot c.in_ok-tdata1.tdata1 _ _ _ c.seeking.invariant.sought c.in_ok-tdata1.ensures.made
      (sym c.shows_free.ensures ∙ c.if-shows_free.false);
  callable = record { alive = b.alive; link = b.link };
  serving = c.in_ok-tdata1.ensures.serving;
  rises = within_then (24 * c.seeking.slot) 24 (24 * (c.seeking.slot + 1)) _ (g.D.Dmi.seen c.seeking.link) _ c.seeking.invariant.rises
      c.read_word.ensures.rises c.seeking.invariant.fixed (omega arith);
  stands = λ h. b;
  later = omega (arith, c.seeking.invariant.later, c.read_word.ensures.keeps.later);
  fixed = c.read_word.ensures.keeps.fixed ∙ c.seeking.invariant.fixed;
}

pub returns-in_err-tdata1-clause-failed : goal.returns-in_err-tdata1-clause-failed
returns-in_err-tdata1-clause-failed g c =
    if_err _ c.from_residual.result _ c.from_residual.ensures.1
    (failed_behind _ _ (words_read 0 c.seeking.invariant.sought.words) _ _ _ _ _ _ _ _ c.seeking.invariant.later c.read_word.ensures.keeps.later
    c.seeking.invariant.sought.made
    (seeks_word _ c.seeking.slot _ _ c.seeking.invariant.sought c.seeking-test.true) c.in_err-tdata1.ensures.failed)

pub returns-then-shows_free-clause-did : goal.returns-then-shows_free-clause-did
returns-then-shows_free-clause-did g c =
    sought_found _ c.seeking.slot c.in_ok-tdata1.tdata1 _ _ _ c.seeking.invariant.sought c.seeking-test.true c.in_ok-tdata1.ensures.made
    (sym c.shows_free.ensures ∙ c.if-shows_free.true)

pub returns-clause-did : goal.returns-clause-did
returns-clause-did g c = sought_all _ c.seeking.slot _ _ c.seeking.invariant.sought (omega arith)

pub returns-clause-keeps : goal.returns-clause-keeps
returns-clause-keeps g c = record { later = c.seeking.invariant.later; fixed = c.seeking.invariant.fixed; behind = c.seeking.invariant.stands (omega arith) }

pub returns-in_err-tdata1-clause-rises : goal.returns-in_err-tdata1-clause-rises
returns-in_err-tdata1-clause-rises g c =
    within_then (24 * c.seeking.slot) 24 96 _ (g.D.Dmi.seen c.seeking.link) _ c.seeking.invariant.rises c.read_word.ensures.rises
    c.seeking.invariant.fixed (omega (arith, c.seeking-test.true))

pub returns-then-shows_free-clause-rises : goal.returns-then-shows_free-clause-rises
returns-then-shows_free-clause-rises g c =
    within_then (24 * c.seeking.slot) 24 96 _ (g.D.Dmi.seen c.seeking.link) _ c.seeking.invariant.rises c.read_word.ensures.rises
    c.seeking.invariant.fixed (omega (arith, c.seeking-test.true))

pub returns-clause-rises : goal.returns-clause-rises
returns-clause-rises g c =
    within_more (24 * c.seeking.slot) 96 _ _ c.seeking.invariant.rises (omega arith)

pub returns-in_err-tdata1-clause-refuses : goal.returns-in_err-tdata1-clause-refuses
returns-in_err-tdata1-clause-refuses g c =
    if_err _ c.from_residual.result _ c.from_residual.ensures.1
    (c.in_err-tdata1.ensures.refuses)

pub returns-in_err-tdata1-clause-never : goal.returns-in_err-tdata1-clause-never
returns-in_err-tdata1-clause-never g c =
    if_err (NeverLost (g.D.Dmi.seen c.args.link.now)) c.from_residual.result _ c.from_residual.ensures.1
    (lost_then _ (g.D.Dmi.seen c.args.link.now) (g.D.Dmi.seen c.seeking.link) c.in_err-tdata1.field-0.0 c.seeking.invariant.rises
    c.in_err-tdata1.ensures.never)
