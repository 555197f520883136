use Rattle.std.proofs.Common.{◌∙◌, arith, refl, sym}
use Rattle.probe_run.specs.Told.{told}
use Rattle.probe_session.proofs.LinkLemmas.{if_err}
use Rattle.probe_session.proofs.MemoryLines.{attached_by}
use Rattle.probe_session.proofs.SeenLemmas.{all_stored, some_stored}
use Rattle.soft_session.specs.Memory.{to_write}
use Rattle.soft_session.proofs.WriteSteps.{refusal_cut, refusal_led, refusal_lost, store_cut, write_misaligned, write_refused, wrote_all, wrote_none}
use Rattle.soft_session.proofs.WriteSteps.{wrote_one}
use Rattle.soft_session.proofs.CausedCalls.{since_err, store_fell}
use Rattle.soft_session.proofs.CausedEnds.{refusal_caused}
use Rattle.soft_session.proofs.memory.written_line.Goals as goal

pub returns-then-not-is_aligned-clause-led : goal.returns-then-not-is_aligned-clause-led
returns-then-not-is_aligned-clause-led g c =
    write_misaligned c.args.reach.now c.args.size c.args.address c.args.value c.args.count c.args.table.now (told (g.D.Dmi.seen c.args.link.now))
    (sym c.is_aligned.ensures ∙ c.if-not-is_aligned.true)

pub storing-init : goal.storing-init
storing-init g c = record {
  serving = c.requires.serving;
  later = omega arith;
  fixed = refl;
  same = refl;
  wrote = wrote_none c.args.reach.now c.args.size c.args.address c.args.value c.args.count c.args.table.now (told (g.D.Dmi.seen c.args.link.now))
      (sym c.is_aligned.ensures ∙ c.if-not-is_aligned.false);
}

pub storing-preserved : goal.storing-preserved
storing-preserved g c = record {
  serving = c.in_ok-refused.ensures.keeps.behind;
  later = omega (arith, c.storing.invariant.later, c.store_by.ensures.keeps.later);
  fixed = c.store_by.ensures.keeps.fixed ∙ c.storing.invariant.fixed;
  same = c.merge-stored.ensures.same ∙ c.storing.invariant.same;
  wrote = wrote_one c.args.reach.now c.args.size c.args.address c.args.value c.args.count c.storing.number _ _ c.args.table.now c.storing.table c.merge-stored.new.self
      (told (g.D.Dmi.seen c.args.link.now)) (told (g.D.Dmi.seen c.storing.link)) (told (g.D.Dmi.seen c.store_by.new.link)) c.storing-test.true (cc)
      (attached_by c.args.reach.now _ c.storing.invariant.serving).ready c.storing.invariant.wrote c.merge-stored.ensures.merged c.merge-stored.ensures.same
      c.merge-stored.ensures.words c.merge-stored.ensures.taken (all_stored c.in_default.is c.in_ok-refused.ensures.stored);
}

pub returns-in_err-refused-clause-cut : goal.returns-in_err-refused-clause-cut
returns-in_err-refused-clause-cut g c =
    if_err _ c.in_err-refused.field-0.0 _ c.from_residual.ensures.1
    (store_cut c.args.reach.now c.args.size c.args.address c.args.value c.args.count c.storing.number _ _ c.args.table.now c.storing.table _ _
    (told (g.D.Dmi.seen c.args.link.now)) (told (g.D.Dmi.seen c.storing.link)) (told (g.D.Dmi.seen c.store_by.new.link)) c.in_err-refused.field-0.0
    c.storing-test.true (cc) (attached_by c.args.reach.now _ c.storing.invariant.serving).ready c.storing.invariant.wrote c.merge-stored.ensures.merged
    c.in_err-refused.ensures.fell)

pub returns-in-Some-clause-led : goal.returns-in-Some-clause-led
returns-in-Some-clause-led g c =
    refusal_led c.args.table.now c.merge-stored.new.self c.args.reach.now (to_write c.args.size c.args.address c.args.value c.args.count c.args.reach.now)
    (told (g.D.Dmi.seen c.args.link.now)) (told (g.D.Dmi.seen c.store_by.new.link)) c.in-Some.refused _ c.refusal.result c.refusal.ensures.line
    c.refusal.ensures.beside
    (write_refused c.args.reach.now c.args.size c.args.address c.args.value c.args.count c.storing.number _ _ c.in-Some.refused c.args.table.now c.storing.table c.merge-stored.new.self
    (told (g.D.Dmi.seen c.args.link.now)) (told (g.D.Dmi.seen c.storing.link)) (told (g.D.Dmi.seen c.store_by.new.link)) c.storing-test.true (cc)
    (attached_by c.args.reach.now _ c.storing.invariant.serving).ready c.storing.invariant.wrote c.merge-stored.ensures.merged c.merge-stored.ensures.same
    c.merge-stored.ensures.words c.merge-stored.ensures.taken (some_stored c.in-Some.is c.in_ok-refused.ensures.stored))

pub returns-in-Some-clause-cut : goal.returns-in-Some-clause-cut
returns-in-Some-clause-cut g c =
    refusal_cut c.args.reach.now c.args.size c.args.address c.args.value c.args.count c.args.table.now
    (told (g.D.Dmi.seen c.args.link.now)) (told (g.D.Dmi.seen c.store_by.new.link)) c.refusal.result c.refusal.ensures.lost
    (λ f is. refusal_lost c.args.reach.now c.args.size c.args.address c.args.value c.args.count c.storing.number _ _ c.in-Some.refused c.args.table.now c.storing.table
    (told (g.D.Dmi.seen c.args.link.now)) (told (g.D.Dmi.seen c.storing.link)) (told (g.D.Dmi.seen c.store_by.new.link)) f c.storing-test.true (cc)
    (attached_by c.args.reach.now _ c.storing.invariant.serving).ready c.storing.invariant.wrote c.merge-stored.ensures.merged
    (some_stored c.in-Some.is c.in_ok-refused.ensures.stored) is)

pub returns-clause-led : goal.returns-clause-led
returns-clause-led g c =
    wrote_all c.args.reach.now c.args.size c.args.address c.args.value c.args.count c.storing.number c.args.table.now c.storing.table (told (g.D.Dmi.seen c.args.link.now))
    (told (g.D.Dmi.seen c.storing.link)) (omega arith) c.storing.invariant.wrote

pub returns-in_err-refused-clause-caused : goal.returns-in_err-refused-clause-caused
returns-in_err-refused-clause-caused g c =
    since_err ⊥ c.in_err-refused.field-0.0 (g.D.Dmi.seen c.args.link.now) (g.D.Dmi.seen c.storing.link) (g.D.Dmi.seen c.store_by.new.link) _
    c.from_residual.ensures.1 c.storing.invariant.later c.store_by.ensures.keeps.later
    (store_fell c.args.size _ _ c.in_err-refused.field-0.0 (g.D.Dmi.seen c.storing.link) (g.D.Dmi.seen c.store_by.new.link) c.in_err-refused.ensures.fell)

pub returns-in-Some-clause-caused : goal.returns-in-Some-clause-caused
returns-in-Some-clause-caused g c =
    refusal_caused (g.D.Dmi.seen c.args.link.now) (g.D.Dmi.seen c.store_by.new.link) _ c.refusal.ensures.lost
