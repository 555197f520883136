use Rattle.debug_model.proofs.RiseLemmas.{within_none, within_then}
use Rattle.std.proofs.Common.{◌∙◌, ◌-◌, length, refl, arith}
use Rattle.probe_run.specs.Acts.Did.{nothing}
use Rattle.probe_run.specs.Told.{told}
use Rattle.probe_access.specs.BusStoreStreams.{words_from}
use Rattle.probe_access.proofs.BusStoreCalls.{more_broke, more_put, words_front}
use Rattle.probe_access.proofs.RegisterCalls.{fault_failed}
use Rattle.probe_access.proofs.bus_store_words.write_elements.Goals as goal

pub calls-init : goal.calls-init
calls-init g c = record {
  within = omega arith;
  did = nothing;
  stands = c.requires.stands;
  later = omega arith;
  fixed = refl;
  rises = within_none 0 (g.D.Dmi.seen c.args.link.now) (g.D.Dmi.seen c.args.link.now) refl;
}

pub returns-in_err-done-clause-broke : goal.returns-in_err-done-clause-broke
returns-in_err-done-clause-broke g c =
    fault_failed c.from_residual.result c.in_err-done.field-0.0 _ c.from_residual.ensures.1
    (more_broke c.args.values.now c.calls.done (length c.args.values.now) _ _ _ (told (g.D.Dmi.seen c.args.link.now)) (told (g.D.Dmi.seen c.calls.link)) _
    c.in_err-done.field-0.0 c.calls.invariant.within c.calls.invariant.did c.calls.invariant.later c.write_call.ensures.keeps.later
    c.in_err-done.ensures.broke)

pub returns-in_err-done-clause-rises : goal.returns-in_err-done-clause-rises
returns-in_err-done-clause-rises g c =
    within_then (words_from c.args.values.now 0 c.calls.done) (words_from c.args.values.now c.calls.done (length c.args.values.now - c.calls.done))
    (words_from c.args.values.now 0 (length c.args.values.now)) _ (g.D.Dmi.seen c.calls.link) _ c.calls.invariant.rises c.write_call.ensures.rises
    c.calls.invariant.fixed (omega (arith, words_front c.args.values.now c.calls.done (length c.args.values.now) c.calls.invariant.within))

pub calls-preserved : goal.calls-preserved
calls-preserved g c = record {
  within = c.in_ok-done.ensures.next.1;
  did = more_put c.args.values.now c.calls.done c.in_ok-done.done (told (g.D.Dmi.seen c.args.link.now)) (told (g.D.Dmi.seen c.calls.link))
      (told (g.D.Dmi.seen c.write_call.new.link)) (omega (arith, c.in_ok-done.ensures.next.0)) c.calls.invariant.did c.in_ok-done.ensures.did;
  stands = c.in_ok-done.ensures.keeps.behind;
  later = omega (arith, c.calls.invariant.later, c.write_call.ensures.keeps.later);
  fixed = c.write_call.ensures.keeps.fixed ∙ c.calls.invariant.fixed;
  rises = within_then (words_from c.args.values.now 0 c.calls.done) (words_from c.args.values.now c.calls.done (c.in_ok-done.done - c.calls.done))
      (words_from c.args.values.now 0 c.in_ok-done.done) _ (g.D.Dmi.seen c.calls.link) _ c.calls.invariant.rises c.in_ok-done.ensures.rose
      c.calls.invariant.fixed (omega (arith, words_front c.args.values.now c.calls.done c.in_ok-done.done (omega (arith, c.in_ok-done.ensures.next.0))));
}
