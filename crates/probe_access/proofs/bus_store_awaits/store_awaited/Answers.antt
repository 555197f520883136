use Rattle.debug_model.proofs.RiseLemmas.{within_more, within_then}
use Rattle.std.proofs.Common.{◌∙◌, ap, refl, arith, ◌+◌, ◌-◌, ◌*◌, length}
use Rattle.probe_run.specs.Told.{told}
use Rattle.probe_access.specs.Blocks.{element_at, value_at}
use Rattle.probe_access.specs.BusAwaits.AwaitedStoresFailed.{in_start, in_next}
use Rattle.probe_access.specs.BusStoreStreams.{element_puts, upper_at, words_from}
use Rattle.probe_access.proofs.BusAwaitCalls.{start_failed, store_failed_as, stores_begun, stores_next}
use Rattle.probe_access.proofs.BusStoreCalls.{words_next, words_parts}
use Rattle.probe_access.proofs.RegisterCalls.{err_failed}
use Rattle.probe_access.proofs.bus_store_awaits.store_awaited.Goals as goal

pub returns-in_err-start_stores-clause-failed : goal.returns-in_err-start_stores-clause-failed
returns-in_err-start_stores-clause-failed g c =
    err_failed c.from_residual.result _ _ c.from_residual.ensures.1
    (in_start c.in_err-start_stores.field-0.0 refl
    (start_failed c.args.size c.args.address c.args.values.now c.args.done c.element-first.result c.upper_before.result _ _
    (told (g.D.Dmi.seen c.args.link.now)) _ c.in_err-start_stores.field-0.0 c.element-first.ensures c.upper_before.ensures
    c.in_err-start_stores.ensures.broke))

pub elements-init : goal.elements-init
elements-init g c = record {
  from = omega arith;
  stored = stores_begun c.args.size c.args.address c.args.values.now c.args.done c.element-first.result c.upper_before.result _ _ c.element-first.ensures
      c.upper_before.ensures c.in_ok-start_stores.ensures.did;
  stands = c.in_ok-start_stores.ensures.keeps.behind;
  later = c.start_stores.ensures.keeps.later;
  fixed = c.start_stores.ensures.keeps.fixed;
  rises = within_more 4 (words_from c.args.values.now c.args.done (c.args.done - c.args.done) + 2 * c.args.done + 4) _ _ c.start_stores.ensures.rises
      (omega arith);
}

pub returns-in_err-store_next-clause-failed : goal.returns-in_err-store_next-clause-failed
returns-in_err-store_next-clause-failed g c =
    err_failed c.from_residual-in_err-store_next.result c.in_err-store_next.field-0.0 _ c.from_residual-in_err-store_next.ensures.1
    (in_next c.elements.number (told (g.D.Dmi.seen c.elements.link)) c.elements-test.true c.elements.invariant.stored
    (store_failed_as c.upper_before-upper.result (upper_at c.args.values.now c.elements.number) _ (value_at c.args.values.now c.elements.number)
    c.element-at.result (element_at c.args.size c.args.address c.elements.number) _ _ _ _ _ c.in_err-store_next.field-0.0 c.upper_before-upper.ensures refl
    c.element-at.ensures c.elements.invariant.later c.store_next.ensures.keeps.later c.in_err-store_next.ensures.failed))

pub elements-preserved : goal.elements-preserved
elements-preserved g c = record {
  from = omega (arith, c.elements.invariant.from);
  stored = stores_next c.args.size c.args.address c.args.values.now c.args.done c.elements.number c.upper_before-upper.result _ _ _ _
      c.upper_before-upper.ensures refl c.elements.invariant.stored c.in_ok-store_next.ensures.stored;
  stands = c.in_ok-store_next.ensures.keeps.behind;
  later = omega (arith, c.elements.invariant.later, c.store_next.ensures.keeps.later);
  fixed = c.store_next.ensures.keeps.fixed ∙ c.elements.invariant.fixed;
  rises = within_then (words_from c.args.values.now c.args.done (c.elements.number - c.args.done) + 2 * c.elements.number + 4)
      (length (element_puts c.upper_before-upper.result (value_at c.args.values.now c.elements.number)) + 2)
      (words_from c.args.values.now c.args.done ((c.elements.number + 1) - c.args.done) + 2 * (c.elements.number + 1) + 4) _ (g.D.Dmi.seen c.elements.link) _
      c.elements.invariant.rises c.store_next.ensures.rises c.elements.invariant.fixed
      (omega (
        arith,
        c.elements.invariant.from,
        words_next c.args.values.now c.args.done c.elements.number c.elements.invariant.from,
        ap (λ u. length (element_puts u (value_at c.args.values.now c.elements.number))) c.upper_before-upper.ensures,
      ));
}

pub returns-in_err-start_stores-clause-rises : goal.returns-in_err-start_stores-clause-rises
returns-in_err-start_stores-clause-rises g c =
    within_more 4 (words_from c.args.values.now c.args.done (length c.args.values.now - c.args.done) + 2 * length c.args.values.now + 4) _ _
    c.start_stores.ensures.rises (omega arith)

pub returns-in_err-store_next-clause-rises : goal.returns-in_err-store_next-clause-rises
returns-in_err-store_next-clause-rises g c =
    let below = c.elements-test.true in
    within_then (words_from c.args.values.now c.args.done (c.elements.number - c.args.done) + 2 * c.elements.number + 4)
    (length (element_puts c.upper_before-upper.result (value_at c.args.values.now c.elements.number)) + 2)
    (words_from c.args.values.now c.args.done (length c.args.values.now - c.args.done) + 2 * length c.args.values.now + 4) _ (g.D.Dmi.seen c.elements.link) _
    c.elements.invariant.rises c.store_next.ensures.rises c.elements.invariant.fixed
    (omega (
      arith,
      below,
      c.requires.room,
      c.elements.invariant.from,
      words_next c.args.values.now c.args.done c.elements.number c.elements.invariant.from,
      ap (λ u. length (element_puts u (value_at c.args.values.now c.elements.number))) c.upper_before-upper.ensures,
      words_parts c.args.values.now c.args.done (c.elements.number + 1) (length c.args.values.now) (omega (arith, c.elements.invariant.from))
          (omega (arith, below, c.requires.room)),
    ))
