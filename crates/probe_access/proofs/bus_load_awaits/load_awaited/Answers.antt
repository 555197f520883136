use Rattle.debug_model.proofs.RiseLemmas.{within_more, within_then}
use Rattle.std.proofs.Common.{◌≡◌, ◌∙◌, ◌+◌, ◌-◌, length, refl, sym, ap, subst, arith, ◌*◌}
use Rattle.probe_run.specs.Told.{told}
use Rattle.probe_access.specs.Blocks.{element_at}
use Rattle.probe_access.specs.BusAwaits.{AwaitedLoadsFailed, LoadsAwaited}
use Rattle.probe_access.specs.BusAwaits.AwaitedLoadsFailed.{in_start, in_next, in_last}
use Rattle.probe_access.proofs.BusAwaitCalls.{last_counted, loads_begun, next_counted, place_of, read_longer, start_as}
use Rattle.probe_access.proofs.RegisterCalls.{err_failed}
use Rattle.probe_access.proofs.bus_load_awaits.load_awaited.Goals as goal

pub returns-in_err-set_up-clause-failed : goal.returns-in_err-set_up-clause-failed
returns-in_err-set_up-clause-failed g c =
    err_failed c.from_residual.result _ _ c.from_residual.ensures.1
    (in_start c.in_err-set_up.field-0.0 refl refl
    (start_as c.args.size c.element.result (element_at c.args.size c.args.address (length c.args.into.now.items)) c.running_of.result _ _ _
    (told (g.D.Dmi.seen c.set_up.new.link)) c.in_err-set_up.field-0.0 c.running_of.ensures
    (c.element.ensures ∙ ap (element_at c.args.size c.args.address) c.len-done.ensures.value) c.in_err-set_up.ensures.broke))

pub elements-init : goal.elements-init
elements-init g c = record {
  all = sym c.len-done.ensures.value;
  loaded = loads_begun c.args.size c.args.address c.element.result c.running_of.result c.args.into.now.items _ _ c.running_of.ensures
      (c.element.ensures ∙ ap (element_at c.args.size c.args.address) c.len-done.ensures.value) c.in_ok-set_up.ensures.did;
  stands = c.in_ok-set_up.ensures.keeps.behind;
  later = c.set_up.ensures.keeps.later;
  fixed = c.set_up.ensures.keeps.fixed;
  rises = within_more 3 (4 * c.len-done.result + 3) _ _ c.set_up.ensures.rises (omega arith);
}

pub returns-in_err-load_next-clause-failed : goal.returns-in_err-load_next-clause-failed
returns-in_err-load_next-clause-failed g c =
    let n : length c.elements.into.items ≡ c.elements.number = c.elements.invariant.all in
    err_failed c.from_residual-in_err-load_next.result c.in_err-load_next.field-0.0 _ c.from_residual-in_err-load_next.ensures.1
    (subst (λ xs. AwaitedLoadsFailed c.args.size c.args.address c.args.count c.args.into.now.items xs (g.D.Dmi.seen c.args.link.now).fault_count
    (g.D.Dmi.seen c.load_next.new.link).fault_count (told (g.D.Dmi.seen c.args.link.now)) (told (g.D.Dmi.seen c.load_next.new.link))
    c.in_err-load_next.field-0.0) (sym c.in_err-load_next.ensures.unchanged)
    (in_next (told (g.D.Dmi.seen c.elements.link)) (omega (arith, n, c.elements-test.true)) c.elements.invariant.loaded
    (next_counted c.element-at.result (element_at c.args.size c.args.address (length c.elements.into.items)) _ _ _ _ _ c.in_err-load_next.field-0.0
    (place_of c.args.size c.args.address c.elements.number c.elements.into.items c.element-at.result c.element-at.ensures c.elements.invariant.all)
    c.elements.invariant.later c.load_next.ensures.keeps.later c.in_err-load_next.ensures.failed)))

pub elements-preserved : goal.elements-preserved
elements-preserved g c = record {
  all = let n : length c.elements.into.items ≡ c.elements.number = c.elements.invariant.all in
      let k : length c.load_next.new.into.items ≡ length c.elements.into.items + 1 =
      read_longer c.args.size c.elements.into.items c.load_next.new.into.items _ _ c.in_ok-load_next.ensures.loaded.read in omega (arith, n, k);
  loaded = LoadsAwaited.next c.elements.into.items c.load_next.new.into.items _ _ c.elements.invariant.loaded c.in_ok-load_next.ensures.loaded;
  stands = c.in_ok-load_next.ensures.keeps.behind;
  later = omega (arith, c.elements.invariant.later, c.load_next.ensures.keeps.later);
  fixed = c.load_next.ensures.keeps.fixed ∙ c.elements.invariant.fixed;
  rises = within_then (4 * c.elements.number + 3) 4 (4 * (c.elements.number + 1) + 3) _ (g.D.Dmi.seen c.elements.link) _ c.elements.invariant.rises
      c.load_next.ensures.rises
      c.elements.invariant.fixed (omega arith);
}

pub returns-in_err-load_last-clause-failed : goal.returns-in_err-load_last-clause-failed
returns-in_err-load_last-clause-failed g c =
    let n : length c.elements.into.items ≡ c.elements.number = c.elements.invariant.all in
    let d : c.len-done.result ≡ length c.args.into.now.items = c.len-done.ensures.value in
    let end : length c.elements.into.items + 1 ≡ c.args.count =
    omega (arith, n, d, c.elements-test.false, c.elements.auto.number-end, c.requires.some) in
    err_failed c.from_residual-in_err-load_last.result c.in_err-load_last.field-0.0 _ c.from_residual-in_err-load_last.ensures.1
    (subst (λ xs. AwaitedLoadsFailed c.args.size c.args.address c.args.count c.args.into.now.items xs (g.D.Dmi.seen c.args.link.now).fault_count
    (g.D.Dmi.seen c.load_last.new.link).fault_count (told (g.D.Dmi.seen c.args.link.now)) (told (g.D.Dmi.seen c.load_last.new.link))
    c.in_err-load_last.field-0.0) (sym c.in_err-load_last.ensures.unchanged)
    (in_last (told (g.D.Dmi.seen c.elements.link)) end c.elements.invariant.loaded
    (last_counted c.args.size c.element-2.result (element_at c.args.size c.args.address (length c.elements.into.items)) _ _ _ _ _
    c.in_err-load_last.field-0.0
    (place_of c.args.size c.args.address (c.args.count - 1) c.elements.into.items c.element-2.result c.element-2.ensures (omega (arith, end)))
    c.elements.invariant.later c.load_last.ensures.keeps.later c.in_err-load_last.ensures.failed)))

pub returns-in_err-set_up-clause-rises : goal.returns-in_err-set_up-clause-rises
returns-in_err-set_up-clause-rises g c =
    within_more 3 (4 * c.args.count + 4) _ _ c.set_up.ensures.rises (omega arith)

pub returns-in_err-load_next-clause-rises : goal.returns-in_err-load_next-clause-rises
returns-in_err-load_next-clause-rises g c =
    within_then (4 * c.elements.number + 3) 4 (4 * c.args.count + 4) _ (g.D.Dmi.seen c.elements.link) _ c.elements.invariant.rises c.load_next.ensures.rises
    c.elements.invariant.fixed (omega (arith, c.elements-test.true))

pub returns-in_err-load_last-clause-rises : goal.returns-in_err-load_last-clause-rises
returns-in_err-load_last-clause-rises g c =
    let d : c.len-done.result ≡ length c.args.into.now.items = c.len-done.ensures.value in
    within_then (4 * c.elements.number + 3) 5 (4 * c.args.count + 4) _ (g.D.Dmi.seen c.elements.link) _ c.elements.invariant.rises c.load_last.ensures.rises
    c.elements.invariant.fixed (omega (arith, d, c.elements-test.false, c.elements.auto.number-end, c.requires.some))

pub returns-clause-rises : goal.returns-clause-rises
returns-clause-rises g c =
    let d : c.len-done.result ≡ length c.args.into.now.items = c.len-done.ensures.value in
    within_then (4 * c.elements.number + 3) 5 (4 * c.args.count + 4) _ (g.D.Dmi.seen c.elements.link) _ c.elements.invariant.rises c.load_last.ensures.rises
    c.elements.invariant.fixed (omega (arith, d, c.elements-test.false, c.elements.auto.number-end, c.requires.some))
