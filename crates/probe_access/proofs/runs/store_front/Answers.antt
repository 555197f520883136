use Rattle.debug_model.proofs.RiseLemmas.{within_more, within_then}
use Rattle.probe_access.proofs.BlockRises.{run_most, stores_wasted, stores_cut, stores_end}
use Rattle.std.proofs.Common.{◌∙◌, arith, ◌≤◌, ◌+◌, ◌*◌}
use Rattle.probe_access.specs.ElementRuns.StoresFailed.{in_start}
use Rattle.probe_access.specs.ElementRuns.StoresOn.{first}
use Rattle.probe_access.proofs.ElementCalls.{start_as, started_as}
use Rattle.probe_access.proofs.StoreRunCalls.{again_failed, some_least, some_most, stores_again, stores_fell, stores_ran}
use Rattle.probe_access.proofs.RegisterCalls.{err_failed}
use Rattle.probe_access.proofs.CommandNever.{lost_behind}
use Rattle.probe_access.proofs.NeverLemmas.{lost_then}
use Rattle.probe_access.proofs.runs.store_front.Goals as goal

pub returns-in_err-start_block-clause-failed : goal.returns-in_err-start_block-clause-failed
returns-in_err-start_block-clause-failed g c =
    err_failed _ c.in_err-start_block.field-0.0 _ c.from_residual-in_err-start_block.ensures.1
    (in_start _ c.in_ok-write_register.ensures.written
    (start_as _ _ c.args.size c.args.address _ _ _ _ _ c.in_err-start_block.field-0.0 c.store_of.ensures c.write_register.ensures.keeps.later
    c.start_block.ensures.keeps.later c.in_err-start_block.ensures.failed))

pub runs-init : goal.runs-init
runs-init g c = record {
  on = first _ _ c.in_ok-write_register.ensures.written
      (started_as _ _ c.args.size c.args.address _ _ c.store_of.ensures c.in_ok-start_block.ensures.started);
  most = c.requires.some;
  callable = record { alive = c.in_ok-start_block.ensures.keeps.behind.alive; link = c.in_ok-start_block.ensures.keeps.behind.link };
  stands = c.in_ok-start_block.ensures.keeps.behind;
  later = omega (arith, c.write_register.ensures.keeps.later, c.start_block.ensures.keeps.later);
  fixed = c.start_block.ensures.keeps.fixed ∙ c.write_register.ensures.keeps.fixed;
  few = omega arith;
  rises = within_more 25 ((25 + 8 * 1) + 0 * (7 * c.args.count + 33)) _ _ (within_then 8 17 25 _ (g.D.Dmi.seen c.write_register.new.link) _
      c.write_register.ensures.rises c.start_block.ensures.rises c.write_register.ensures.keeps.fixed (omega arith))
      (omega arith);
}

pub returns-in_err-run_at-clause-failed : goal.returns-in_err-run_at-clause-failed
returns-in_err-run_at-clause-failed g c =
    err_failed _ c.in_err-run_at.field-0.0 _ c.from_residual-in_err-run_at.ensures.1
    (stores_fell c.args.size c.args.address c.args.value c.args.count c.runs.done c.next_run-run.result.more _ _ _ _ _ _ c.in_err-run_at.field-0.0
    (omega (arith, c.next_run-run.ensures.within, c.if-done-count.true))
    c.runs.invariant.later c.run_at.ensures.keeps.later c.runs.invariant.on c.in_err-run_at.ensures.fell)

pub runs-preserved-in-None : goal.runs-preserved-in-None
runs-preserved-in-None g c = record {
  on = stores_ran c.args.size c.args.address c.args.value c.args.count c.runs.done c.next_run-run.result.more c.in_ok-run_at.field-0 _ _ _ c.in-None.is
      (omega (arith, c.next_run-run.ensures.within, c.if-done-count.true)) c.runs.invariant.on c.in_ok-run_at.ensures.ran;
  most = omega (arith, c.next_run-run.ensures.within, c.if-done-count.true);
  callable = record { alive = c.in_ok-run_at.ensures.keeps.behind.alive; link = c.in_ok-run_at.ensures.keeps.behind.link };
  stands = c.in_ok-run_at.ensures.keeps.behind;
  later = omega (arith, c.runs.invariant.later, c.run_at.ensures.keeps.later);
  fixed = c.run_at.ensures.keeps.fixed ∙ c.runs.invariant.fixed;
  few = c.runs.invariant.few;
  rises = let cost : c.next_run-run.result.more * (c.next_run-run.result.looks + 1) ≤ 7 * c.next_run-run.result.more =
      run_most 7 c.next_run-run.result.more (c.next_run-run.result.looks + 1) (omega (arith, c.next_run-run.ensures.looks, c.runs-test.true)) in
      within_then ((25 + 8 * c.runs.done) + c.runs.looks * (7 * c.args.count + 33)) (c.next_run-run.result.more * (c.next_run-run.result.looks + 1) + 8) ((25
      + 8 * (c.runs.done + (1 + c.next_run-run.result.more))) + c.runs.looks * (7 * c.args.count + 33)) _ (g.D.Dmi.seen c.runs.link) _ c.runs.invariant.rises
      (c.in_ok-run_at.ensures.whole c.in-None.is)
      c.runs.invariant.fixed (omega (arith, cost));
}

pub returns-in_err-start_block-in-Some-clause-failed : goal.returns-in_err-start_block-in-Some-clause-failed
returns-in_err-start_block-in-Some-clause-failed g c =
    err_failed _ c.in_err-start_block-in-Some.field-0.0 _ c.from_residual-in_err-start_block-in-Some.ensures.1
    (again_failed _ c.args.size c.args.address c.args.value c.args.count c.runs.done c.next_run-run.result.more c.in-Some.found c.element-at.result
    c.in_ok-run_at.field-0 _ _ _ _ _ _ _ c.in_err-start_block-in-Some.field-0.0 c.store_of-in-Some.ensures c.element-at.ensures c.in-Some.is
    (omega (arith, c.next_run-run.ensures.within, c.if-done-count.true))
    (omega (arith, c.runs.invariant.later, c.run_at.ensures.keeps.later)) c.start_block-in-Some.ensures.keeps.later c.runs.invariant.on
    c.in_ok-run_at.ensures.ran c.in_err-start_block-in-Some.ensures.failed)

pub runs-preserved : goal.runs-preserved
runs-preserved g c = record {
  on = stores_again _ c.args.size c.args.address c.args.value c.args.count c.runs.done c.next_run-run.result.more c.in-Some.found c.element-at.result
      c.in_ok-run_at.field-0 _ _ _ _ c.store_of-in-Some.ensures c.element-at.ensures c.in-Some.is
      (omega (arith, c.next_run-run.ensures.within, c.if-done-count.true)) c.runs.invariant.on c.in_ok-run_at.ensures.ran
      c.in_ok-start_block-in-Some.ensures.started;
  most = omega (
    arith,
    c.next_run-run.ensures.within,
    c.if-done-count.true,
    some_most c.args.size c.args.address c.runs.done c.next_run-run.result.more
        c.in-Some.found c.in_ok-run_at.field-0 _ _ c.in-Some.is c.in_ok-run_at.ensures.ran,
  );
  callable = record { alive = c.in_ok-start_block-in-Some.ensures.keeps.behind.alive; link = c.in_ok-start_block-in-Some.ensures.keeps.behind.link };
  stands = c.in_ok-start_block-in-Some.ensures.keeps.behind;
  later = omega (arith, c.runs.invariant.later, c.run_at.ensures.keeps.later, c.start_block-in-Some.ensures.keeps.later);
  fixed = c.start_block-in-Some.ensures.keeps.fixed ∙ c.run_at.ensures.keeps.fixed ∙ c.runs.invariant.fixed;
  few = omega (arith, c.runs-test.true);
  rises = let cost : c.next_run-run.result.more * (c.next_run-run.result.looks + 1) ≤ 7 * c.next_run-run.result.more =
      run_most 7 c.next_run-run.result.more (c.next_run-run.result.looks + 1) (omega (arith, c.next_run-run.ensures.looks, c.runs-test.true)) in
      let waste : c.next_run-run.result.more * (c.next_run-run.result.looks + 1) ≤ 7 * c.args.count = omega (arith, cost, c.next_run-run.ensures.within) in
      within_then (((25 + 8 * c.runs.done) + c.runs.looks * (7 * c.args.count + 33)) + (c.next_run-run.result.more * (c.next_run-run.result.looks + 1) + 24))
      17 ((25 + 8 * (c.in-Some.found + 1)) + (c.runs.looks + 1) * (7 * c.args.count + 33)) _ (g.D.Dmi.seen c.run_at.new.link) _ (within_then ((25 + 8 *
      c.runs.done) + c.runs.looks * (7 * c.args.count + 33)) (c.next_run-run.result.more * (c.next_run-run.result.looks + 1) + 24) (((25 + 8 * c.runs.done) +
      c.runs.looks * (7 * c.args.count + 33)) + (c.next_run-run.result.more * (c.next_run-run.result.looks + 1) + 24)) _ (g.D.Dmi.seen c.runs.link) _
      c.runs.invariant.rises c.run_at.ensures.rises c.runs.invariant.fixed (omega arith))
      c.start_block-in-Some.ensures.rises
      (c.run_at.ensures.keeps.fixed ∙ c.runs.invariant.fixed) (omega (
        arith,
        stores_wasted c.runs.done (c.in-Some.found + 1) c.runs.looks c.args.count
            (c.next_run-run.result.more * (c.next_run-run.result.looks + 1)) waste (omega (
              arith,
              some_least c.args.size c.args.address c.runs.done
                  c.next_run-run.result.more c.in-Some.found c.in_ok-run_at.field-0 _ _ c.in-Some.is c.in_ok-run_at.ensures.ran,
            )),
      ));
}

pub returns-in_err-write_register-clause-rises : goal.returns-in_err-write_register-clause-rises
returns-in_err-write_register-clause-rises g c =
    within_more 8 (57 * c.args.count + 256) _ _ c.write_register.ensures.rises (omega arith)

pub returns-in_err-start_block-clause-rises : goal.returns-in_err-start_block-clause-rises
returns-in_err-start_block-clause-rises g c =
    within_then 8 17 (57 * c.args.count + 256) _ (g.D.Dmi.seen c.write_register.new.link) _ c.write_register.ensures.rises c.start_block.ensures.rises
    c.write_register.ensures.keeps.fixed (omega arith)

pub returns-in_err-run_at-clause-rises : goal.returns-in_err-run_at-clause-rises
returns-in_err-run_at-clause-rises g c =
    let cost : c.next_run-run.result.more * (c.next_run-run.result.looks + 1) ≤ 7 * c.next_run-run.result.more =
    run_most 7 c.next_run-run.result.more (c.next_run-run.result.looks + 1) (omega (arith, c.next_run-run.ensures.looks, c.runs-test.true)) in
    within_then ((25 + 8 * c.runs.done) + c.runs.looks * (7 * c.args.count + 33)) (c.next_run-run.result.more * (c.next_run-run.result.looks + 1) + 24) (57 *
    c.args.count + 256) _ (g.D.Dmi.seen c.runs.link) _ c.runs.invariant.rises c.run_at.ensures.rises
    c.runs.invariant.fixed (omega (
      arith,
      stores_cut c.runs.done c.runs.looks c.next_run-run.result.more (c.next_run-run.result.more *
          (c.next_run-run.result.looks + 1)) c.args.count (omega (arith, c.runs-test.true)) cost (omega (
            arith,
            c.next_run-run.ensures.within,
            c.if-done-count.true,
          )),
    ))

pub returns-in_err-start_block-in-Some-clause-rises : goal.returns-in_err-start_block-in-Some-clause-rises
returns-in_err-start_block-in-Some-clause-rises g c =
    let cost : c.next_run-run.result.more * (c.next_run-run.result.looks + 1) ≤ 7 * c.next_run-run.result.more =
    run_most 7 c.next_run-run.result.more (c.next_run-run.result.looks + 1) (omega (arith, c.next_run-run.ensures.looks, c.runs-test.true)) in
    within_then (((25 + 8 * c.runs.done) + c.runs.looks * (7 * c.args.count + 33)) + (c.next_run-run.result.more * (c.next_run-run.result.looks + 1) + 24))
    17 (57 * c.args.count + 256) _ (g.D.Dmi.seen c.run_at.new.link) _ (within_then ((25 + 8 * c.runs.done) + c.runs.looks * (7 * c.args.count + 33))
    (c.next_run-run.result.more * (c.next_run-run.result.looks + 1) + 24) (((25 + 8 * c.runs.done) + c.runs.looks * (7 * c.args.count + 33)) +
    (c.next_run-run.result.more * (c.next_run-run.result.looks + 1) + 24)) _ (g.D.Dmi.seen c.runs.link) _ c.runs.invariant.rises c.run_at.ensures.rises
    c.runs.invariant.fixed (omega arith))
    c.start_block-in-Some.ensures.rises
    (c.run_at.ensures.keeps.fixed ∙ c.runs.invariant.fixed) (omega (
      arith,
      stores_cut c.runs.done c.runs.looks c.next_run-run.result.more
          (c.next_run-run.result.more * (c.next_run-run.result.looks + 1)) c.args.count (omega (arith, c.runs-test.true)) cost (omega (
            arith,
            c.next_run-run.ensures.within,
            c.if-done-count.true,
          )),
    ))

pub returns-else-done-count-clause-rises : goal.returns-else-done-count-clause-rises
returns-else-done-count-clause-rises g c =
    within_more ((25 + 8 * c.runs.done) + c.runs.looks * (7 * c.args.count + 33)) (57 * c.args.count + 256) _ _ c.runs.invariant.rises (stores_end
    c.runs.done c.runs.looks c.args.count c.runs.invariant.most c.runs.invariant.few)

pub returns-after-runs-clause-rises : goal.returns-after-runs-clause-rises
returns-after-runs-clause-rises g c =
    within_more ((25 + 8 * c.runs.done) + c.runs.looks * (7 * c.args.count + 33)) (57 * c.args.count + 256) _ _ c.runs.invariant.rises (stores_end
    c.runs.done c.runs.looks c.args.count c.runs.invariant.most c.runs.invariant.few)

pub returns-in_err-start_block-in-Some-clause-never : goal.returns-in_err-start_block-in-Some-clause-never
returns-in_err-start_block-in-Some-clause-never g c =
    lost_behind c.from_residual-in_err-start_block-in-Some.result _ _ _ c.in_err-start_block-in-Some.field-0.0
    c.from_residual-in_err-start_block-in-Some.ensures.1 c.runs.invariant.rises
    (lost_then _ _ _ c.in_err-start_block-in-Some.field-0.0 c.run_at.ensures.rises c.in_err-start_block-in-Some.ensures.never)
