use Rattle.debug_model.proofs.RiseLemmas.{within_more as rises_more, within_then as rises_then}
use Rattle.std.proofs.Common.{◌≡◌, ◌≢◌, ◌≤◌, ◌<◌, ◌+◌, ◌-◌, ◌*◌, ℕ, List, length, subst, arith}
use Rattle.debug_model.specs.Scan.{WhereTold}
use Rattle.probe_run.specs.Told.{told}
use Rattle.probe_access.specs.BusBlockRuns.{BusValueStores}
use Rattle.probe_access.specs.BlockRises.{bus_values_rises}
use Rattle.probe_access.specs.BusStoreStreams.{data_words, words_from}
use Rattle.probe_access.proofs.BusStoreCalls.{words_front}
use Rattle.probe_access.specs.BusBlocks.{BusValuesStoredAt}
use Rattle.probe_access.proofs.BusStoreAwaitFaults.{await_causes, await_cut, await_left, await_ready, await_refused}
use Rattle.probe_access.proofs.BusStoreAwaitTold.{stores_awaited}
use Rattle.probe_access.proofs.BusStoreCauses.{fell_causes, fell_cut, fell_left, fell_ready, fell_refused, stores_heard}
use Rattle.probe_access.proofs.BusStoreOutcomes.{stores_few, stores_told}
use Rattle.probe_access.proofs.BusSpent.{
  awaited_stores_failed,
  awaited_stores_spent,
  run_stores_spent,
  stores_fell_spent,
  unbroken_behind,
  unbroken_more,
  within_more,
  within_then,
}
use Rattle.probe_access.proofs.RegisterCalls.{err_failed}
use Rattle.probe_access.proofs.CommandNever.{lost_behind}
use Rattle.probe_access.proofs.bus_blocks.bus_store_values.Goals as goal

pub returns-in_err-done-clause-refused : goal.returns-in_err-done-clause-refused
returns-in_err-done-clause-refused g c =
    err_failed c.from_residual.result c.in_err-done.field-0.0 _ c.from_residual.ensures.1
    (fell_refused c.args.size c.args.address c.args.values.now (length c.args.values.now) _ _ (told (g.D.Dmi.seen c.args.link.now))
    (told (g.D.Dmi.seen c.store_run.new.link)) c.in_err-done.field-0.0 c.in_err-done.ensures.fell)

pub returns-in_err-done-clause-left : goal.returns-in_err-done-clause-left
returns-in_err-done-clause-left g c =
    err_failed c.from_residual.result c.in_err-done.field-0.0 _ c.from_residual.ensures.1
    (fell_left c.args.size c.args.address c.args.values.now (length c.args.values.now) _ _ _ _ (told (g.D.Dmi.seen c.store_run.new.link))
    c.in_err-done.field-0.0 c.requires.ready c.requires.aligned c.requires.ends c.requires.room c.requires.some c.in_err-done.ensures.fell)

pub returns-in_err-done-clause-causes : goal.returns-in_err-done-clause-causes
returns-in_err-done-clause-causes g c =
    err_failed c.from_residual.result c.in_err-done.field-0.0 _ c.from_residual.ensures.1
    (fell_causes c.args.size c.args.address c.args.values.now (length c.args.values.now) _ _ (told (g.D.Dmi.seen c.args.link.now))
    (told (g.D.Dmi.seen c.store_run.new.link)) c.in_err-done.field-0.0 c.store_run.ensures.keeps.later c.in_err-done.ensures.fell)

pub returns-in_err-done-clause-cut : goal.returns-in_err-done-clause-cut
returns-in_err-done-clause-cut g c =
    err_failed c.from_residual.result c.in_err-done.field-0.0 _ c.from_residual.ensures.1
    (fell_cut c.args.size c.args.address c.args.values.now (length c.args.values.now) _ _ _ _ (told (g.D.Dmi.seen c.store_run.new.link))
    c.in_err-done.field-0.0 c.requires.ready c.requires.aligned c.requires.ends c.requires.some c.in_err-done.ensures.fell)

pub returns-in_err-done-clause-ready_again : goal.returns-in_err-done-clause-ready_again
returns-in_err-done-clause-ready_again g c =
    err_failed c.from_residual.result c.in_err-done.field-0.0 _ c.from_residual.ensures.1
    (fell_ready c.args.size c.args.address c.args.values.now (length c.args.values.now) _ _ _ _ (told (g.D.Dmi.seen c.store_run.new.link))
    c.in_err-done.field-0.0 c.requires.ready c.requires.aligned c.requires.ends c.requires.room c.requires.some c.in_err-done.ensures.fell)

below_count : (done count : ℕ) → done ≤ count → done ≢ count → done < count
below_count done count within other = omega (arith, within, other)

pub returns-then-done-values-clause-stored : goal.returns-then-done-values-clause-stored
returns-then-done-values-clause-stored g c =
    subst (λ n. WhereTold (BusValuesStoredAt c.args.size c.args.address c.args.values.now n) (g.D.Dmi.seen c.args.link.now).far
    (g.D.Dmi.seen c.store_run.new.link).far) c.if-done-values.true
    (stores_told c.args.size c.args.address c.args.values.now (length c.args.values.now) c.in_ok-done.done _ _ (told (g.D.Dmi.seen c.store_run.new.link))
    c.requires.ready c.requires.aligned c.requires.ends c.requires.room c.requires.some c.in_ok-done.ensures.stores).stored

pub returns-then-done-values-clause-stores : goal.returns-then-done-values-clause-stores
returns-then-done-values-clause-stores g c =
    subst (λ n. BusValueStores c.args.size c.args.address c.args.values.now (told (g.D.Dmi.seen c.args.link.now)) n (told (g.D.Dmi.seen c.store_run.new.link)))
    c.if-done-values.true
    (stores_heard c.args.size c.args.address c.args.values.now (length c.args.values.now) c.in_ok-done.done (told (g.D.Dmi.seen c.args.link.now))
    (told (g.D.Dmi.seen c.store_run.new.link)) c.in_ok-done.ensures.stores)

pub returns-then-done-values-clause-ready : goal.returns-then-done-values-clause-ready
returns-then-done-values-clause-ready g c =
    (stores_told c.args.size c.args.address c.args.values.now (length c.args.values.now) c.in_ok-done.done _ _ (told (g.D.Dmi.seen c.store_run.new.link))
    c.requires.ready c.requires.aligned c.requires.ends c.requires.room c.requires.some c.in_ok-done.ensures.stores).ready

pub returns-clause-stored : goal.returns-clause-stored
returns-clause-stored g c =
    (stores_awaited c.args.size c.args.address c.args.values.now (length c.args.values.now) c.in_ok-done.done _ (told (g.D.Dmi.seen c.store_run.new.link))
    (told (g.D.Dmi.seen c.store_awaited.new.link))
    (stores_told c.args.size c.args.address c.args.values.now (length c.args.values.now) c.in_ok-done.done _ _ (told (g.D.Dmi.seen c.store_run.new.link))
    c.requires.ready c.requires.aligned c.requires.ends c.requires.room c.requires.some c.in_ok-done.ensures.stores).stored
    (stores_told c.args.size c.args.address c.args.values.now (length c.args.values.now) c.in_ok-done.done _ _ (told (g.D.Dmi.seen c.store_run.new.link))
    c.requires.ready c.requires.aligned c.requires.ends c.requires.room c.requires.some c.in_ok-done.ensures.stores).ready
    c.requires.aligned c.requires.ends
    (below_count c.in_ok-done.done (length c.args.values.now)
    (stores_few c.args.size c.args.address c.args.values.now (length c.args.values.now) c.in_ok-done.done (told (g.D.Dmi.seen c.args.link.now))
    (told (g.D.Dmi.seen c.store_run.new.link)) c.in_ok-done.ensures.stores) c.if-done-values.false)
    c.in_ok-store_awaited.ensures.stored).stored

pub returns-clause-ready : goal.returns-clause-ready
returns-clause-ready g c =
    (stores_awaited c.args.size c.args.address c.args.values.now (length c.args.values.now) c.in_ok-done.done _ (told (g.D.Dmi.seen c.store_run.new.link))
    (told (g.D.Dmi.seen c.store_awaited.new.link))
    (stores_told c.args.size c.args.address c.args.values.now (length c.args.values.now) c.in_ok-done.done _ _ (told (g.D.Dmi.seen c.store_run.new.link))
    c.requires.ready c.requires.aligned c.requires.ends c.requires.room c.requires.some c.in_ok-done.ensures.stores).stored
    (stores_told c.args.size c.args.address c.args.values.now (length c.args.values.now) c.in_ok-done.done _ _ (told (g.D.Dmi.seen c.store_run.new.link))
    c.requires.ready c.requires.aligned c.requires.ends c.requires.room c.requires.some c.in_ok-done.ensures.stores).ready
    c.requires.aligned c.requires.ends
    (below_count c.in_ok-done.done (length c.args.values.now)
    (stores_few c.args.size c.args.address c.args.values.now (length c.args.values.now) c.in_ok-done.done (told (g.D.Dmi.seen c.args.link.now))
    (told (g.D.Dmi.seen c.store_run.new.link)) c.in_ok-done.ensures.stores) c.if-done-values.false)
    c.in_ok-store_awaited.ensures.stored).ready

pub returns-clause-stores : goal.returns-clause-stores
returns-clause-stores g c =
    BusValueStores.awaited c.in_ok-done.done (length c.args.values.now) (told (g.D.Dmi.seen c.store_run.new.link)) _
    (stores_heard c.args.size c.args.address c.args.values.now (length c.args.values.now) c.in_ok-done.done (told (g.D.Dmi.seen c.args.link.now))
    (told (g.D.Dmi.seen c.store_run.new.link)) c.in_ok-done.ensures.stores)
    c.in_ok-store_awaited.ensures.stored

pub returns-in_err-store_awaited-clause-refused : goal.returns-in_err-store_awaited-clause-refused
returns-in_err-store_awaited-clause-refused g c =
    err_failed c.from_residual-in_err-store_awaited.result c.in_err-store_awaited.field-0.0 _ c.from_residual-in_err-store_awaited.ensures.1
    (await_refused c.args.size c.args.address c.args.values.now c.in_ok-done.done (length c.args.values.now) _ _ (told (g.D.Dmi.seen c.args.link.now))
    (told (g.D.Dmi.seen c.store_run.new.link)) (told (g.D.Dmi.seen c.store_awaited.new.link)) c.in_err-store_awaited.field-0.0
    (stores_heard c.args.size c.args.address c.args.values.now (length c.args.values.now) c.in_ok-done.done (told (g.D.Dmi.seen c.args.link.now))
    (told (g.D.Dmi.seen c.store_run.new.link)) c.in_ok-done.ensures.stores)
    c.in_err-store_awaited.ensures.failed)

pub returns-in_err-store_awaited-clause-causes : goal.returns-in_err-store_awaited-clause-causes
returns-in_err-store_awaited-clause-causes g c =
    err_failed c.from_residual-in_err-store_awaited.result c.in_err-store_awaited.field-0.0 _ c.from_residual-in_err-store_awaited.ensures.1
    (await_causes c.args.size c.args.address c.args.values.now c.in_ok-done.done (length c.args.values.now) _ _ _ (told (g.D.Dmi.seen c.args.link.now))
    (told (g.D.Dmi.seen c.store_run.new.link)) (told (g.D.Dmi.seen c.store_awaited.new.link)) c.in_err-store_awaited.field-0.0
    c.store_run.ensures.keeps.later c.store_awaited.ensures.keeps.later
    (stores_heard c.args.size c.args.address c.args.values.now (length c.args.values.now) c.in_ok-done.done (told (g.D.Dmi.seen c.args.link.now))
    (told (g.D.Dmi.seen c.store_run.new.link)) c.in_ok-done.ensures.stores)
    c.in_err-store_awaited.ensures.failed)

pub returns-in_err-store_awaited-clause-left : goal.returns-in_err-store_awaited-clause-left
returns-in_err-store_awaited-clause-left g c =
    err_failed c.from_residual-in_err-store_awaited.result c.in_err-store_awaited.field-0.0 _ c.from_residual-in_err-store_awaited.ensures.1
    (await_left c.args.size c.args.address c.args.values.now c.in_ok-done.done (length c.args.values.now) _ _ _ (told (g.D.Dmi.seen c.store_run.new.link))
    (told (g.D.Dmi.seen c.store_awaited.new.link)) c.in_err-store_awaited.field-0.0
    (stores_told c.args.size c.args.address c.args.values.now (length c.args.values.now) c.in_ok-done.done _ _ (told (g.D.Dmi.seen c.store_run.new.link))
    c.requires.ready c.requires.aligned c.requires.ends c.requires.room c.requires.some c.in_ok-done.ensures.stores).stored
    (stores_told c.args.size c.args.address c.args.values.now (length c.args.values.now) c.in_ok-done.done _ _ (told (g.D.Dmi.seen c.store_run.new.link))
    c.requires.ready c.requires.aligned c.requires.ends c.requires.room c.requires.some c.in_ok-done.ensures.stores).ready
    c.requires.aligned c.requires.ends
    (below_count c.in_ok-done.done (length c.args.values.now)
    (stores_few c.args.size c.args.address c.args.values.now (length c.args.values.now) c.in_ok-done.done (told (g.D.Dmi.seen c.args.link.now))
    (told (g.D.Dmi.seen c.store_run.new.link)) c.in_ok-done.ensures.stores) c.if-done-values.false)
    c.in_err-store_awaited.ensures.failed)

pub returns-in_err-store_awaited-clause-cut : goal.returns-in_err-store_awaited-clause-cut
returns-in_err-store_awaited-clause-cut g c =
    err_failed c.from_residual-in_err-store_awaited.result c.in_err-store_awaited.field-0.0 _ c.from_residual-in_err-store_awaited.ensures.1
    (await_cut c.args.size c.args.address c.args.values.now c.in_ok-done.done (length c.args.values.now) _ _ _ (told (g.D.Dmi.seen c.store_run.new.link))
    (told (g.D.Dmi.seen c.store_awaited.new.link)) c.in_err-store_awaited.field-0.0
    (stores_told c.args.size c.args.address c.args.values.now (length c.args.values.now) c.in_ok-done.done _ _ (told (g.D.Dmi.seen c.store_run.new.link))
    c.requires.ready c.requires.aligned c.requires.ends c.requires.room c.requires.some c.in_ok-done.ensures.stores).stored
    (stores_told c.args.size c.args.address c.args.values.now (length c.args.values.now) c.in_ok-done.done _ _ (told (g.D.Dmi.seen c.store_run.new.link))
    c.requires.ready c.requires.aligned c.requires.ends c.requires.room c.requires.some c.in_ok-done.ensures.stores).ready
    c.requires.aligned c.requires.ends
    (below_count c.in_ok-done.done (length c.args.values.now)
    (stores_few c.args.size c.args.address c.args.values.now (length c.args.values.now) c.in_ok-done.done (told (g.D.Dmi.seen c.args.link.now))
    (told (g.D.Dmi.seen c.store_run.new.link)) c.in_ok-done.ensures.stores) c.if-done-values.false)
    c.in_err-store_awaited.ensures.failed)

pub returns-in_err-store_awaited-clause-ready_again : goal.returns-in_err-store_awaited-clause-ready_again
returns-in_err-store_awaited-clause-ready_again g c =
    err_failed c.from_residual-in_err-store_awaited.result c.in_err-store_awaited.field-0.0 _ c.from_residual-in_err-store_awaited.ensures.1
    (await_ready c.args.size c.args.address c.args.values.now c.in_ok-done.done (length c.args.values.now) _ _ _ (told (g.D.Dmi.seen c.store_run.new.link))
    (told (g.D.Dmi.seen c.store_awaited.new.link)) c.in_err-store_awaited.field-0.0
    (stores_told c.args.size c.args.address c.args.values.now (length c.args.values.now) c.in_ok-done.done _ _ (told (g.D.Dmi.seen c.store_run.new.link))
    c.requires.ready c.requires.aligned c.requires.ends c.requires.room c.requires.some c.in_ok-done.ensures.stores).stored
    (stores_told c.args.size c.args.address c.args.values.now (length c.args.values.now) c.in_ok-done.done _ _ (told (g.D.Dmi.seen c.store_run.new.link))
    c.requires.ready c.requires.aligned c.requires.ends c.requires.room c.requires.some c.in_ok-done.ensures.stores).ready
    c.requires.aligned c.requires.ends
    (below_count c.in_ok-done.done (length c.args.values.now)
    (stores_few c.args.size c.args.address c.args.values.now (length c.args.values.now) c.in_ok-done.done (told (g.D.Dmi.seen c.args.link.now))
    (told (g.D.Dmi.seen c.store_run.new.link)) c.in_ok-done.ensures.stores) c.if-done-values.false)
    c.in_err-store_awaited.ensures.failed)

-- the words of those behind are some of all of them
words_behind : (values : List ℕ) (done : ℕ) → done ≤ length values → words_from values done (length values - done) ≤ data_words values
words_behind values done within =
    let e : words_from values 0 (length values) ≡ words_from values 0 done + words_from values done (length values - done) =
    words_front values done (length values) within in
    omega (arith, e)

pub returns-in_err-done-clause-few_failed : goal.returns-in_err-done-clause-few_failed
returns-in_err-done-clause-few_failed g c =
    err_failed c.from_residual.result c.in_err-done.field-0.0 _ c.from_residual.ensures.1
    (unbroken_more (data_words c.args.values.now + 9) (2 * data_words c.args.values.now + 14) (told (g.D.Dmi.seen c.args.link.now))
    (told (g.D.Dmi.seen c.store_run.new.link)) c.in_err-done.field-0.0 (omega arith)
    (stores_fell_spent c.args.size c.args.address c.args.values.now (length c.args.values.now) _ _ (told (g.D.Dmi.seen c.args.link.now))
    (told (g.D.Dmi.seen c.store_run.new.link)) c.in_err-done.field-0.0 c.in_err-done.ensures.fell))

pub returns-then-done-values-clause-few : goal.returns-then-done-values-clause-few
returns-then-done-values-clause-few g c =
    within_more (data_words c.args.values.now + 9) (2 * data_words c.args.values.now + 14) (told (g.D.Dmi.seen c.args.link.now))
    (told (g.D.Dmi.seen c.store_run.new.link)) (omega arith)
    (run_stores_spent c.args.size c.args.address c.args.values.now (length c.args.values.now) c.in_ok-done.done (told (g.D.Dmi.seen c.args.link.now))
    (told (g.D.Dmi.seen c.store_run.new.link)) c.in_ok-done.ensures.stores)

pub returns-clause-few : goal.returns-clause-few
returns-clause-few g c =
    let within = stores_few c.args.size c.args.address c.args.values.now (length c.args.values.now) c.in_ok-done.done (told (g.D.Dmi.seen c.args.link.now))
    (told (g.D.Dmi.seen c.store_run.new.link)) c.in_ok-done.ensures.stores in
    within_then (data_words c.args.values.now + 9) (words_from c.args.values.now c.in_ok-done.done (length c.args.values.now - c.in_ok-done.done) + 4)
    (2 * data_words c.args.values.now + 14) (told (g.D.Dmi.seen c.args.link.now)) (told (g.D.Dmi.seen c.store_run.new.link))
    (told (g.D.Dmi.seen c.store_awaited.new.link)) (omega (arith, words_behind c.args.values.now c.in_ok-done.done within))
    (run_stores_spent c.args.size c.args.address c.args.values.now (length c.args.values.now) c.in_ok-done.done (told (g.D.Dmi.seen c.args.link.now))
    (told (g.D.Dmi.seen c.store_run.new.link)) c.in_ok-done.ensures.stores)
    (awaited_stores_spent c.args.size c.args.address c.args.values.now c.in_ok-done.done (length c.args.values.now)
    (told (g.D.Dmi.seen c.store_run.new.link)) (told (g.D.Dmi.seen c.store_awaited.new.link)) c.in_ok-store_awaited.ensures.stored)

pub returns-in_err-store_awaited-clause-few_failed : goal.returns-in_err-store_awaited-clause-few_failed
returns-in_err-store_awaited-clause-few_failed g c =
    let within = stores_few c.args.size c.args.address c.args.values.now (length c.args.values.now) c.in_ok-done.done (told (g.D.Dmi.seen c.args.link.now))
    (told (g.D.Dmi.seen c.store_run.new.link)) c.in_ok-done.ensures.stores in
    err_failed c.from_residual-in_err-store_awaited.result c.in_err-store_awaited.field-0.0 _ c.from_residual-in_err-store_awaited.ensures.1
    (unbroken_behind (data_words c.args.values.now + 9) (words_from c.args.values.now c.in_ok-done.done (length c.args.values.now - c.in_ok-done.done) + 5)
    (2 * data_words c.args.values.now + 14) (told (g.D.Dmi.seen c.args.link.now)) (told (g.D.Dmi.seen c.store_run.new.link))
    (told (g.D.Dmi.seen c.store_awaited.new.link)) c.in_err-store_awaited.field-0.0
    (omega (arith, words_behind c.args.values.now c.in_ok-done.done within))
    (run_stores_spent c.args.size c.args.address c.args.values.now (length c.args.values.now) c.in_ok-done.done (told (g.D.Dmi.seen c.args.link.now))
    (told (g.D.Dmi.seen c.store_run.new.link)) c.in_ok-done.ensures.stores)
    (awaited_stores_failed c.args.size c.args.address c.args.values.now c.in_ok-done.done (length c.args.values.now) _ _
    (told (g.D.Dmi.seen c.store_run.new.link)) (told (g.D.Dmi.seen c.store_awaited.new.link)) c.in_err-store_awaited.field-0.0
    c.in_err-store_awaited.ensures.failed))

pub returns-in_err-done-clause-rises : goal.returns-in_err-done-clause-rises
returns-in_err-done-clause-rises g c =
    rises_more (data_words c.args.values.now + 10) (bus_values_rises c.args.values.now) _ _ c.store_run.ensures.rises (omega arith)

pub returns-then-done-values-clause-rises : goal.returns-then-done-values-clause-rises
returns-then-done-values-clause-rises g c =
    rises_more (data_words c.args.values.now + 10) (bus_values_rises c.args.values.now) _ _ c.store_run.ensures.rises (omega arith)

pub returns-in_err-store_awaited-clause-rises : goal.returns-in_err-store_awaited-clause-rises
returns-in_err-store_awaited-clause-rises g c =
    let within = stores_few c.args.size c.args.address c.args.values.now (length c.args.values.now) c.in_ok-done.done (told (g.D.Dmi.seen c.args.link.now))
    (told (g.D.Dmi.seen c.store_run.new.link)) c.in_ok-done.ensures.stores in
    rises_then (data_words c.args.values.now + 10)
    (words_from c.args.values.now c.in_ok-done.done (length c.args.values.now - c.in_ok-done.done) + 2 * length c.args.values.now + 4)
    (bus_values_rises c.args.values.now) _ (g.D.Dmi.seen c.store_run.new.link) _ c.store_run.ensures.rises c.store_awaited.ensures.rises
    c.store_run.ensures.keeps.fixed (omega (arith, words_behind c.args.values.now c.in_ok-done.done within))

pub returns-clause-rises : goal.returns-clause-rises
returns-clause-rises g c =
    let within = stores_few c.args.size c.args.address c.args.values.now (length c.args.values.now) c.in_ok-done.done (told (g.D.Dmi.seen c.args.link.now))
    (told (g.D.Dmi.seen c.store_run.new.link)) c.in_ok-done.ensures.stores in
    rises_then (data_words c.args.values.now + 10)
    (words_from c.args.values.now c.in_ok-done.done (length c.args.values.now - c.in_ok-done.done) + 2 * length c.args.values.now + 4)
    (bus_values_rises c.args.values.now) _ (g.D.Dmi.seen c.store_run.new.link) _ c.store_run.ensures.rises c.store_awaited.ensures.rises
    c.store_run.ensures.keeps.fixed (omega (arith, words_behind c.args.values.now c.in_ok-done.done within))

pub returns-in_err-store_awaited-clause-never : goal.returns-in_err-store_awaited-clause-never
returns-in_err-store_awaited-clause-never g c =
    lost_behind c.from_residual-in_err-store_awaited.result _ (g.D.Dmi.seen c.args.link.now) (g.D.Dmi.seen c.store_run.new.link) c.in_err-store_awaited.field-0.0
    c.from_residual-in_err-store_awaited.ensures.1 c.store_run.ensures.rises c.in_err-store_awaited.ensures.never
