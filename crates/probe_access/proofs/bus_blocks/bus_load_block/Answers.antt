use Rattle.debug_model.proofs.RiseLemmas.{within_more as rises_more, within_then as rises_then}
use Rattle.std.proofs.Common.{◌≢◌, ◌∙◌, ◌≤◌, ◌<◌, ◌+◌, ◌-◌, ◌*◌, ℕ, List, length, arith}
use Rattle.probe_run.specs.Told.{told}
use Rattle.probe_access.specs.BusBlockRuns.{BusLoads}
use Rattle.probe_access.proofs.BusLoadAwaitFaults.{await_causes, await_cut, await_left, await_ready, await_refused}
use Rattle.probe_access.proofs.BusLoadAwaitTold.{loads_awaited}
use Rattle.probe_access.proofs.BusSpent.{all_awaited_spent, awaited_loads_failed, unbroken_behind, within_more, within_then}
use Rattle.probe_access.proofs.RegisterCalls.{err_failed}
use Rattle.probe_access.proofs.CommandNever.{lost_behind}
use Rattle.probe_access.proofs.bus_blocks.bus_load_block.Goals as goal

below_len : (count : ℕ) (values : List ℕ) → length values ≤ count → length values ≢ count → length values < count
below_len count values within other = omega (arith, within, other)

pub returns-in_err-load_awaited-clause-refused : goal.returns-in_err-load_awaited-clause-refused
returns-in_err-load_awaited-clause-refused g c =
    err_failed c.from_residual-in_err-load_awaited.result c.in_err-load_awaited.field-0.0 _ c.from_residual-in_err-load_awaited.ensures.1
    (await_refused c.args.size c.args.address c.args.count _ _ c.load_runs.new.into.items c.load_awaited.new.into.items (told (g.D.Dmi.seen c.args.link.now))
    (told (g.D.Dmi.seen c.load_runs.new.link)) (told (g.D.Dmi.seen c.load_awaited.new.link)) c.in_err-load_awaited.field-0.0
    c.in_ok-load_runs.ensures.loads c.in_err-load_awaited.ensures.failed)

pub returns-in_err-load_awaited-clause-causes : goal.returns-in_err-load_awaited-clause-causes
returns-in_err-load_awaited-clause-causes g c =
    err_failed c.from_residual-in_err-load_awaited.result c.in_err-load_awaited.field-0.0 _ c.from_residual-in_err-load_awaited.ensures.1
    (await_causes c.args.size c.args.address c.args.count _ _ _ c.load_runs.new.into.items c.load_awaited.new.into.items
    (told (g.D.Dmi.seen c.args.link.now)) (told (g.D.Dmi.seen c.load_runs.new.link)) (told (g.D.Dmi.seen c.load_awaited.new.link))
    c.in_err-load_awaited.field-0.0 c.load_runs.ensures.keeps.later c.load_awaited.ensures.keeps.later c.in_ok-load_runs.ensures.loads
    c.in_err-load_awaited.ensures.failed)

pub returns-in_err-load_awaited-clause-left : goal.returns-in_err-load_awaited-clause-left
returns-in_err-load_awaited-clause-left g c =
    err_failed c.from_residual-in_err-load_awaited.result c.in_err-load_awaited.field-0.0 _ c.from_residual-in_err-load_awaited.ensures.1
    (await_left c.args.size c.args.address c.args.count _ _ c.load_runs.new.into.items c.load_awaited.new.into.items _
    (told (g.D.Dmi.seen c.load_runs.new.link)) (told (g.D.Dmi.seen c.load_awaited.new.link)) c.in_err-load_awaited.field-0.0
    c.in_ok-load_runs.ensures.loaded c.in_ok-load_runs.ensures.ready c.requires.aligned c.requires.ends c.in_err-load_awaited.ensures.failed)

pub returns-in_err-load_awaited-clause-ready_again : goal.returns-in_err-load_awaited-clause-ready_again
returns-in_err-load_awaited-clause-ready_again g c =
    err_failed c.from_residual-in_err-load_awaited.result c.in_err-load_awaited.field-0.0 _ c.from_residual-in_err-load_awaited.ensures.1
    (await_ready c.args.size c.args.address c.args.count _ _ c.load_runs.new.into.items c.load_awaited.new.into.items _
    (told (g.D.Dmi.seen c.load_runs.new.link)) (told (g.D.Dmi.seen c.load_awaited.new.link)) c.in_err-load_awaited.field-0.0
    c.in_ok-load_runs.ensures.loaded c.in_ok-load_runs.ensures.ready c.requires.aligned c.requires.ends c.in_err-load_awaited.ensures.failed)

pub returns-in_err-load_awaited-clause-cut : goal.returns-in_err-load_awaited-clause-cut
returns-in_err-load_awaited-clause-cut g c =
    err_failed c.from_residual-in_err-load_awaited.result c.in_err-load_awaited.field-0.0 _ c.from_residual-in_err-load_awaited.ensures.1
    (await_cut c.args.size c.args.address c.args.count _ _ c.load_runs.new.into.items c.load_awaited.new.into.items _
    (told (g.D.Dmi.seen c.load_runs.new.link)) (told (g.D.Dmi.seen c.load_awaited.new.link)) c.in_err-load_awaited.field-0.0
    c.in_ok-load_runs.ensures.loaded c.in_ok-load_runs.ensures.ready c.requires.aligned c.requires.ends
    (below_len c.args.count c.load_runs.new.into.items c.in_ok-load_runs.ensures.most
    (λ all. c.if-len-count.false (c.len.ensures.value ∙ all)))
    c.in_err-load_awaited.ensures.failed)

pub returns-clause-loaded : goal.returns-clause-loaded
returns-clause-loaded g c =
    (loads_awaited c.args.size c.args.address c.args.count c.load_runs.new.into.items c.load_awaited.new.into.items _
    (told (g.D.Dmi.seen c.load_runs.new.link)) (told (g.D.Dmi.seen c.load_awaited.new.link)) c.in_ok-load_runs.ensures.loaded
    c.in_ok-load_runs.ensures.ready c.requires.aligned c.requires.ends c.in_ok-load_awaited.ensures.loaded).loaded

pub returns-clause-ready : goal.returns-clause-ready
returns-clause-ready g c =
    (loads_awaited c.args.size c.args.address c.args.count c.load_runs.new.into.items c.load_awaited.new.into.items _
    (told (g.D.Dmi.seen c.load_runs.new.link)) (told (g.D.Dmi.seen c.load_awaited.new.link)) c.in_ok-load_runs.ensures.loaded
    c.in_ok-load_runs.ensures.ready c.requires.aligned c.requires.ends c.in_ok-load_awaited.ensures.loaded).ready

pub returns-clause-loads : goal.returns-clause-loads
returns-clause-loads g c =
    BusLoads.awaited c.args.count c.load_runs.new.into.items c.load_awaited.new.into.items (told (g.D.Dmi.seen c.load_runs.new.link)) _
    c.in_ok-load_runs.ensures.loads c.in_ok-load_awaited.ensures.loaded

pub returns-then-len-count-clause-few : goal.returns-then-len-count-clause-few
returns-then-len-count-clause-few g c =
    let m : length c.load_runs.new.into.items ≤ c.args.count = c.in_ok-load_runs.ensures.most in
    within_more ((c.args.count + 19) + 2 * length c.load_runs.new.into.items) (3 * c.args.count + 24) (told (g.D.Dmi.seen c.args.link.now))
    (told (g.D.Dmi.seen c.load_runs.new.link)) (omega (arith, m)) c.in_ok-load_runs.ensures.few

pub returns-clause-few : goal.returns-clause-few
returns-clause-few g c =
    let m : length c.load_runs.new.into.items ≤ c.args.count = c.in_ok-load_runs.ensures.most in
    within_then ((c.args.count + 19) + 2 * length c.load_runs.new.into.items) (2 * (c.args.count - length c.load_runs.new.into.items) + 5)
    (3 * c.args.count + 24) (told (g.D.Dmi.seen c.args.link.now)) (told (g.D.Dmi.seen c.load_runs.new.link))
    (told (g.D.Dmi.seen c.load_awaited.new.link)) (omega (arith, m)) c.in_ok-load_runs.ensures.few
    (all_awaited_spent c.args.size c.args.address c.args.count c.load_runs.new.into.items c.load_awaited.new.into.items
    (told (g.D.Dmi.seen c.load_runs.new.link)) (told (g.D.Dmi.seen c.load_awaited.new.link)) c.in_ok-load_awaited.ensures.loaded)

pub returns-in_err-load_awaited-clause-few_failed : goal.returns-in_err-load_awaited-clause-few_failed
returns-in_err-load_awaited-clause-few_failed g c =
    let m : length c.load_runs.new.into.items ≤ c.args.count = c.in_ok-load_runs.ensures.most in
    err_failed c.from_residual-in_err-load_awaited.result c.in_err-load_awaited.field-0.0 _ c.from_residual-in_err-load_awaited.ensures.1
    (unbroken_behind ((c.args.count + 19) + 2 * length c.load_runs.new.into.items) (2 * (c.args.count - length c.load_runs.new.into.items) + 5)
    (3 * c.args.count + 24) (told (g.D.Dmi.seen c.args.link.now)) (told (g.D.Dmi.seen c.load_runs.new.link))
    (told (g.D.Dmi.seen c.load_awaited.new.link)) c.in_err-load_awaited.field-0.0 (omega (arith, m)) c.in_ok-load_runs.ensures.few
    (awaited_loads_failed c.args.size c.args.address c.args.count _ _ c.load_runs.new.into.items c.load_awaited.new.into.items
    (told (g.D.Dmi.seen c.load_runs.new.link)) (told (g.D.Dmi.seen c.load_awaited.new.link)) c.in_err-load_awaited.field-0.0
    c.in_err-load_awaited.ensures.failed))

pub returns-in_err-load_runs-clause-rises : goal.returns-in_err-load_runs-clause-rises
returns-in_err-load_runs-clause-rises g c =
    rises_more (2 * c.args.count + 22) (6 * c.args.count + 26) _ _ c.load_runs.ensures.rises (omega arith)

pub returns-then-len-count-clause-rises : goal.returns-then-len-count-clause-rises
returns-then-len-count-clause-rises g c =
    rises_more (2 * c.args.count + 22) (6 * c.args.count + 26) _ _ c.load_runs.ensures.rises (omega arith)

pub returns-in_err-load_awaited-clause-rises : goal.returns-in_err-load_awaited-clause-rises
returns-in_err-load_awaited-clause-rises g c =
    rises_then (2 * c.args.count + 22) (4 * c.args.count + 4) (6 * c.args.count + 26) _ (g.D.Dmi.seen c.load_runs.new.link) _ c.load_runs.ensures.rises
    c.load_awaited.ensures.rises
    c.load_runs.ensures.keeps.fixed (omega arith)

pub returns-clause-rises : goal.returns-clause-rises
returns-clause-rises g c =
    rises_then (2 * c.args.count + 22) (4 * c.args.count + 4) (6 * c.args.count + 26) _ (g.D.Dmi.seen c.load_runs.new.link) _ c.load_runs.ensures.rises
    c.load_awaited.ensures.rises
    c.load_runs.ensures.keeps.fixed (omega arith)

pub returns-in_err-load_awaited-clause-never : goal.returns-in_err-load_awaited-clause-never
returns-in_err-load_awaited-clause-never g c =
    lost_behind c.from_residual-in_err-load_awaited.result (2 * c.args.count + 22) (g.D.Dmi.seen c.args.link.now) (g.D.Dmi.seen c.load_runs.new.link) c.in_err-load_awaited.field-0.0
    c.from_residual-in_err-load_awaited.ensures.1 c.load_runs.ensures.rises c.in_err-load_awaited.ensures.never
