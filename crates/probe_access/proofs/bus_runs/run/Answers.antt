use Rattle.debug_model.proofs.RiseLemmas.{within_more, within_then}
use Rattle.std.proofs.Common.{arith, ◌+◌, ◌-◌, ◌*◌, ◌∙◌}
use Rattle.probe_run.specs.Told.{told}
use Rattle.probe_access.proofs.BusStreamParts.{end_failed, front_failed, front_read, polls_failed, run_read, start_failed}
use Rattle.probe_access.proofs.RegisterCalls.{err_failed}
use Rattle.probe_access.proofs.CommandNever.{lost_behind}
use Rattle.probe_access.proofs.NeverLemmas.{lost_then}
use Rattle.probe_access.proofs.bus_runs.run.Goals as goal

pub returns-in_err-start_run-clause-failed : goal.returns-in_err-start_run-clause-failed
returns-in_err-start_run-clause-failed g c =
    err_failed c.from_residual.result _ _ c.from_residual.ensures.1
    (start_failed c.args.size c.args.address c.args.count _ _ (told (g.D.Dmi.seen c.args.link.now)) (told (g.D.Dmi.seen c.start_run.new.link))
    c.in_err-start_run.field-0.0 c.in_err-start_run.ensures.broke)

pub returns-in_err-read_elements-clause-failed : goal.returns-in_err-read_elements-clause-failed
returns-in_err-read_elements-clause-failed g c =
    err_failed c.from_residual-in_err-read_elements.result _ _ c.from_residual-in_err-read_elements.ensures.1
    (front_failed c.args.size c.args.address c.args.count _ _ _ (told (g.D.Dmi.seen c.args.link.now)) (told (g.D.Dmi.seen c.start_run.new.link))
    (told (g.D.Dmi.seen c.read_elements.new.link)) c.in_err-read_elements.field-0.0 c.requires.some c.in_ok-start_run.ensures.did
    c.start_run.ensures.keeps.later c.read_elements.ensures.keeps.later c.in_err-read_elements.ensures.broke)

pub returns-in_err-shown-clause-failed : goal.returns-in_err-shown-clause-failed
returns-in_err-shown-clause-failed g c =
    err_failed c.from_residual-in_err-shown.result _ _ c.from_residual-in_err-shown.ensures.1
    (end_failed c.args.size c.args.address c.args.count _ _ _ c.read_elements.new.into.items (told (g.D.Dmi.seen c.args.link.now))
    (told (g.D.Dmi.seen c.read_elements.new.link)) (told (g.D.Dmi.seen c.end_run.new.link)) c.in_err-shown.field-0.0
    (front_read c.args.size c.args.address c.args.count c.args.into.now.items c.read_elements.new.into.items _ (told (g.D.Dmi.seen c.start_run.new.link)) _
    c.requires.empty c.requires.some c.in_ok-start_run.ensures.did c.in_ok-read_elements.ensures.read)
    (omega (arith, c.start_run.ensures.keeps.later, c.read_elements.ensures.keeps.later)) c.end_run.ensures.keeps.later c.in_err-shown.ensures.broke)

pub returns-in_err-last-clause-failed : goal.returns-in_err-last-clause-failed
returns-in_err-last-clause-failed g c =
    err_failed c.from_residual-in_err-last.result c.in_err-last.field-0.0 _ c.from_residual-in_err-last.ensures.1
    (polls_failed c.args.size c.args.address c.args.count _ _ _ c.in_ok-shown.shown c.read_elements.new.into.items c.end_run.new.into.items
    (told (g.D.Dmi.seen c.args.link.now)) (told (g.D.Dmi.seen c.read_elements.new.link)) (told (g.D.Dmi.seen c.end_run.new.link))
    (told (g.D.Dmi.seen c.await_end.new.link)) c.in_err-last.field-0.0
    (front_read c.args.size c.args.address c.args.count c.args.into.now.items c.read_elements.new.into.items _ (told (g.D.Dmi.seen c.start_run.new.link)) _
    c.requires.empty c.requires.some c.in_ok-start_run.ensures.did c.in_ok-read_elements.ensures.read) c.in_ok-shown.ensures.read
    (omega (arith, c.start_run.ensures.keeps.later, c.read_elements.ensures.keeps.later, c.end_run.ensures.keeps.later))
    c.await_end.ensures.keeps.later c.in_err-last.ensures.failed)

pub returns-clause-read : goal.returns-clause-read
returns-clause-read g c =
    run_read c.args.size c.args.address c.args.count c.in_ok-shown.shown c.in_ok-last.last c.read_elements.new.into.items c.end_run.new.into.items
    (told (g.D.Dmi.seen c.args.link.now)) (told (g.D.Dmi.seen c.read_elements.new.link)) (told (g.D.Dmi.seen c.end_run.new.link))
    (told (g.D.Dmi.seen c.await_end.new.link))
    (front_read c.args.size c.args.address c.args.count c.args.into.now.items c.read_elements.new.into.items _ (told (g.D.Dmi.seen c.start_run.new.link)) _
    c.requires.empty c.requires.some c.in_ok-start_run.ensures.did c.in_ok-read_elements.ensures.read) c.in_ok-shown.ensures.read c.in_ok-last.ensures.polled

pub returns-in_err-start_run-clause-rises : goal.returns-in_err-start_run-clause-rises
returns-in_err-start_run-clause-rises g c =
    within_more 3 (2 * c.args.count + 6) _ _ c.start_run.ensures.rises (omega arith)

pub returns-in_err-read_elements-clause-rises : goal.returns-in_err-read_elements-clause-rises
returns-in_err-read_elements-clause-rises g c =
    within_then 3 (2 * (c.args.count - 1)) (2 * c.args.count + 6) _ (g.D.Dmi.seen c.start_run.new.link) _ c.start_run.ensures.rises
    c.read_elements.ensures.rises
    c.start_run.ensures.keeps.fixed (omega (arith, c.requires.some))

pub returns-in_err-shown-clause-rises : goal.returns-in_err-shown-clause-rises
returns-in_err-shown-clause-rises g c =
    within_then (2 * c.args.count + 1) 4 (2 * c.args.count + 6) _ (g.D.Dmi.seen c.read_elements.new.link) _ (within_then 3 (2 * (c.args.count - 1)) (2 *
    c.args.count + 1) _ (g.D.Dmi.seen c.start_run.new.link) _ c.start_run.ensures.rises c.read_elements.ensures.rises c.start_run.ensures.keeps.fixed (omega
    (arith, c.requires.some)))
    c.end_run.ensures.rises
    (c.read_elements.ensures.keeps.fixed ∙ c.start_run.ensures.keeps.fixed) (omega arith)

pub returns-in_err-last-clause-rises : goal.returns-in_err-last-clause-rises
returns-in_err-last-clause-rises g c =
    within_then (2 * c.args.count + 5) 1 (2 * c.args.count + 6) _ (g.D.Dmi.seen c.end_run.new.link) _ (within_then (2 * c.args.count + 1) 4 (2 * c.args.count
    + 5) _ (g.D.Dmi.seen c.read_elements.new.link) _ (within_then 3 (2 * (c.args.count - 1)) (2 * c.args.count + 1) _ (g.D.Dmi.seen c.start_run.new.link) _
    c.start_run.ensures.rises c.read_elements.ensures.rises c.start_run.ensures.keeps.fixed (omega (arith, c.requires.some)))
    c.end_run.ensures.rises
    (c.read_elements.ensures.keeps.fixed ∙ c.start_run.ensures.keeps.fixed) (omega arith))
    c.await_end.ensures.rises
    (c.end_run.ensures.keeps.fixed ∙ c.read_elements.ensures.keeps.fixed ∙ c.start_run.ensures.keeps.fixed) (omega arith)

pub returns-clause-rises : goal.returns-clause-rises
returns-clause-rises g c =
    within_then (2 * c.args.count + 5) 1 (2 * c.args.count + 6) _ (g.D.Dmi.seen c.end_run.new.link) _ (within_then (2 * c.args.count + 1) 4 (2 * c.args.count
    + 5) _ (g.D.Dmi.seen c.read_elements.new.link) _ (within_then 3 (2 * (c.args.count - 1)) (2 * c.args.count + 1) _ (g.D.Dmi.seen c.start_run.new.link) _
    c.start_run.ensures.rises c.read_elements.ensures.rises c.start_run.ensures.keeps.fixed (omega (arith, c.requires.some)))
    c.end_run.ensures.rises
    (c.read_elements.ensures.keeps.fixed ∙ c.start_run.ensures.keeps.fixed) (omega arith))
    c.await_end.ensures.rises
    (c.end_run.ensures.keeps.fixed ∙ c.read_elements.ensures.keeps.fixed ∙ c.start_run.ensures.keeps.fixed) (omega arith)

pub returns-in_err-last-clause-never : goal.returns-in_err-last-clause-never
returns-in_err-last-clause-never g c =
    lost_behind c.from_residual-in_err-last.result 3 (g.D.Dmi.seen c.args.link.now) (g.D.Dmi.seen c.start_run.new.link) c.in_err-last.field-0.0 c.from_residual-in_err-last.ensures.1
    c.start_run.ensures.rises
    (lost_then _ (g.D.Dmi.seen c.start_run.new.link) (g.D.Dmi.seen c.read_elements.new.link) c.in_err-last.field-0.0 c.read_elements.ensures.rises
    (lost_then 4 (g.D.Dmi.seen c.read_elements.new.link) (g.D.Dmi.seen c.end_run.new.link) c.in_err-last.field-0.0 c.end_run.ensures.rises c.in_err-last.ensures.never))
