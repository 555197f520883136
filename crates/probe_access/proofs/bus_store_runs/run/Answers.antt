use Rattle.debug_model.proofs.RiseLemmas.{within_more, within_then}
use Rattle.std.proofs.Common.{arith, ◌∙◌, ◌+◌, length, subst}
use Rattle.probe_run.specs.Acts.{Did}
use Rattle.probe_run.specs.Told.{told}
use Rattle.probe_access.specs.BusRuns.{Starting}
use Rattle.probe_access.specs.BusStoreStreams.{data_words, stores_started}
use Rattle.probe_access.specs.Faults.{BrokeIn}
use Rattle.probe_access.proofs.BusStoreParts.{asked_did, begin_failed, polled_of, polls_failed, puts_failed}
use Rattle.probe_access.proofs.RegisterCalls.{err_failed}
use Rattle.probe_access.proofs.bus_store_runs.run.Goals as goal

pub returns-in_err-start_stores-clause-failed : goal.returns-in_err-start_stores-clause-failed
returns-in_err-start_stores-clause-failed g c =
    err_failed c.from_residual.result _ _ c.from_residual.ensures.1
    (begin_failed c.args.size c.args.address c.args.values.now (length c.args.values.now) _ _ (told (g.D.Dmi.seen c.args.link.now))
    (told (g.D.Dmi.seen c.start_stores.new.link)) c.in_err-start_stores.field-0.0
    (subst (λ u. BrokeIn (Starting (stores_started c.args.size c.args.address u)) (g.D.Dmi.seen c.args.link.now).fault_count
    (g.D.Dmi.seen c.start_stores.new.link).fault_count (told (g.D.Dmi.seen c.args.link.now)) (g.D.Dmi.seen c.start_stores.new.link).far
    c.in_err-start_stores.field-0.0) c.upper_before.ensures c.in_err-start_stores.ensures.broke))

pub returns-in_err-write_elements-clause-failed : goal.returns-in_err-write_elements-clause-failed
returns-in_err-write_elements-clause-failed g c =
    err_failed c.from_residual-in_err-write_elements.result _ _ c.from_residual-in_err-write_elements.ensures.1
    (puts_failed c.args.size c.args.address c.args.values.now (length c.args.values.now) _ _ _ (told (g.D.Dmi.seen c.args.link.now))
    (told (g.D.Dmi.seen c.start_stores.new.link)) (told (g.D.Dmi.seen c.write_elements.new.link)) c.in_err-write_elements.field-0.0
    (subst (λ u. Did (told (g.D.Dmi.seen c.args.link.now)) (stores_started c.args.size c.args.address u) (told (g.D.Dmi.seen c.start_stores.new.link)))
    c.upper_before.ensures c.in_ok-start_stores.ensures.did) c.start_stores.ensures.keeps.later c.write_elements.ensures.keeps.later
    c.in_err-write_elements.ensures.broke)

pub returns-in_err-last-clause-failed : goal.returns-in_err-last-clause-failed
returns-in_err-last-clause-failed g c =
    err_failed c.from_residual-in_err-last.result c.in_err-last.field-0.0 _ c.from_residual-in_err-last.ensures.1
    (polls_failed c.args.size c.args.address c.args.values.now (length c.args.values.now) _ _ _ (told (g.D.Dmi.seen c.args.link.now))
    (told (g.D.Dmi.seen c.write_elements.new.link)) (told (g.D.Dmi.seen c.poll_bus.new.link)) c.in_err-last.field-0.0
    (asked_did c.args.size c.args.address c.args.values.now (length c.args.values.now) _ (told (g.D.Dmi.seen c.start_stores.new.link)) _
    (subst (λ u. Did (told (g.D.Dmi.seen c.args.link.now)) (stores_started c.args.size c.args.address u) (told (g.D.Dmi.seen c.start_stores.new.link)))
    c.upper_before.ensures c.in_ok-start_stores.ensures.did) c.in_ok-write_elements.ensures.did)
    (omega (arith, c.start_stores.ensures.keeps.later, c.write_elements.ensures.keeps.later)) c.poll_bus.ensures.keeps.later c.in_err-last.ensures.failed)

pub returns-clause-polled : goal.returns-clause-polled
returns-clause-polled g c =
    polled_of c.args.size c.args.address c.args.values.now (length c.args.values.now) c.in_ok-last.last (told (g.D.Dmi.seen c.args.link.now))
    (told (g.D.Dmi.seen c.write_elements.new.link)) (told (g.D.Dmi.seen c.poll_bus.new.link))
    (asked_did c.args.size c.args.address c.args.values.now (length c.args.values.now) _ (told (g.D.Dmi.seen c.start_stores.new.link)) _
    (subst (λ u. Did (told (g.D.Dmi.seen c.args.link.now)) (stores_started c.args.size c.args.address u) (told (g.D.Dmi.seen c.start_stores.new.link)))
    c.upper_before.ensures c.in_ok-start_stores.ensures.did) c.in_ok-write_elements.ensures.did) c.in_ok-last.ensures.polled

pub returns-in_err-start_stores-clause-rises : goal.returns-in_err-start_stores-clause-rises
returns-in_err-start_stores-clause-rises g c =
    within_more 4 (data_words c.args.values.now + 5) _ _ c.start_stores.ensures.rises (omega arith)

pub returns-in_err-write_elements-clause-rises : goal.returns-in_err-write_elements-clause-rises
returns-in_err-write_elements-clause-rises g c =
    within_then 4 (data_words c.args.values.now) (data_words c.args.values.now + 5) _
    (g.D.Dmi.seen c.start_stores.new.link) _ c.start_stores.ensures.rises c.write_elements.ensures.rises
    c.start_stores.ensures.keeps.fixed (omega arith)

pub returns-in_err-last-clause-rises : goal.returns-in_err-last-clause-rises
returns-in_err-last-clause-rises g c =
    within_then (data_words c.args.values.now + 4) 1 (data_words c.args.values.now + 5) _ (g.D.Dmi.seen c.write_elements.new.link) _ (within_then 4
    (data_words c.args.values.now) (data_words c.args.values.now + 4) _
    (g.D.Dmi.seen c.start_stores.new.link) _ c.start_stores.ensures.rises c.write_elements.ensures.rises c.start_stores.ensures.keeps.fixed (omega arith))
    c.poll_bus.ensures.rises
    (c.write_elements.ensures.keeps.fixed ∙ c.start_stores.ensures.keeps.fixed) (omega arith)

pub returns-clause-rises : goal.returns-clause-rises
returns-clause-rises g c =
    within_then (data_words c.args.values.now + 4) 1 (data_words c.args.values.now + 5) _ (g.D.Dmi.seen c.write_elements.new.link) _ (within_then 4
    (data_words c.args.values.now) (data_words c.args.values.now + 4) _
    (g.D.Dmi.seen c.start_stores.new.link) _ c.start_stores.ensures.rises c.write_elements.ensures.rises c.start_stores.ensures.keeps.fixed (omega arith))
    c.poll_bus.ensures.rises
    (c.write_elements.ensures.keeps.fixed ∙ c.start_stores.ensures.keeps.fixed) (omega arith)
