use Rattle.debug_model.proofs.RiseLemmas.{within_more, within_then}
use Rattle.std.proofs.Common.{refl, ◌+◌, length, arith}
use Rattle.probe_run.specs.Told.{told}
use Rattle.probe_access.specs.BusStoreStreams.{RunStores, StoresOddly, data_words}
use Rattle.probe_access.proofs.BusStoreParts.{all_stored, count_fell, find_fell, run_fell, stopped_of}
use Rattle.probe_access.proofs.BusStreamParts.{too_early}
use Rattle.probe_access.proofs.RegisterCalls.{err_failed}
use Rattle.probe_access.proofs.bus_store_runs.store_run.Goals as goal

pub returns-in_err-last-clause-fell : goal.returns-in_err-last-clause-fell
returns-in_err-last-clause-fell g c =
    err_failed c.from_residual.result c.in_err-last.field-0.0 _ c.from_residual.ensures.1
    (run_fell c.args.size c.args.address c.args.values.now (length c.args.values.now) _ _ (told (g.D.Dmi.seen c.args.link.now)) (told
    (g.D.Dmi.seen c.run.new.link))
    c.in_err-last.field-0.0 c.in_err-last.ensures.failed)

pub returns-then-is_fine-clause-stores : goal.returns-then-is_fine-clause-stores
returns-then-is_fine-clause-stores g c =
    let fine = c.is_fine.ensures.fine c.if-is_fine.true in
    all_stored c.args.size c.args.address c.args.values.now (length c.args.values.now) c.in_ok-last.last (told (g.D.Dmi.seen c.args.link.now))
    (told (g.D.Dmi.seen c.run.new.link)) c.in_ok-last.ensures.polled fine.0 fine.1

pub returns-then-is_other-clause-fell : goal.returns-then-is_other-clause-fell
returns-then-is_other-clause-fell g c =
    let other = c.is_other.ensures.other c.if-is_other.true in
    StoresOddly.other c.in_ok-last.last refl c.in_ok-last.ensures.polled other.0 other.1

pub returns-in_err-held-clause-fell : goal.returns-in_err-held-clause-fell
returns-in_err-held-clause-fell g c =
    err_failed c.from_residual-in_err-held.result _ _ c.from_residual-in_err-held.ensures.1
    (find_fell c.args.size c.args.address c.args.values.now (length c.args.values.now) c.in_ok-last.last _ _ _ (told (g.D.Dmi.seen c.args.link.now))
    (told (g.D.Dmi.seen c.run.new.link)) (told (g.D.Dmi.seen c.find.new.link)) c.in_err-held.field-0.0 c.in_ok-last.ensures.polled
    c.run.ensures.keeps.later c.find.ensures.keeps.later c.in_err-held.ensures.broke)

pub returns-in_err-done-clause-fell : goal.returns-in_err-done-clause-fell
returns-in_err-done-clause-fell g c =
    err_failed c.from_residual-in_err-done.result c.in_err-done.field-0.0 _ c.from_residual-in_err-done.ensures.1
    (count_fell c.args.size c.args.address c.args.values.now (length c.args.values.now) c.in_ok-last.last c.in_ok-held.held.address c.in_ok-held.held.value _ _
    (told (g.D.Dmi.seen c.args.link.now)) (told (g.D.Dmi.seen c.run.new.link)) (told (g.D.Dmi.seen c.find.new.link)) c.in_err-done.field-0.0
    c.in_ok-last.ensures.polled (c.is_fine.ensures.not_fine c.if-is_fine.false) c.in_ok-held.ensures.found c.in_err-done.ensures.fell)

pub returns-clause-stores : goal.returns-clause-stores
returns-clause-stores g c =
    let counted = c.in_ok-done.ensures.counted in
    let end = too_early c.in_ok-last.last (c.is_fine.ensures.not_fine c.if-is_fine.false) (c.is_other.ensures.none_other c.if-is_other.false) counted.0 in
    RunStores.some c.in_ok-last.last
    (stopped_of c.args.size c.args.address c.args.values.now (length c.args.values.now) c.in_ok-last.last c.in_ok-held.held.address c.in_ok-held.held.value
    c.in_ok-done.done (told (g.D.Dmi.seen c.args.link.now)) (told (g.D.Dmi.seen c.run.new.link)) (told (g.D.Dmi.seen c.find.new.link))
    c.in_ok-last.ensures.polled c.in_ok-held.ensures.found counted.1) end.0 end.1

pub returns-in_err-last-clause-rises : goal.returns-in_err-last-clause-rises
returns-in_err-last-clause-rises g c =
    within_more (data_words c.args.values.now + 5) (data_words c.args.values.now + 10) _ _ c.run.ensures.rises (omega arith)

pub returns-then-is_fine-clause-rises : goal.returns-then-is_fine-clause-rises
returns-then-is_fine-clause-rises g c =
    within_more (data_words c.args.values.now + 5) (data_words c.args.values.now + 10) _ _ c.run.ensures.rises (omega arith)

pub returns-then-is_other-clause-rises : goal.returns-then-is_other-clause-rises
returns-then-is_other-clause-rises g c =
    within_more (data_words c.args.values.now + 5) (data_words c.args.values.now + 10) _ _ c.run.ensures.rises (omega arith)

pub returns-in_err-held-clause-rises : goal.returns-in_err-held-clause-rises
returns-in_err-held-clause-rises g c =
    within_then (data_words c.args.values.now + 5) 5 (data_words c.args.values.now + 10) _
    (g.D.Dmi.seen c.run.new.link) _ c.run.ensures.rises c.find.ensures.rises
    c.run.ensures.keeps.fixed (omega arith)

pub returns-in_err-done-clause-rises : goal.returns-in_err-done-clause-rises
returns-in_err-done-clause-rises g c =
    within_then (data_words c.args.values.now + 5) 5 (data_words c.args.values.now + 10) _
    (g.D.Dmi.seen c.run.new.link) _ c.run.ensures.rises c.find.ensures.rises
    c.run.ensures.keeps.fixed (omega arith)

pub returns-clause-rises : goal.returns-clause-rises
returns-clause-rises g c =
    within_then (data_words c.args.values.now + 5) 5 (data_words c.args.values.now + 10) _
    (g.D.Dmi.seen c.run.new.link) _ c.run.ensures.rises c.find.ensures.rises
    c.run.ensures.keeps.fixed (omega arith)
