use Rattle.debug_model.proofs.RiseLemmas.{within_more, within_then}
use Rattle.std.proofs.Common.{arith, ◌∙◌, ◌+◌, ◌*◌}
use Rattle.probe_access.specs.ElementRuns.{StoresFailed, StoresOn}
use Rattle.probe_access.specs.MemoryRuns.AroundFailed.{in_save}
use Rattle.probe_access.proofs.AroundLemmas.{around_gave_up, around_restore}
use Rattle.probe_access.proofs.StoreRunCalls.{stores_counted}
use Rattle.probe_access.proofs.RegisterCalls.{err_failed}
use Rattle.probe_access.proofs.CommandNever.{gave_lost}
use Rattle.probe_access.proofs.NeverLemmas.{lost_then}
use Rattle.probe_access.proofs.blocks.stores_around.Goals as goal

pub returns-in_err-scratch-clause-failed : goal.returns-in_err-scratch-clause-failed
returns-in_err-scratch-clause-failed g c = err_failed _ c.in_err-scratch.field-0.0 _ c.from_residual.ensures.1 (in_save c.in_err-scratch.ensures.failed)

pub returns-in_err-put_back-in-Ok-clause-failed : goal.returns-in_err-put_back-in-Ok-clause-failed
returns-in_err-put_back-in-Ok-clause-failed g c =
    err_failed _ c.in_err-put_back-in-Ok.field-0.0 _ c.from_residual-in_err-put_back-in-Ok.ensures.1
    (around_restore (λ a b. StoresOn c.args.size c.args.address c.args.value c.args.count a c.args.count b)
    (StoresFailed c.args.size c.args.address c.args.value c.args.count)
    c.in_ok-scratch.scratch.x8 c.in_ok-scratch.scratch.x9 _ _ _ _ _ _ _ c.in_err-put_back-in-Ok.field-0.0 c.in_ok-scratch.ensures.saved
    c.in-Ok.ensures.stored
    (omega (arith, c.save_scratch.ensures.keeps.later, c.store_elements.ensures.keeps.later)) c.put_back.ensures.keeps.later
    c.in_err-put_back-in-Ok.ensures.failed)

pub returns-in-Err-clause-failed : goal.returns-in-Err-clause-failed
returns-in-Err-clause-failed g c =
    around_gave_up (λ a b. StoresOn c.args.size c.args.address c.args.value c.args.count a c.args.count b)
    (StoresFailed c.args.size c.args.address c.args.value c.args.count)
    c.in_ok-scratch.scratch.x8 c.in_ok-scratch.scratch.x9 _ _ _ _ _ _ _ _ c.in-Err.fault _ c.in_ok-scratch.ensures.saved c.in-Err.ensures.failed
    (stores_counted c.args.size c.args.address c.args.value c.args.count _ _ _ _ _ c.in-Err.fault c.save_scratch.ensures.keeps.later
    c.store_elements.ensures.keeps.later c.in-Err.ensures.failed)
    (omega (arith, c.save_scratch.ensures.keeps.later, c.store_elements.ensures.keeps.later)) c.give_up.ensures.later c.give_up.ensures.gave_up

pub returns-in_err-scratch-clause-rises : goal.returns-in_err-scratch-clause-rises
returns-in_err-scratch-clause-rises g c =
    within_more 32 (63 * c.args.count + 304) _ _ c.save_scratch.ensures.rises (omega arith)

pub returns-in_err-put_back-in-Ok-clause-rises : goal.returns-in_err-put_back-in-Ok-clause-rises
returns-in_err-put_back-in-Ok-clause-rises g c =
    within_then (63 * c.args.count + 288) 16 (63 * c.args.count + 304) _ (g.D.Dmi.seen c.store_elements.new.link) _ (within_then 32 (63 * c.args.count + 256)
    (63 * c.args.count + 288) _ (g.D.Dmi.seen c.save_scratch.new.link) _ c.save_scratch.ensures.rises c.store_elements.ensures.rises
    c.save_scratch.ensures.keeps.fixed (omega arith))
    c.put_back.ensures.rises
    (c.store_elements.ensures.keeps.fixed ∙ c.save_scratch.ensures.keeps.fixed) (omega arith)

pub returns-in_ok-put_back-in-Ok-clause-rises : goal.returns-in_ok-put_back-in-Ok-clause-rises
returns-in_ok-put_back-in-Ok-clause-rises g c =
    within_then (63 * c.args.count + 288) 16 (63 * c.args.count + 304) _ (g.D.Dmi.seen c.store_elements.new.link) _ (within_then 32 (63 * c.args.count + 256)
    (63 * c.args.count + 288) _ (g.D.Dmi.seen c.save_scratch.new.link) _ c.save_scratch.ensures.rises c.store_elements.ensures.rises
    c.save_scratch.ensures.keeps.fixed (omega arith))
    c.put_back.ensures.rises
    (c.store_elements.ensures.keeps.fixed ∙ c.save_scratch.ensures.keeps.fixed) (omega arith)

pub returns-in-Err-clause-rises : goal.returns-in-Err-clause-rises
returns-in-Err-clause-rises g c =
    within_then (63 * c.args.count + 288) 16 (63 * c.args.count + 304) _ (g.D.Dmi.seen c.store_elements.new.link) _ (within_then 32 (63 * c.args.count + 256)
    (63 * c.args.count + 288) _ (g.D.Dmi.seen c.save_scratch.new.link) _ c.save_scratch.ensures.rises c.store_elements.ensures.rises
    c.save_scratch.ensures.keeps.fixed (omega arith))
    c.give_up.ensures.rises
    (c.store_elements.ensures.keeps.fixed ∙ c.save_scratch.ensures.keeps.fixed) (omega arith)

pub returns-in-Err-clause-never : goal.returns-in-Err-clause-never
returns-in-Err-clause-never g c =
    gave_lost (63 * c.args.count + 288) (g.D.Dmi.seen c.args.link.now) (g.D.Dmi.seen c.store_elements.new.link) c.in-Err.fault _
    (within_then 32 (63 * c.args.count + 256) (63 * c.args.count + 288) _ (g.D.Dmi.seen c.save_scratch.new.link) _ c.save_scratch.ensures.rises c.store_elements.ensures.rises
    c.save_scratch.ensures.keeps.fixed (omega arith))
    (lost_then 32 (g.D.Dmi.seen c.args.link.now) (g.D.Dmi.seen c.save_scratch.new.link) c.in-Err.fault c.save_scratch.ensures.rises c.in-Err.ensures.never) c.give_up.ensures.never
