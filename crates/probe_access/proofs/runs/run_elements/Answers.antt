use Rattle.std.proofs.Common.{◌+◌, ◌*◌, arith}
use Rattle.debug_model.proofs.RiseLemmas.{within_more, within_then}
use Rattle.probe_run.specs.Told.{told}
use Rattle.probe_access.proofs.AskedCalls.{switch_failed, switched}
use Rattle.probe_access.proofs.RegisterCalls.{err_failed}
use Rattle.probe_access.proofs.runs.run_elements.Goals as goal

pub returns-in_err-write-clause-failed : goal.returns-in_err-write-clause-failed
returns-in_err-write-clause-failed g c =
    err_failed c.from_residual-in_err-write.result _ _ c.from_residual-in_err-write.ensures.1
    (switch_failed c.args.run.looks c.args.run.more c.in_ok-last.last _ _ _ (told (g.D.Dmi.seen c.args.link.now)) (told (g.D.Dmi.seen c.ask_elements.new.link))
    (told (g.D.Dmi.seen c.write.new.self)) c.in_err-write.field-0.0 c.in_ok-last.ensures.asked c.ask_elements.ensures.keeps.later
    c.write.ensures.keeps.later c.in_err-write.ensures.cut c.in_err-write.ensures.cause)

pub returns-clause-asked : goal.returns-clause-asked
returns-clause-asked g c =
    switched c.args.run.more c.in_ok-last.last _ _ _ c.in_ok-last.ensures.asked c.in_ok-write.ensures.operated c.in_ok-write.ensures.passes

pub returns-in_err-last-clause-rises : goal.returns-in_err-last-clause-rises
returns-in_err-last-clause-rises g c =
    within_more (c.args.run.more * (c.args.run.looks + 1) + 7) (c.args.run.more * (c.args.run.looks + 1) + 8) _ _ c.ask_elements.ensures.rises (omega arith)

pub returns-in_err-write-clause-rises : goal.returns-in_err-write-clause-rises
returns-in_err-write-clause-rises g c =
    within_then (c.args.run.more * (c.args.run.looks + 1) + 7) 1 (c.args.run.more * (c.args.run.looks + 1) + 8) _ (g.D.Dmi.seen c.ask_elements.new.link) _
    c.ask_elements.ensures.rises c.write.ensures.rises
    c.ask_elements.ensures.keeps.fixed (omega arith)

pub returns-clause-rises : goal.returns-clause-rises
returns-clause-rises g c =
    within_then (c.args.run.more * (c.args.run.looks + 1) + 7) 1 (c.args.run.more * (c.args.run.looks + 1) + 8) _ (g.D.Dmi.seen c.ask_elements.new.link) _
    c.ask_elements.ensures.rises c.write.ensures.rises
    c.ask_elements.ensures.keeps.fixed (omega arith)
