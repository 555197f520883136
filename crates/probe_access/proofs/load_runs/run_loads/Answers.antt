use Rattle.debug_model.proofs.RiseLemmas.{within_more, within_then}
use Rattle.std.proofs.Common.{drop, ◌+◌, ◌*◌, arith}
use Rattle.probe_run.specs.Told.{told}
use Rattle.probe_access.specs.ReadRuns.{is_wide, values_read, own_words}
use Rattle.probe_access.proofs.ReadCalls.{loads_off, loads_off_failed}
use Rattle.probe_access.proofs.RegisterCalls.{err_failed}
use Rattle.probe_access.proofs.load_runs.run_loads.Goals as goal

pub returns-in_err-write-clause-failed : goal.returns-in_err-write-clause-failed
returns-in_err-write-clause-failed g c =
    err_failed c.from_residual-in_err-write.result _ _ c.from_residual-in_err-write.ensures.1
    (loads_off_failed (is_wide c.args.size) c.args.run.looks c.args.run.more c.in_ok-last.last _ _ _ (drop 2 c.ask_loads.new.words.items) (told
    (g.D.Dmi.seen c.args.link.now))
    (told (g.D.Dmi.seen c.ask_loads.new.link)) (told (g.D.Dmi.seen c.write.new.self)) c.in_err-write.field-0.0 c.in_ok-last.ensures.asked
    c.ask_loads.ensures.keeps.later c.write.ensures.keeps.later c.in_err-write.ensures.cut c.in_err-write.ensures.cause)

pub returns-clause-asked : goal.returns-clause-asked
returns-clause-asked g c =
    loads_off (is_wide c.args.size) (values_read (is_wide c.args.size) c.args.run.looks c.args.run.more
    (drop 2 c.ask_loads.new.words.items)) c.in_ok-last.last _ _ _ c.in_ok-last.ensures.asked
    c.in_ok-write.ensures.operated c.in_ok-write.ensures.passes

pub returns-in_err-last-clause-rises : goal.returns-in_err-last-clause-rises
returns-in_err-last-clause-rises g c =
    within_more (c.args.run.more * (c.args.run.looks + own_words (is_wide c.args.size)) + 7) (c.args.run.more * (c.args.run.looks + own_words (is_wide
    c.args.size)) + 8) _ _ c.ask_loads.ensures.rises (omega arith)

pub returns-in_err-write-clause-rises : goal.returns-in_err-write-clause-rises
returns-in_err-write-clause-rises g c =
    within_then (c.args.run.more * (c.args.run.looks + own_words (is_wide c.args.size)) + 7) 1 (c.args.run.more * (c.args.run.looks + own_words (is_wide
    c.args.size)) + 8) _ (g.D.Dmi.seen c.ask_loads.new.link) _ c.ask_loads.ensures.rises c.write.ensures.rises
    c.ask_loads.ensures.keeps.fixed (omega arith)

pub returns-clause-rises : goal.returns-clause-rises
returns-clause-rises g c =
    within_then (c.args.run.more * (c.args.run.looks + own_words (is_wide c.args.size)) + 7) 1 (c.args.run.more * (c.args.run.looks + own_words (is_wide
    c.args.size)) + 8) _ (g.D.Dmi.seen c.ask_loads.new.link) _ c.ask_loads.ensures.rises c.write.ensures.rises
    c.ask_loads.ensures.keeps.fixed (omega arith)
