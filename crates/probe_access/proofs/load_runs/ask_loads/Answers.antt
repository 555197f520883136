use Rattle.debug_model.proofs.RiseLemmas.{within_more, within_then}
use Rattle.std.proofs.Common.{◌∙◌, ◌-◌, All, List, ℕ, slice_index_or, sym, subst, take, ◌≡◌, ◌+◌, ◌*◌, length, arith}
use Rattle.debug_model.specs.Dmi.{IsOperation}
use Rattle.probe_run.specs.Told.{told}
use Rattle.probe_access.specs.CommandRuns.{EndedFrom}
use Rattle.probe_access.specs.ReadRuns.{is_wide, own_words}
use Rattle.probe_access.proofs.ReadCalls.{LoadsDid, load_broke, load_did, load_ended, load_failed, load_long, load_small}
use Rattle.probe_access.proofs.RegisterCalls.{err_failed}
use Rattle.probe_access.proofs.load_runs.ask_loads.Goals as goal

pub many-requires-clause-operations : goal.many-requires-clause-operations
many-requires-clause-operations g c = subst (λ xs. All IsOperation xs) (sym c.fill_loads-filled.ensures.filled) (load_small
    (is_wide c.args.size) c.args.run.looks c.args.run.more)

pub returns-in_err-many-clause-failed : goal.returns-in_err-many-clause-failed
returns-in_err-many-clause-failed g c =
    err_failed c.from_residual.result _ _ c.from_residual.ensures.1
    (load_broke (is_wide c.args.size) c.args.run.looks c.args.run.more _ _ (take c.fill_loads-filled.result c.fill_loads-filled.new.operations)
    (told (g.D.Dmi.seen c.args.link.now)) (told (g.D.Dmi.seen c.many.new.self)) c.in_err-many.field-0.0 c.fill_loads-filled.ensures.filled
    c.in_err-many.ensures.cut c.in_err-many.ensures.cause)

pub returns-in_err-last-clause-failed : goal.returns-in_err-last-clause-failed
returns-in_err-last-clause-failed g c =
    err_failed c.from_residual-in_err-last.result c.in_err-last.field-0.0 _ c.from_residual-in_err-last.ensures.1
    (load_failed (is_wide c.args.size) c.args.run.looks c.args.run.more c.fill_loads-filled.result c.deref.result.now c.in_err-last.field-0.0 _ _ _ _ _ _
    (subst (λ (xs : List ℕ). LoadsDid (is_wide c.args.size) c.args.run.looks c.args.run.more c.fill_loads-filled.result xs (told (g.D.Dmi.seen c.args.link.now))
    (told (g.D.Dmi.seen c.many.new.self)))
    (sym c.deref.ensures.0)
    (load_did (is_wide c.args.size) c.args.run.looks c.args.run.more c.fill_loads-filled.result
    (take c.fill_loads-filled.result c.fill_loads-filled.new.operations)
    c.many.new.results.items _ _ c.fill_loads-filled.ensures.filled c.fill_loads-filled.ensures.count
    (c.in_ok-many.ensures.count ∙ load_long (is_wide c.args.size) c.args.run.looks c.args.run.more c.fill_loads-filled.result c.fill_loads-filled.new.operations
    c.fill_loads-filled.ensures.filled c.fill_loads-filled.ensures.count)
    c.in_ok-many.ensures.operated c.in_ok-many.ensures.answers))
    c.many.ensures.keeps.later c.end_command.ensures.keeps.later c.in_err-last.ensures.failed)

pub returns-clause-asked : goal.returns-clause-asked
returns-clause-asked g c =
    load_ended (is_wide c.args.size) c.args.run.looks c.args.run.more c.fill_loads-filled.result c.in_ok-last.last c.many.new.results.items _ _ _
    (load_did (is_wide c.args.size) c.args.run.looks c.args.run.more c.fill_loads-filled.result
    (take c.fill_loads-filled.result c.fill_loads-filled.new.operations)
    c.many.new.results.items _ _ c.fill_loads-filled.ensures.filled c.fill_loads-filled.ensures.count
    (c.in_ok-many.ensures.count ∙ load_long (is_wide c.args.size) c.args.run.looks c.args.run.more c.fill_loads-filled.result c.fill_loads-filled.new.operations
    c.fill_loads-filled.ensures.filled c.fill_loads-filled.ensures.count)
    c.in_ok-many.ensures.operated c.in_ok-many.ensures.answers)
    (subst (λ (xs : List ℕ). EndedFrom (slice_index_or xs (c.fill_loads-filled.result - 1) 0) c.in_ok-last.last (told (g.D.Dmi.seen c.many.new.self))
    (told (g.D.Dmi.seen c.end_command.new.link))) c.deref.ensures.0 c.in_ok-last.ensures.ended)

pub returns-in_err-many-clause-rises : goal.returns-in_err-many-clause-rises
returns-in_err-many-clause-rises g c =
    let e : length (take c.fill_loads-filled.result c.fill_loads-filled.new.operations) ≡ c.fill_loads-filled.result =
    load_long (is_wide c.args.size) c.args.run.looks c.args.run.more c.fill_loads-filled.result c.fill_loads-filled.new.operations
    c.fill_loads-filled.ensures.filled
    c.fill_loads-filled.ensures.count in
    within_more (length (take c.fill_loads-filled.result c.fill_loads-filled.new.operations)) (c.args.run.more * (c.args.run.looks + own_words (is_wide
    c.args.size)) + 7) _ _ c.many.ensures.rises (omega (arith, e, c.fill_loads-filled.ensures.count))

pub returns-in_err-last-clause-rises : goal.returns-in_err-last-clause-rises
returns-in_err-last-clause-rises g c =
    let e : length (take c.fill_loads-filled.result c.fill_loads-filled.new.operations) ≡ c.fill_loads-filled.result =
    load_long (is_wide c.args.size) c.args.run.looks c.args.run.more c.fill_loads-filled.result c.fill_loads-filled.new.operations
    c.fill_loads-filled.ensures.filled
    c.fill_loads-filled.ensures.count in
    within_then (length (take c.fill_loads-filled.result c.fill_loads-filled.new.operations)) 4 (c.args.run.more * (c.args.run.looks + own_words (is_wide
    c.args.size)) + 7) _ (g.D.Dmi.seen c.many.new.self) _ c.many.ensures.rises c.end_command.ensures.rises
    c.many.ensures.keeps.fixed (omega (arith, e, c.fill_loads-filled.ensures.count))

pub returns-clause-rises : goal.returns-clause-rises
returns-clause-rises g c =
    let e : length (take c.fill_loads-filled.result c.fill_loads-filled.new.operations) ≡ c.fill_loads-filled.result =
    load_long (is_wide c.args.size) c.args.run.looks c.args.run.more c.fill_loads-filled.result c.fill_loads-filled.new.operations
    c.fill_loads-filled.ensures.filled
    c.fill_loads-filled.ensures.count in
    within_then (length (take c.fill_loads-filled.result c.fill_loads-filled.new.operations)) 4 (c.args.run.more * (c.args.run.looks + own_words (is_wide
    c.args.size)) + 7) _ (g.D.Dmi.seen c.many.new.self) _ c.many.ensures.rises c.end_command.ensures.rises
    c.many.ensures.keeps.fixed (omega (arith, e, c.fill_loads-filled.ensures.count))
