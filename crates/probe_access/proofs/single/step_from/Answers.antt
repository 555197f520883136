use Rattle.debug_model.proofs.RiseLemmas.{within_more, within_then}
use Rattle.probe_access.proofs.StepRises.{flag_set}
use Rattle.probe_access.specs.declared.fault.AccessFault.{AccessFault}
use Rattle.probe_access.specs.BlockCuts.{MaybeFlagged}
use Rattle.probe_access.specs.Cuts.{IfCut, LeftAside, Leaves}
use Rattle.probe_access.proofs.BlockCutClauses.{clearing_cut, running_cut, setting_cut}
use Rattle.std.proofs.Common.{◌≡◌, ℕ, subst, sym, arith, false, Option, ◌∙◌}
use Rattle.debug_model.specs.Scan.{WhereTold}
use Rattle.debug_model.specs.Told.{Far}
use Rattle.probe_access.specs.SingleSteps.{FlaggedAt}
use Rattle.probe_access.specs.StepRuns.StepFromFailed.{in_set, in_run, in_clear}
use Rattle.std.proofs.Common.{refl}
use Rattle.probe_access.proofs.RegisterCalls.{err_failed}
use Rattle.probe_access.proofs.StepClauses.{clear_counted, run_counted, run_left, step_told}
use Rattle.probe_access.proofs.StepLemmas.{read_keeps}
use Rattle.probe_access.proofs.CommandNever.{lost_behind}
use Rattle.probe_access.proofs.NeverLemmas.{lost_then, run_lost}
use Rattle.probe_access.proofs.single.step_from.Goals as goal

of_same : (h k : ℕ) (old new : Option Far) → h ≡ k → WhereTold (FlaggedAt false h) old new → WhereTold (FlaggedAt false k) old new
of_same h k old new is p = subst (λ n. WhereTold (FlaggedAt false n) old new) is p

pub returns-in_err-set_flag-clause-failed : goal.returns-in_err-set_flag-clause-failed
returns-in_err-set_flag-clause-failed g c =
    err_failed c.from_residual.result c.in_err-set_flag.field-0.0 _ c.from_residual.ensures.1 (in_set c.in_err-set_flag.ensures.failed)

pub returns-in_err-again-clause-left : goal.returns-in_err-again-clause-left
returns-in_err-again-clause-left g c =
    err_failed c.from_residual-in_err-again.result _ _ c.from_residual-in_err-again.ensures.1
    (run_left c.args.halted.number _ _ _ _ _ c.in_err-again.field-0.0 c.in_ok-set_flag.ensures.flagged_at c.in_err-again.ensures.fails
    c.in_err-again.ensures.left)

pub returns-in_err-again-clause-failed : goal.returns-in_err-again-clause-failed
returns-in_err-again-clause-failed g c =
    err_failed c.from_residual-in_err-again.result _ _ c.from_residual-in_err-again.ensures.1
    (in_run _ c.in_ok-set_flag.ensures.written c.in_err-again.field-0.0
    (run_counted c.args.halted.number _ _ _ _ _ c.in_err-again.field-0.0 c.set_flag.ensures.keeps.later c.run_one.ensures.keeps.later
    c.in_err-again.ensures.fails) refl)

pub returns-in_err-clear_flag-clause-failed : goal.returns-in_err-clear_flag-clause-failed
returns-in_err-clear_flag-clause-failed g c =
    err_failed c.from_residual-in_err-clear_flag.result c.in_err-clear_flag.field-0.0 _ c.from_residual-in_err-clear_flag.ensures.1
    (in_clear _ _ c.in_ok-set_flag.ensures.written c.in_ok-again.ensures.did
    (clear_counted _ _ _ _ _ c.in_err-clear_flag.field-0.0 (omega (arith, c.set_flag.ensures.keeps.later, c.run_one.ensures.keeps.later))
    c.clear_flag.ensures.keeps.later c.in_err-clear_flag.ensures.failed))

pub returns-clause-stepped_at : goal.returns-clause-stepped_at
returns-clause-stepped_at g c =
    step_told c.args.halted.number _ _ _ _ c.in_ok-set_flag.ensures.flagged_at c.in_ok-again.ensures.happened
    (of_same c.in_ok-again.again.number c.args.halted.number _ _ c.in_ok-again.ensures.hart c.in_ok-clear_flag.ensures.flagged_at)

pub returns-in_err-set_flag-clause-cut : goal.returns-in_err-set_flag-clause-cut
returns-in_err-set_flag-clause-cut g c =
    err_failed c.from_residual.result c.in_err-set_flag.field-0.0 _ c.from_residual.ensures.1
    (setting_cut c.args.halted.number _ _ c.in_err-set_flag.field-0.0 c.in_err-set_flag.ensures.cut)

pub returns-in_err-again-clause-cut : goal.returns-in_err-again-clause-cut
returns-in_err-again-clause-cut g c =
    err_failed c.from_residual-in_err-again.result _ _ c.from_residual-in_err-again.ensures.1
    (running_cut c.args.halted.number _ _ _ c.in_err-again.field-0.0 c.in_ok-set_flag.ensures.flagged_at c.in_err-again.ensures.left)

cut_same : (h k : ℕ) (old new : Option Far) (e : AccessFault) → h ≡ k → IfCut (Leaves (LeftAside (MaybeFlagged false) h) old new) e
    → IfCut (Leaves (LeftAside (MaybeFlagged false) k) old new) e
cut_same h k old new e is p = subst (λ n. IfCut (Leaves (LeftAside (MaybeFlagged false) n) old new) e) is p

pub returns-in_err-clear_flag-clause-cut : goal.returns-in_err-clear_flag-clause-cut
returns-in_err-clear_flag-clause-cut g c =
    err_failed c.from_residual-in_err-clear_flag.result c.in_err-clear_flag.field-0.0 _ c.from_residual-in_err-clear_flag.ensures.1
    (clearing_cut c.args.halted.number _ _ _ _ c.in_err-clear_flag.field-0.0 c.in_ok-set_flag.ensures.flagged_at c.in_ok-again.ensures.happened
    (cut_same c.in_ok-again.again.number c.args.halted.number _ _ c.in_err-clear_flag.field-0.0 c.in_ok-again.ensures.hart c.in_err-clear_flag.ensures.cut))

pub set_flag-requires-clause-ebreakm : goal.set_flag-requires-clause-ebreakm
set_flag-requires-clause-ebreakm g c = read_keeps c.args.halted.number c.args.word _ c.requires.reads

pub returns-in_err-set_flag-clause-rises : goal.returns-in_err-set_flag-clause-rises
returns-in_err-set_flag-clause-rises g c =
    within_more 8 34 _ _ c.set_flag.ensures.rises (omega arith)

pub returns-in_err-again-clause-rises : goal.returns-in_err-again-clause-rises
returns-in_err-again-clause-rises g c =
    within_then 8 3 34 _ (g.D.Dmi.seen c.set_flag.new.link) _ c.set_flag.ensures.rises
    (c.run_one.ensures.soon (flag_set c.args.halted.number _ _ c.in_ok-set_flag.ensures.flagged_at))
    c.set_flag.ensures.keeps.fixed (omega arith)

pub returns-in_err-clear_flag-clause-rises : goal.returns-in_err-clear_flag-clause-rises
returns-in_err-clear_flag-clause-rises g c =
    within_then 11 23 34 _ (g.D.Dmi.seen c.run_one.new.link) _ (within_then 8 3 11 _ (g.D.Dmi.seen c.set_flag.new.link) _ c.set_flag.ensures.rises
    (c.run_one.ensures.soon (flag_set c.args.halted.number _ _ c.in_ok-set_flag.ensures.flagged_at))
    c.set_flag.ensures.keeps.fixed (omega arith))
    c.clear_flag.ensures.rises (c.run_one.ensures.keeps.fixed ∙ c.set_flag.ensures.keeps.fixed) (omega arith)

pub returns-clause-rises : goal.returns-clause-rises
returns-clause-rises g c =
    within_then 11 23 34 _ (g.D.Dmi.seen c.run_one.new.link) _ (within_then 8 3 11 _ (g.D.Dmi.seen c.set_flag.new.link) _ c.set_flag.ensures.rises
    (c.run_one.ensures.soon (flag_set c.args.halted.number _ _ c.in_ok-set_flag.ensures.flagged_at))
    c.set_flag.ensures.keeps.fixed (omega arith))
    c.clear_flag.ensures.rises (c.run_one.ensures.keeps.fixed ∙ c.set_flag.ensures.keeps.fixed) (omega arith)

pub returns-in_err-again-clause-never : goal.returns-in_err-again-clause-never
returns-in_err-again-clause-never g c =
    lost_behind c.from_residual-in_err-again.result 8 (g.D.Dmi.seen c.args.link.now) (g.D.Dmi.seen c.set_flag.new.link) _ c.from_residual-in_err-again.ensures.1 c.set_flag.ensures.rises
    (run_lost (g.D.Dmi.seen c.set_flag.new.link) c.in_err-again.field-0.0
    (c.in_err-again.ensures.never (flag_set c.args.halted.number _ _ c.in_ok-set_flag.ensures.flagged_at)))

pub returns-in_err-clear_flag-clause-never : goal.returns-in_err-clear_flag-clause-never
returns-in_err-clear_flag-clause-never g c =
    lost_behind c.from_residual-in_err-clear_flag.result 8 (g.D.Dmi.seen c.args.link.now) (g.D.Dmi.seen c.set_flag.new.link) _ c.from_residual-in_err-clear_flag.ensures.1 c.set_flag.ensures.rises
    (lost_then 65 (g.D.Dmi.seen c.set_flag.new.link) (g.D.Dmi.seen c.run_one.new.link) c.in_err-clear_flag.field-0.0 c.run_one.ensures.rises c.in_err-clear_flag.ensures.never)
