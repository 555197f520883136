use Rattle.debug_model.proofs.RiseLemmas.{within_then}
use Rattle.std.proofs.Common.{◌∙◌, arith}
use Rattle.probe_access.specs.MemoryRuns.LoadRunFailed.{in_save}
use Rattle.probe_access.proofs.LoadCalls.{load_lost, load_not_taken, load_refused_at, load_refused_lost, perform_loses}
use Rattle.probe_access.proofs.RegisterCalls.{err_failed}
use Rattle.probe_access.proofs.CommandNever.{lost_behind}
use Rattle.probe_access.proofs.NeverLemmas.{lost_then}
use Rattle.probe_access.proofs.memory.load_around.Goals as goal

pub returns-in_err-x8-clause-failed : goal.returns-in_err-x8-clause-failed
returns-in_err-x8-clause-failed g c = err_failed _ c.in_err-x8.field-0.0 _ c.from_residual.ensures.1 (in_save c.in_err-x8.field-0.0 c.in_err-x8.ensures.failed)

pub returns-in_err-value-in-Ok-clause-failed : goal.returns-in_err-value-in-Ok-clause-failed
returns-in_err-value-in-Ok-clause-failed g c =
    err_failed c.from_residual-in_err-value-in-Ok.result c.in_err-value-in-Ok.field-0.0 _ c.from_residual-in_err-value-in-Ok.ensures.1
    (load_not_taken c.args.size c.args.address c.in_ok-x8.x8 _ _ _ _ _ _ _ c.in_err-value-in-Ok.field-0.0 c.in_ok-x8.ensures.read
    (rw c.load_of.ensures at c.in-Ok.ensures.performed) (omega (arith, c.read_register.ensures.keeps.later, c.perform.ensures.keeps.later))
    c.take_loaded.ensures.keeps.later c.in_err-value-in-Ok.ensures.failed)

pub returns-in_err-write_register-in-Memory-clause-failed : goal.returns-in_err-write_register-in-Memory-clause-failed
returns-in_err-write_register-in-Memory-clause-failed g c =
    err_failed c.from_residual-in_err-write_register-in-Memory.result c.in_err-write_register-in-Memory.field-0.0 _
    c.from_residual-in_err-write_register-in-Memory.ensures.1
    (load_refused_lost c.args.size c.args.address c.in-Memory.field-0 c.in_ok-x8.x8 _ _ _ _ _ _ _ _ c.in-Err.fault c.in_err-write_register-in-Memory.field-0.0
    c.in_ok-x8.ensures.read c.in-Memory.is (rw c.load_of.ensures at c.in-Err.ensures.failed)
    (omega (arith, c.read_register.ensures.keeps.later, c.perform.ensures.keeps.later))
    c.write_register.ensures.keeps.later c.in_err-write_register-in-Memory.ensures.failed)

pub returns-in_ok-write_register-in-Memory-clause-failed : goal.returns-in_ok-write_register-in-Memory-clause-failed
returns-in_ok-write_register-in-Memory-clause-failed g c =
    load_refused_at c.args.size c.args.address c.in-Memory.field-0 c.in_ok-x8.x8 _ _ _ _ _ _ _ _ c.in-Err.fault c.in_ok-x8.ensures.read c.in-Memory.is
    (rw c.load_of.ensures at c.in-Err.ensures.failed) c.in_ok-write_register-in-Memory.ensures.written

pub returns-in_default : goal.returns-in_default
returns-in_default g c = record {
  loaded = tt;
  failed = load_lost c.args.size c.args.address c.in_ok-x8.x8 _ _ _ _ _ _ c.in-Err.fault c.in_ok-x8.ensures.read c.read_register.ensures.keeps.later
      c.perform.ensures.keeps.later (rw c.load_of.ensures at c.in-Err.ensures.failed)
      (perform_loses _ c.args.address _ _ _ _ c.in-Err.fault c.in_default.not-Memory c.in-Err.ensures.failed);
  rises = within_then 16 10 61 _ (g.D.Dmi.seen c.read_register.new.link) _ c.read_register.ensures.rises c.perform.ensures.rises
      c.read_register.ensures.keeps.fixed (omega arith);
  never = lost_then _ _ _ c.in-Err.fault c.read_register.ensures.rises c.in-Err.ensures.never;
  keeps = record {
    later = omega (arith, c.read_register.ensures.keeps.later, c.perform.ensures.keeps.later);
    fixed = c.perform.ensures.keeps.fixed ∙ c.read_register.ensures.keeps.fixed;
    behind = c.in-Err.ensures.keeps.behind;
  };
}

pub returns-in_err-value-in-Ok-clause-rises : goal.returns-in_err-value-in-Ok-clause-rises
returns-in_err-value-in-Ok-clause-rises g c =
    within_then 26 35 61 _ (g.D.Dmi.seen c.perform.new.link) _ (within_then 16 10 26 _ (g.D.Dmi.seen c.read_register.new.link) _ c.read_register.ensures.rises c.perform.ensures.rises
    c.read_register.ensures.keeps.fixed (omega arith)) c.take_loaded.ensures.rises
    (c.perform.ensures.keeps.fixed ∙ c.read_register.ensures.keeps.fixed) (omega arith)

pub returns-in_ok-value-in-Ok-clause-rises : goal.returns-in_ok-value-in-Ok-clause-rises
returns-in_ok-value-in-Ok-clause-rises g c =
    within_then 26 35 61 _ (g.D.Dmi.seen c.perform.new.link) _ (within_then 16 10 26 _ (g.D.Dmi.seen c.read_register.new.link) _ c.read_register.ensures.rises c.perform.ensures.rises
    c.read_register.ensures.keeps.fixed (omega arith)) c.take_loaded.ensures.rises
    (c.perform.ensures.keeps.fixed ∙ c.read_register.ensures.keeps.fixed) (omega arith)

pub returns-in_err-write_register-in-Memory-clause-rises : goal.returns-in_err-write_register-in-Memory-clause-rises
returns-in_err-write_register-in-Memory-clause-rises g c =
    within_then 26 8 61 _ (g.D.Dmi.seen c.perform.new.link) _ (within_then 16 10 26 _ (g.D.Dmi.seen c.read_register.new.link) _ c.read_register.ensures.rises c.perform.ensures.rises
    c.read_register.ensures.keeps.fixed (omega arith)) c.write_register.ensures.rises
    (c.perform.ensures.keeps.fixed ∙ c.read_register.ensures.keeps.fixed) (omega arith)

pub returns-in_ok-write_register-in-Memory-clause-rises : goal.returns-in_ok-write_register-in-Memory-clause-rises
returns-in_ok-write_register-in-Memory-clause-rises g c =
    within_then 26 8 61 _ (g.D.Dmi.seen c.perform.new.link) _ (within_then 16 10 26 _ (g.D.Dmi.seen c.read_register.new.link) _ c.read_register.ensures.rises c.perform.ensures.rises
    c.read_register.ensures.keeps.fixed (omega arith)) c.write_register.ensures.rises
    (c.perform.ensures.keeps.fixed ∙ c.read_register.ensures.keeps.fixed) (omega arith)

pub returns-in_err-value-in-Ok-clause-never : goal.returns-in_err-value-in-Ok-clause-never
returns-in_err-value-in-Ok-clause-never g c =
    lost_behind c.from_residual-in_err-value-in-Ok.result _ _ _ c.in_err-value-in-Ok.field-0.0 c.from_residual-in_err-value-in-Ok.ensures.1
    c.read_register.ensures.rises (lost_then _ _ _ c.in_err-value-in-Ok.field-0.0 c.perform.ensures.rises c.in_err-value-in-Ok.ensures.never)
