use Rattle.probe_run.specs.Told.{told}
use Rattle.soft_break.specs.Preparing.EbreakFailed.{in_read, in_write}
use Rattle.soft_break.proofs.PrepareSteps.{err_handed, write_broke}
use Rattle.soft_break.proofs.preparing.set_ebreakm.Goals as goal

pub returns-in_err-word-clause-failed : goal.returns-in_err-word-clause-failed
returns-in_err-word-clause-failed g c = err_handed _ c.in_err-word.field-0.0 _ c.from_residual.ensures.1 (in_read (record {
  later = c.reg.ensures.keeps.later;
  at = c.requires.serving;
  heard = c.in_err-word.ensures.failed;
  left = c.in_err-word.ensures.left;
  cut = c.in_err-word.ensures.cut;
}))

pub returns-in_err-set_reg-clause-failed : goal.returns-in_err-set_reg-clause-failed
returns-in_err-set_reg-clause-failed g c =
    err_handed _ c.in_err-set_reg.field-0.0 _ c.from_residual-in_err-set_reg.ensures.1
    (in_write c.in_ok-word.word (g.D.Dmi.seen c.reg.new.link).fault_count (told (g.D.Dmi.seen c.reg.new.link)) c.in_ok-word.ensures.read
    c.in_ok-word.ensures.got c.reg.ensures.keeps.later
    (write_broke c.args.halted.now.number c.in_ok-word.word _ _ _ _ _ c.in_err-set_reg.field-0.0 c.ebreak_halting.ensures c.set_reg.ensures.keeps.later
    c.in_ok-word.ensures.serving c.in_err-set_reg.ensures.failed c.in_err-set_reg.ensures.left c.in_err-set_reg.ensures.cut))
