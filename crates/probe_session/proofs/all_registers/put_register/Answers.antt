use Rattle.probe_session.proofs.LinkLemmas.{if_err}
use Rattle.probe_session.proofs.RegisterShow.{register_cut, register_fell, register_put}
use Rattle.probe_session.proofs.Selections.{got_stays}
use Rattle.probe_session.proofs.all_registers.put_register.Goals as goal

pub returns-in_err-value-clause-fell : goal.returns-in_err-value-clause-fell
returns-in_err-value-clause-fell g c = if_err _ c.in_err-value.field-0.0 _ c.from_residual.ensures.1
    (register_fell c.args.halted.now.number c.args.number _ _ _ c.requires.of c.in_err-value.ensures.fell)

pub returns-in_err-put_line-clause-fell : goal.returns-in_err-put_line-clause-fell
returns-in_err-put_line-clause-fell g c = if_err _ c.in_err-put_line.field-0.0 _ c.from_residual-in_err-put_line.ensures.1
    (register_cut c.args.halted.now.number c.args.number c.in_ok-value.value _ _ c.requires.of c.in_err-put_line.ensures.sink c.in_ok-value.ensures.got
    c.in_err-put_line.ensures.front c.in_err-put_line.ensures.cause)

pub returns-clause-spoke : goal.returns-clause-spoke
returns-clause-spoke g c = register_put c.args.halted.now.number c.args.number c.in_ok-value.value c.requires.of c.in_ok-value.ensures.got
    c.in_ok-put_line.ensures.put

pub returns-clause-selection : goal.returns-clause-selection
returns-clause-selection g c =
    got_stays c.args.halted.now.number c.args.number c.in_ok-value.value _ _ c.in_ok-value.ensures.got c.requires.serving.serving.selects
    c.in_ok-value.ensures.keeps.behind.serving.selects
