use Rattle.debug_model.proofs.RiseLemmas.{within_more, within_then}
use Rattle.std.proofs.Common.{◌∙◌, ◌+◌, ◌*◌, arith}
use Rattle.probe_session.proofs.LinkLemmas.{if_err}
use Rattle.probe_session.proofs.RegisterShow.{all_registers, pc_fell, pc_of_cores, pc_shown, x_fell, x_not_mip, x_of_cores, x_shown}
use Rattle.probe_session.proofs.Selections.{stays_then}
use Rattle.probe_session.proofs.NeverLemmas.{gives_up_then}
use Rattle.probe_session.proofs.all_registers.put_registers.Goals as goal

pub put_register-requires-clause-of : goal.put_register-requires-clause-of
put_register-requires-clause-of g c = pc_of_cores

pub returns-in_err-put_register-clause-fell : goal.returns-in_err-put_register-clause-fell
returns-in_err-put_register-clause-fell g c = if_err _ c.in_err-put_register.field-0.0 _ c.from_residual.ensures.1
    (pc_fell c.args.halted.now.number c.in_err-put_register.ensures.fell)

pub showing-init : goal.showing-init
showing-init g c = record {
  serving = c.in_ok-put_register.ensures.keeps.behind;
  stays = c.in_ok-put_register.ensures.selection;
  shown =
      pc_shown c.args.halted.now.number c.in_ok-put_register.ensures.spoke;
  later = c.put_register.ensures.keeps.later;
  rises = c.put_register.ensures.rises;
  fixed =
      c.put_register.ensures.keeps.fixed;
  sink_later = c.put_register.ensures.sink_later;
}

pub put_register-requires-in-showing-clause-other : goal.put_register-requires-in-showing-clause-other
put_register-requires-in-showing-clause-other g c = x_not_mip c.showing.x

pub put_register-requires-in-showing-clause-of : goal.put_register-requires-in-showing-clause-of
put_register-requires-in-showing-clause-of g c = x_of_cores c.showing.x c.showing-test.true

pub returns-in_err-put_register-2-clause-fell : goal.returns-in_err-put_register-2-clause-fell
returns-in_err-put_register-2-clause-fell g c = if_err _ c.in_err-put_register-2.field-0.0 _ c.from_residual-in_err-put_register-2.ensures.1
    (x_fell c.args.halted.now.number c.showing.x c.showing-test.true c.showing.invariant.shown c.showing.invariant.later c.showing.invariant.sink_later
    c.put_register-in-showing.ensures.sink_later c.in_err-put_register-2.ensures.fell)

pub showing-preserved : goal.showing-preserved
showing-preserved g c = record {
  serving = c.in_ok-put_register-2.ensures.keeps.behind;
  stays = stays_then _ _ _ c.showing.invariant.stays c.in_ok-put_register-2.ensures.selection;
  shown = x_shown c.args.halted.now.number c.showing.x c.showing-test.true c.showing.invariant.shown c.in_ok-put_register-2.ensures.spoke;
  later = omega (arith, c.showing.invariant.later, c.put_register-in-showing.ensures.keeps.later);
  rises = within_then (16 * c.showing.x) 16 (16 * (c.showing.x + 1)) _ (g.D.Dmi.seen c.showing.link) _ c.showing.invariant.rises
      c.put_register-in-showing.ensures.rises c.showing.invariant.fixed (omega arith);
  fixed = c.put_register-in-showing.ensures.keeps.fixed ∙ c.showing.invariant.fixed;
  sink_later = omega (arith, c.showing.invariant.sink_later, c.put_register-in-showing.ensures.sink_later);
}

pub returns-clause-spoke : goal.returns-clause-spoke
returns-clause-spoke g c = let up = c.showing.auto.x-end (omega arith) in
    all_registers c.args.halted.now.number c.showing.x (omega (arith, up, c.showing-test.false)) c.showing.invariant.shown

pub returns-in_err-put_register-clause-rises : goal.returns-in_err-put_register-clause-rises
returns-in_err-put_register-clause-rises g c =
    within_more 16 512 _ _ c.put_register.ensures.rises (omega arith)

pub returns-in_err-put_register-2-clause-rises : goal.returns-in_err-put_register-2-clause-rises
returns-in_err-put_register-2-clause-rises g c =
    within_then (16 * c.showing.x) 16 512 _ (g.D.Dmi.seen c.showing.link) _ c.showing.invariant.rises c.put_register-in-showing.ensures.rises
    c.showing.invariant.fixed (omega (arith, c.showing-test.true))

pub returns-clause-rises : goal.returns-clause-rises
returns-clause-rises g c =
    let up = c.showing.auto.x-end (omega arith) in within_more (16 * c.showing.x) 512 _ _ c.showing.invariant.rises (omega (arith, up))

pub returns-in_err-put_register-2-clause-never : goal.returns-in_err-put_register-2-clause-never
returns-in_err-put_register-2-clause-never g c =
    if_err _ c.in_err-put_register-2.field-0.0 _ c.from_residual-in_err-put_register-2.ensures.1
    (gives_up_then (16 * c.showing.x) _ (g.D.Dmi.seen c.showing.link) c.in_err-put_register-2.field-0.0 c.showing.invariant.rises
    c.in_err-put_register-2.ensures.never)
