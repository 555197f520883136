use Rattle.debug_model.specs.declared.data_register.DataRegister.TheVariants.{Dmi}
use Rattle.jt_base.proofs.Pieces.{on_err}
use Rattle.probe_dmi.proofs.Scans.{idled, not_idled, rounds_waited}
use Rattle.std.proofs.Common.{arith}
use Rattle.probe_dmi.proofs.Rising.{idle_rose, pauses_some, rose_more, rose_none, rounds_rose}
use Rattle.probe_dmi.proofs.register.Registers.pause.Goals as goal

pub returns-then-clocks-eq0-clause-prepared : goal.returns-then-clocks-eq0-clause-prepared
returns-then-clocks-eq0-clause-prepared g c = not_idled Dmi _ c.requires.chosen

pub returns-in_err-idle-clause-cut : goal.returns-in_err-idle-clause-cut
returns-in_err-idle-clause-cut g c = on_err _ (rounds_waited _ c.args.clocks _ _ c.in_err-idle.ensures.cut)

pub returns-clause-prepared : goal.returns-clause-prepared
returns-clause-prepared g c = idled _ c.args.clocks Dmi _ _ c.requires.chosen c.in_ok-idle.ensures.passed

pub returns-then-clocks-eq0-clause-rises : goal.returns-then-clocks-eq0-clause-rises
returns-then-clocks-eq0-clause-rises g c = rose_none _ _ _

pub returns-in_err-idle-clause-rises : goal.returns-in_err-idle-clause-rises
returns-in_err-idle-clause-rises g c = rose_more 1 c.args.clocks _ _ _ _ (rounds_rose c.args.clocks _ _ c.in_err-idle.ensures.cut)
    (pauses_some c.args.clocks (omega (arith, c.if-clocks-eq0.false))) (omega arith)

pub returns-clause-rises : goal.returns-clause-rises
returns-clause-rises g c = rose_more 1 c.args.clocks _ _ _ _ (idle_rose c.args.clocks _ _ c.in_ok-idle.ensures.passed)
    (pauses_some c.args.clocks (omega (arith, c.if-clocks-eq0.false))) (omega arith)
