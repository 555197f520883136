use Rattle.jt_base.proofs.Pieces.{on_err}
use Rattle.probe_dmi.proofs.Scans.{selected_then, waited_then}
use Rattle.std.proofs.Common.{arith}
use Rattle.probe_dmi.proofs.Rising.{rose_more, rose_then, rounds_rose, selected_rose}
use Rattle.probe_dmi.proofs.register.Registers.select.Goals as goal

pub returns-in_err-ir-clause-cut : goal.returns-in_err-ir-clause-cut
returns-in_err-ir-clause-cut g c = on_err _ (waited_then _ _ _ (g.S.Scan.seen c.rest.new.self.scan).far _ c.in_ok-rest.ensures.waited c.in_err-ir.ensures.cut)

pub returns-clause-prepared : goal.returns-clause-prepared
returns-clause-prepared g c = selected_then _ c.args.code _ (g.S.Scan.seen c.rest.new.self.scan).far _ c.in_ok-rest.ensures.waited c.in_ok-ir.ensures.selected

pub returns-in_err-rest-clause-rises : goal.returns-in_err-rest-clause-rises
returns-in_err-rest-clause-rises g c = rose_more _ _ _ _ _ _ c.rest.ensures.rises (omega arith) (omega arith)

pub returns-in_err-ir-clause-rises : goal.returns-in_err-ir-clause-rises
returns-in_err-ir-clause-rises g c = rose_then _ _ 1 11 _ _ _ (g.S.Scan.seen c.rest.new.self.scan) _ c.rest.ensures.rises
    (rounds_rose 11 _ _ c.in_err-ir.ensures.cut) c.rest.ensures.fixed (omega arith) (omega arith)

pub returns-clause-rises : goal.returns-clause-rises
returns-clause-rises g c = rose_then _ _ 1 11 _ _ _ (g.S.Scan.seen c.rest.new.self.scan) _ c.rest.ensures.rises
    (selected_rose c.args.code _ _ c.in_ok-ir.ensures.selected) c.rest.ensures.fixed (omega arith) (omega arith)
