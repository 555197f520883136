use Rattle.debug_model.specs.Port.{data_register_of}
use Rattle.jt_base.proofs.Pieces.{on_err}
use Rattle.probe_dmi.proofs.Conditions.{fits_then}
use Rattle.probe_dmi.proofs.Scans.{cut_then, scan_then, waited_cut}
use Rattle.std.proofs.Common.{arith}
use Rattle.probe_dmi.proofs.Rising.{rose_more, rose_then}
use Rattle.probe_dmi.proofs.register.Registers.register.Goals as goal

pub shift-requires-clause-fits : goal.shift-requires-clause-fits
shift-requires-clause-fits g c = fits_then (data_register_of c.args.code) c.args.bits (g.S.Scan.seen c.args.self.now.scan).far _
    c.in_ok-select.ensures.prepared c.requires.long

pub returns-in_err-select-clause-cut : goal.returns-in_err-select-clause-cut
returns-in_err-select-clause-cut g c = on_err _ (waited_cut _ _ _ _ c.in_err-select.ensures.cut)

pub returns-in_err-out-clause-cut : goal.returns-in_err-out-clause-cut
returns-in_err-out-clause-cut g c = on_err _
    (cut_then _ (data_register_of c.args.code) c.args.bits _ (g.S.Scan.seen c.select.new.self.scan).far _ c.in_ok-select.ensures.prepared
    c.in_err-out.ensures.cut)

pub returns-clause-scanned : goal.returns-clause-scanned
returns-clause-scanned g c = scan_then _ (data_register_of c.args.code) c.args.bits c.in_ok-out.out _ (g.S.Scan.seen c.select.new.self.scan).far _
    c.in_ok-select.ensures.prepared c.in_ok-out.ensures.scanned

pub returns-in_err-select-clause-rises : goal.returns-in_err-select-clause-rises
returns-in_err-select-clause-rises g c = rose_more _ _ _ _ _ _ c.select.ensures.rises (omega arith) (omega arith)

pub returns-in_err-out-clause-rises : goal.returns-in_err-out-clause-rises
returns-in_err-out-clause-rises g c = rose_then _ _ 1 _ _ _ _ (g.S.Scan.seen c.select.new.self.scan) _ c.select.ensures.rises c.shift.ensures.rises
    c.select.ensures.keeps.fixed (omega arith) (omega arith)

pub returns-clause-rises : goal.returns-clause-rises
returns-clause-rises g c = rose_then _ _ 1 _ _ _ _ (g.S.Scan.seen c.select.new.self.scan) _ c.select.ensures.rises c.shift.ensures.rises
    c.select.ensures.keeps.fixed (omega arith) (omega arith)
