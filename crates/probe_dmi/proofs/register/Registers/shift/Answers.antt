use Rattle.probe_dmi.proofs.Rising.{scan_cut_rose, scanned_rose}
use Rattle.probe_dmi.proofs.register.Registers.shift.Goals as goal

pub returns-in_err-out-clause-rises : goal.returns-in_err-out-clause-rises
returns-in_err-out-clause-rises g c = scan_cut_rose c.args.bits _ _ c.in_err-out.ensures.cut

pub returns-clause-rises : goal.returns-clause-rises
returns-clause-rises g c = scanned_rose c.args.bits c.in_ok-out.out _ _ c.in_ok-out.ensures.scanned
