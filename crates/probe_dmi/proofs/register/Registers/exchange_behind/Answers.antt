use Rattle.std.proofs.Common.{◌∙◌, ◌+◌, ap, arith}
use Rattle.jt_base.specs.BitList.{bits_of}
use Rattle.jt_base.proofs.Pieces.{on_err}
use Rattle.debug_model.specs.TransportWords.{dmi_of}
use Rattle.debug_model.specs.declared.data_register.DataRegister.TheVariants.{Dmi}
use Rattle.probe_dmi.proofs.Conditions.{dmi_long, fits_then, width_kept}
use Rattle.probe_dmi.specs.Registers.{Prepared}
use Rattle.probe_dmi.proofs.Rising.{dmi_rose, rose_more, rose_then}
use Rattle.probe_dmi.proofs.Scans.{chosen_of, chosen_still, cut_then, dmi_cut_of, dmi_of_scan, scan_then, waited_cut}
use Rattle.probe_dmi.proofs.register.Registers.exchange_behind.Goals as goal

pub shift-requires-clause-fits : goal.shift-requires-clause-fits
shift-requires-clause-fits g c = fits_then Dmi c.from_u64.result (g.S.Scan.seen c.args.self.now.scan).far _ c.in_ok-pause.ensures.prepared
    (dmi_long c.args.abits c.from_u64.result _ c.from_u64.ensures.length c.requires.width)

pub returns-in_err-pause-clause-cut : goal.returns-in_err-pause-clause-cut
returns-in_err-pause-clause-cut g c = on_err _ (waited_cut _ _ _ _ c.in_err-pause.ensures.cut)

pub returns-in_err-out-clause-cut : goal.returns-in_err-out-clause-cut
returns-in_err-out-clause-cut g c = on_err _
    (dmi_cut_of c.args.abits c.args.sent c.from_u64.result _ _ (c.from_u64.ensures.bits ∙ ap (λ w. bits_of (34 + c.args.abits) w) c.bits.ensures)
    c.requires.width
    (cut_then _ Dmi c.from_u64.result _ (g.S.Scan.seen c.pause.new.self.scan).far _ c.in_ok-pause.ensures.prepared c.in_err-out.ensures.cut))

pub returns-clause-scanned : goal.returns-clause-scanned
returns-clause-scanned g c =
    dmi_of_scan c.args.abits c.args.sent c.from_bits.result c.from_u64.result c.in_ok-out.out _ _
    (c.from_u64.ensures.bits ∙ ap (λ w. bits_of (34 + c.args.abits) w) c.bits.ensures) (c.from_bits.ensures ∙ ap dmi_of c.value.ensures) c.requires.width
    (scan_then _ Dmi c.from_u64.result c.in_ok-out.out _ (g.S.Scan.seen c.pause.new.self.scan).far _ c.in_ok-pause.ensures.prepared c.in_ok-out.ensures.scanned)

pub returns-clause-chosen : goal.returns-clause-chosen
returns-clause-chosen g c = chosen_still _ Dmi c.from_u64.result c.in_ok-out.out (g.S.Scan.seen c.pause.new.self.scan).far _
    (chosen_of Dmi _ _ c.in_ok-pause.ensures.prepared) c.in_ok-out.ensures.scanned

pub returns-in_err-pause-clause-rises : goal.returns-in_err-pause-clause-rises
returns-in_err-pause-clause-rises g c = rose_more _ _ _ _ _ _ c.pause.ensures.rises (omega arith) (omega arith)

pub returns-in_err-out-clause-rises : goal.returns-in_err-out-clause-rises
returns-in_err-out-clause-rises g c = rose_then _ _ 1 46 _ _ _ (g.S.Scan.seen c.pause.new.self.scan) _ c.pause.ensures.rises
    (dmi_rose c.args.abits c.from_u64.result _ _ c.from_u64.ensures.length
    (width_kept (Prepared Dmi) c.args.abits _ _ c.in_ok-pause.ensures.prepared c.requires.width) c.shift.ensures.rises)
    c.pause.ensures.keeps.fixed (omega arith) (omega arith)

pub returns-clause-rises : goal.returns-clause-rises
returns-clause-rises g c = rose_then _ _ 1 46 _ _ _ (g.S.Scan.seen c.pause.new.self.scan) _ c.pause.ensures.rises
    (dmi_rose c.args.abits c.from_u64.result _ _ c.from_u64.ensures.length
    (width_kept (Prepared Dmi) c.args.abits _ _ c.in_ok-pause.ensures.prepared c.requires.width) c.shift.ensures.rises)
    c.pause.ensures.keeps.fixed (omega arith) (omega arith)
