use Rattle.debug_model.specs.declared.data_register.DataRegister.TheVariants.{Idcode}
use Rattle.std.proofs.Common.{refl, subst}
use Rattle.debug_model.specs.Scan.{WhereTold}
use Rattle.probe_dmi.specs.Registers.{CutFrom}
use Rattle.debug_model.specs.Asked.{idcode_bits}
use Rattle.jt_base.proofs.Pieces.{on_err}
use Rattle.probe_dmi.proofs.Conditions.{as_long, fits_then}
use Rattle.probe_dmi.proofs.Scans.{cut_then, scan_then, waited_cut, word_of}
use Rattle.std.proofs.Common.{ap, arith, length}
use Rattle.probe_dmi.proofs.Rising.{rose_more, rose_then}
use Rattle.probe_dmi.proofs.register.Registers.idcode.Goals as goal

pub shift-requires-clause-fits : goal.shift-requires-clause-fits
shift-requires-clause-fits g c = fits_then Idcode c.from_u64.result (g.S.Scan.seen c.args.self.now.scan).far _ (c.in_ok-rest.ensures.reset refl)
    (as_long Idcode _ _ c.from_u64.ensures.length)

pub returns-in_err-rest-clause-cut : goal.returns-in_err-rest-clause-cut
returns-in_err-rest-clause-cut g c = on_err _ (waited_cut _ _ _ _ c.in_err-rest.ensures.cut)

pub returns-in_err-out-clause-cut : goal.returns-in_err-out-clause-cut
returns-in_err-out-clause-cut g c = on_err _
    (subst (λ b. WhereTold (CutFrom Idcode b) (g.S.Scan.seen c.args.self.now.scan).far (g.S.Scan.seen c.shift.new.self.scan).far) c.from_u64.ensures.bits
    (cut_then _ Idcode c.from_u64.result _ (g.S.Scan.seen c.rest.new.self.scan).far _ (c.in_ok-rest.ensures.reset refl) c.in_err-out.ensures.cut))

pub returns-clause-scanned : goal.returns-clause-scanned
returns-clause-scanned g c = word_of Idcode c.from_u64.result idcode_bits c.in_ok-out.out c.value.result _ _ c.from_u64.ensures.bits c.value.ensures
    (scan_then _ Idcode c.from_u64.result c.in_ok-out.out _ (g.S.Scan.seen c.rest.new.self.scan).far _ (c.in_ok-rest.ensures.reset refl)
    c.in_ok-out.ensures.scanned)

pub returns-in_err-rest-clause-rises : goal.returns-in_err-rest-clause-rises
returns-in_err-rest-clause-rises g c = rose_more 1 6 _ _ _ _ c.rest.ensures.rises (omega arith) (omega arith)

pub returns-in_err-out-clause-rises : goal.returns-in_err-out-clause-rises
returns-in_err-out-clause-rises g c = rose_then 1 6 1 _ _ _ _ (g.S.Scan.seen c.rest.new.self.scan) _ c.rest.ensures.rises c.shift.ensures.rises
    c.rest.ensures.fixed (omega arith) (omega (arith, ap length c.from_u64.ensures.bits))

pub returns-clause-rises : goal.returns-clause-rises
returns-clause-rises g c = rose_then 1 6 1 _ _ _ _ (g.S.Scan.seen c.rest.new.self.scan) _ c.rest.ensures.rises c.shift.ensures.rises
    c.rest.ensures.fixed (omega arith) (omega (arith, ap length c.from_u64.ensures.bits))
