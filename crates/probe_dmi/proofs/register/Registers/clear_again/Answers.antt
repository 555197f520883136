use Rattle.debug_model.specs.declared.data_register.DataRegister.TheVariants.{Dmi, Dtmcs}
use Rattle.jt_base.proofs.Pieces.{on_err}
use Rattle.debug_model.specs.Asked.{reset_bits}
use Rattle.probe_dmi.proofs.Heard.{again_cause, from_err, number_through}
use Rattle.probe_dmi.proofs.Scans.{word_cut, word_then}
use Rattle.std.proofs.Common.{arith}
use Rattle.probe_dmi.proofs.Rising.{resets_idle, rose_more, rose_then}
use Rattle.probe_dmi.proofs.register.Registers.clear_again.Goals as goal

pub returns-in_err-select-clause-cut : goal.returns-in_err-select-clause-cut
returns-in_err-select-clause-cut g c = on_err _
    (word_cut Dtmcs reset_bits c.in_ok-value.value _ (g.S.Scan.seen c.clear.new.self.scan).far _ c.in_ok-value.ensures.scanned c.in_err-select.ensures.cut)

pub returns-in_err-select-clause-cause : goal.returns-in_err-select-clause-cause
returns-in_err-select-clause-cause g c =
    from_err _ c.in_err-select.field-0.0 _ c.from_residual-in_err-select.ensures.1
    (again_cause _ (g.S.Scan.seen c.clear.new.self.scan).fault_count _ _ _ (g.S.Scan.seen c.clear.new.self.scan).coming c.in_err-select.field-0.0
    c.clear.ensures.keeps.later c.select.ensures.keeps.later (number_through c.in_ok-value.value _ _ c.in_ok-value.ensures.heard) c.in_err-select.ensures.cause)

pub returns-clause-scanned : goal.returns-clause-scanned
returns-clause-scanned g c = word_then Dtmcs Dmi reset_bits c.in_ok-value.value _ (g.S.Scan.seen c.clear.new.self.scan).far _ c.in_ok-value.ensures.scanned
    c.in_ok-select.ensures.prepared

pub returns-in_err-value-clause-rises : goal.returns-in_err-value-clause-rises
returns-in_err-value-clause-rises g c = rose_more _ _ _ _ _ _ c.clear.ensures.rises (omega arith) (omega arith)

pub returns-in_err-select-clause-rises : goal.returns-in_err-select-clause-rises
returns-in_err-select-clause-rises g c = rose_then _ _ _ _ _ _ _ (g.S.Scan.seen c.clear.new.self.scan) _ c.clear.ensures.rises c.select.ensures.rises
    c.clear.ensures.keeps.fixed (omega (arith, resets_idle _ c.in_ok-value.ensures.state)) (omega (arith, resets_idle _ c.in_ok-value.ensures.state))

pub returns-clause-rises : goal.returns-clause-rises
returns-clause-rises g c = rose_then _ _ _ _ _ _ _ (g.S.Scan.seen c.clear.new.self.scan) _ c.clear.ensures.rises c.select.ensures.rises
    c.clear.ensures.keeps.fixed (omega (arith, resets_idle _ c.in_ok-value.ensures.state)) (omega (arith, resets_idle _ c.in_ok-value.ensures.state))
