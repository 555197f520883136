use Rattle.std.proofs.Common.{arith, rules}
use Rattle.debug_model.specs.declared.data_register.DataRegister.TheVariants.{Idcode}
use Rattle.debug_model.specs.Asked.{idcode_bits}
use Rattle.jt_base.proofs.Pieces.{on_err}
use Rattle.jt_base.specs.BitLaws.{length-bits_of}
use Rattle.probe_dmi.proofs.Bounds.{cut_rises, word_rises}
use Rattle.probe_dmi.proofs.Stages.{idcode_harmless}
use Rattle.probe_dmi.proofs.Conditions.{can_operate}
use Rattle.probe_dmi.proofs.Readings.{idcode_value, none_cut, read_clean, read_none, read_then}
use Rattle.probe_dmi.proofs.link.LinkDmi.idcode.Goals as goal

pub returns-in_err-idcode-clause-cut : goal.returns-in_err-idcode-clause-cut
returns-in_err-idcode-clause-cut g c = on_err _ (none_cut Idcode idcode_bits idcode_harmless _ _ c.requires.callable.link.clean c.in_err-idcode.ensures.cut)

pub returns-clause-path : goal.returns-clause-path
returns-clause-path g c = read_none _ _ (read_then Idcode idcode_bits c.in_ok-idcode.idcode idcode_harmless _ _ c.requires.callable.link.clean
    c.in_ok-idcode.ensures.scanned)

pub returns-clause-value : goal.returns-clause-value
returns-clause-value g c = idcode_value c.in_ok-idcode.idcode _ _ c.in_ok-idcode.ensures.scanned

pub returns-clause-keeps : goal.returns-clause-keeps
returns-clause-keeps g c = let o = can_operate _ c.in_ok-idcode.ensures.keeps.behind
    (read_clean (g.S.Scan.seen c.args.self.now.registers.scan).far _
    (read_then Idcode idcode_bits c.in_ok-idcode.idcode idcode_harmless _ _ c.requires.callable.link.clean c.in_ok-idcode.ensures.scanned)) in search rules

pub returns-in_err-idcode-clause-rises : goal.returns-in_err-idcode-clause-rises
returns-in_err-idcode-clause-rises g c = cut_rises _ _ Idcode idcode_bits _ _ (omega arith) (omega (arith, length-bits_of 32 0)) c.idcode.ensures.rises.told
    c.in_err-idcode.ensures.cut

pub returns-clause-rises : goal.returns-clause-rises
returns-clause-rises g c = word_rises _ _ Idcode idcode_bits c.in_ok-idcode.idcode _ _ (omega arith) (omega (arith, length-bits_of 32 0))
    c.idcode.ensures.rises.told c.in_ok-idcode.ensures.scanned
