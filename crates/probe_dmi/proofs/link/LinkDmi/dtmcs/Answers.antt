use Rattle.std.proofs.Common.{◌∙◌, ap, arith, rules}
use Rattle.debug_model.specs.declared.dtmcs.Dtmcs.{Dtmcs as TheDtmcs}
use Rattle.debug_model.specs.Asked.{abits_behind, reset_bits}
use Rattle.debug_model.specs.declared.data_register.DataRegister.TheVariants.{Dtmcs}
use Rattle.jt_base.proofs.Pieces.{on_err}
use Rattle.probe_dmi.proofs.Asking.{asks_width}
use Rattle.probe_dmi.proofs.Bounds.{cut_rises, word_rises}
use Rattle.probe_dmi.proofs.Rising.{resets_few}
use Rattle.probe_dmi.proofs.Stages.{reset_harmless}
use Rattle.probe_dmi.proofs.Conditions.{can_operate}
use Rattle.probe_dmi.proofs.Readings.{abits_told, dtmcs_value, none_cut, read_clean, read_none, read_then}
use Rattle.probe_dmi.proofs.link.LinkDmi.dtmcs.Goals as goal

pub returns-in_err-dtmcs-clause-cut : goal.returns-in_err-dtmcs-clause-cut
returns-in_err-dtmcs-clause-cut g c = on_err _ (none_cut Dtmcs reset_bits reset_harmless _ _ c.requires.callable.link.clean c.in_err-dtmcs.ensures.cut)

pub returns-clause-path : goal.returns-clause-path
returns-clause-path g c = read_none _ _ (read_then Dtmcs reset_bits c.in_ok-dtmcs.dtmcs reset_harmless _ _ c.requires.callable.link.clean
    c.in_ok-dtmcs.ensures.scanned)

pub returns-clause-value : goal.returns-clause-value
returns-clause-value g c = dtmcs_value c.in_ok-dtmcs.dtmcs _ _ c.requires.callable.link.clean c.in_ok-dtmcs.ensures.scanned

pub returns-clause-keeps : goal.returns-clause-keeps
returns-clause-keeps g c = let o = can_operate _ c.in_ok-dtmcs.ensures.keeps.behind
    (read_clean (g.S.Scan.seen c.args.self.now.registers.scan).far _
    (read_then Dtmcs reset_bits c.in_ok-dtmcs.dtmcs reset_harmless _ _ c.requires.callable.link.clean c.in_ok-dtmcs.ensures.scanned)) in search rules

pub invariant_of-self-2 : goal.invariant_of-self-2
invariant_of-self-2 g c = record {
  in_range = (c.abits_behind-self.ensures.least, c.abits_behind-self.ensures.most);
  is_pace = c.args.self.now.is_pace;
  width = abits_told c.in_ok-dtmcs.dtmcs c.args.self.now.abits c.abits_behind-self.result (g.S.Scan.seen c.args.self.now.registers.scan).far _
      c.requires.callable.link.clean (c.abits_behind-self.ensures.value
      ∙ ap (λ (r : TheDtmcs). abits_behind r.abits c.args.self.now.abits) c.from_word.ensures) c.in_ok-dtmcs.ensures.scanned;
}

pub returns-clause-asked : goal.returns-clause-asked
returns-clause-asked g c = asks_width c.args.self.now.registers.state c.in_ok-dtmcs.dtmcs c.args.self.now.abits c.abits_behind-self.result
    (g.S.Scan.seen c.args.self.now.registers.scan).asked _
    (c.abits_behind-self.ensures.value ∙ ap (λ (r : TheDtmcs). abits_behind r.abits c.args.self.now.abits) c.from_word.ensures) c.in_ok-dtmcs.ensures.asked

pub returns-in_err-dtmcs-clause-rises : goal.returns-in_err-dtmcs-clause-rises
returns-in_err-dtmcs-clause-rises g c = cut_rises _ _ Dtmcs reset_bits _ _ (omega (arith, resets_few c.args.self.now.registers.state))
    (omega (arith, resets_few c.args.self.now.registers.state)) c.clear.ensures.rises.told c.in_err-dtmcs.ensures.cut

pub returns-clause-rises : goal.returns-clause-rises
returns-clause-rises g c = word_rises _ _ Dtmcs reset_bits c.in_ok-dtmcs.dtmcs _ _ (omega (arith, resets_few c.args.self.now.registers.state))
    (omega (arith, resets_few c.args.self.now.registers.state)) c.clear.ensures.rises.told c.in_ok-dtmcs.ensures.scanned
