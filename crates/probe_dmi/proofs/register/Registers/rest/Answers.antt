use Rattle.debug_model.specs.declared.data_register.DataRegister.TheVariants.{Idcode}
use Rattle.jt_base.proofs.Pieces.{on_err}
use Rattle.probe_dmi.proofs.Scans.{prepared_waited, reset_prepared, reset_waited, waited_none}
use Rattle.std.proofs.Common.{◌∙◌, sym, arith}
use Rattle.probe_dmi.proofs.Rising.{reset_cut_rose, reset_rose, resets_one, rose_more, rose_none}
use Rattle.probe_dmi.proofs.register.Registers.rest.Goals as goal

pub returns-then-eq-clause-waited : goal.returns-then-eq-clause-waited
returns-then-eq-clause-waited g c = waited_none _

pub returns-in_err-reset-clause-cut : goal.returns-in_err-reset-clause-cut
returns-in_err-reset-clause-cut g c = on_err _ (reset_waited _ _ _ c.requires.scan.rest c.in_err-reset.ensures.cut)

pub returns-clause-waited : goal.returns-clause-waited
returns-clause-waited g c = prepared_waited Idcode _ _ (reset_prepared _ _ _ c.requires.scan.rest c.in_ok-reset.ensures.reset)

pub returns-clause-reset : goal.returns-clause-reset
returns-clause-reset g c = λ _. reset_prepared _ _ _ c.requires.scan.rest c.in_ok-reset.ensures.reset

pub returns-then-eq-clause-rises : goal.returns-then-eq-clause-rises
returns-then-eq-clause-rises g c = rose_none _ _ _

pub returns-in_err-reset-clause-rises : goal.returns-in_err-reset-clause-rises
returns-in_err-reset-clause-rises g c =
    let one = resets_one c.args.self.now.state (sym c.eq.ensures ∙ c.if-eq.false) in
    rose_more 1 6 _ _ _ _ (reset_cut_rose _ _ c.in_err-reset.ensures.cut) one (omega (arith, one))

pub returns-clause-rises : goal.returns-clause-rises
returns-clause-rises g c =
    let one = resets_one c.args.self.now.state (sym c.eq.ensures ∙ c.if-eq.false) in
    rose_more 1 6 _ _ _ _ (reset_rose _ _ c.in_ok-reset.ensures.reset) one (omega (arith, one))
