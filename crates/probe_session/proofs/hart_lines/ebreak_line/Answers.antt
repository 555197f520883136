use Rattle.debug_model.proofs.RiseLemmas.{within_more, within_then}
use Rattle.std.proofs.Common.{refl, true, arith}
use Rattle.probe_session.specs.Failures.{failure_of_access}
use Rattle.probe_session.proofs.Conversions.{became, of_register}
use Rattle.probe_session.proofs.HartLines.{ebreak_falls, ebreak_said, ebreak_set_falls}
use Rattle.probe_session.proofs.LinkLemmas.{if_err}
use Rattle.probe_session.proofs.RegisterLemmas.{dcsr_of_harts}
use Rattle.probe_session.proofs.hart_lines.ebreak_line.Goals as goal

pub returns-in_err-word-clause-falls : goal.returns-in_err-word-clause-falls
returns-in_err-word-clause-falls g c = if_err _ c.in_err-word.field-0.0 _ c.from_residual.ensures.1
    (ebreak_falls c.args.halted.now.number c.args.is_on dcsr_of_harts c.in_err-word.ensures.fell)

pub returns-in_err-set_reg-clause-falls : goal.returns-in_err-set_reg-clause-falls
returns-in_err-set_reg-clause-falls g c =
    if_err _ (failure_of_access c.in_err-set_reg.field-0.0) _ c.from_residual-in_err-set_reg.ensures.1
    (ebreak_set_falls c.args.halted.now.number c.in_ok-word.word _ c.args.is_on c.with_ebreakm.ensures
    c.in_ok-word.ensures.got c.reg.ensures.keeps.later (record {
      why = c.in_err-set_reg.field-0.0;
      later = c.set_reg.ensures.keeps.later;
      at = c.in_ok-word.ensures.keeps.behind.serving;
      heard = c.in_err-set_reg.ensures.failed;
      told = c.in_err-set_reg.ensures.left;
      cut = c.in_err-set_reg.ensures.cut;
      is = became c.in_err-set_reg.field-0.0 (of_register true _ _ _ _ c.in_err-set_reg.field-0.0 c.in_err-set_reg.ensures.left) refl;
    }))

pub returns-clause-went : goal.returns-clause-went
returns-clause-went g c = ebreak_said c.args.halted.now.number c.in_ok-word.word _ c.args.is_on c.in_ok-word.ensures.got c.with_ebreakm.ensures
    (record { heard = c.in_ok-set_reg.ensures.written; told = c.in_ok-set_reg.ensures.set_to })

pub returns-in_err-word-clause-rises : goal.returns-in_err-word-clause-rises
returns-in_err-word-clause-rises g c =
    within_more 16 24 _ _ c.reg.ensures.rises (omega arith)

pub returns-in_err-set_reg-clause-rises : goal.returns-in_err-set_reg-clause-rises
returns-in_err-set_reg-clause-rises g c =
    within_then 16 8 24 _ (g.D.Dmi.seen c.reg.new.link) _ c.reg.ensures.rises c.set_reg.ensures.rises c.reg.ensures.keeps.fixed (omega arith)

pub returns-clause-rises : goal.returns-clause-rises
returns-clause-rises g c =
    within_then 16 8 24 _ (g.D.Dmi.seen c.reg.new.link) _ c.reg.ensures.rises c.set_reg.ensures.rises c.reg.ensures.keeps.fixed (omega arith)
