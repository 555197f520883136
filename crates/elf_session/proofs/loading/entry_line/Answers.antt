use Rattle.std.proofs.Common.{arith}
use Rattle.debug_model.proofs.RiseLemmas.{within_more, within_then}
use Rattle.probe_session.proofs.LinkLemmas.{if_err}
use Rattle.probe_session.proofs.OneLine.{if_err_map, if_ok_map, met_as}
use Rattle.elf_session.specs.Loading.{entering, loading_hart}
use Rattle.elf_session.proofs.Entering.{met_at, met_at_falls, met_falls, met_says}
use Rattle.elf_session.proofs.LoadingSteps.{attached_error, error_as, goes_loaded, says_attached}
use Rattle.elf_session.proofs.loading.entry_line.Goals as goal

pub returns-in_err-line-clause-falls : goal.returns-in_err-line-clause-falls
returns-in_err-line-clause-falls g c = if_err _ c.in_err-line.field-0.0 _ c.from_residual.ensures.1
    (met_falls (entering loading_hart c.args.entry c.args.size) c.in_err-line.ensures.falls)

pub returns-in-Says-clause-went : goal.returns-in-Says-clause-went
returns-in-Says-clause-went g c =
    met_says (entering loading_hart c.args.entry c.args.size) c.in-Says.line (error_as c.in-Says.is c.in_ok-line.ensures.error)
    (met_as _ _ _ c.in-Says.is c.in_ok-line.ensures.met)

pub returns-in-Says-clause-keeps : goal.returns-in-Says-clause-keeps
returns-in-Says-clause-keeps g c = record {
  later = c.meet.ensures.keeps.later;
  fixed = c.meet.ensures.keeps.fixed;
  behind = attached_error c.in-Says.line _ (error_as c.in-Says.is c.in_ok-line.ensures.error)
      (says_attached _ c.in-Says.is c.in_ok-line.ensures.keeps.behind);
}

pub returns-in-At-clause-went : goal.returns-in-At-clause-went
returns-in-At-clause-went g c =
    let m = met_as _ _ _ c.in-At.is c.in_ok-line.ensures.met in
    if_ok_map _ _ _ (λ line w. met_at (λ h. entering h c.args.entry c.args.size) line c.in-At.halted.number m.0 m.1 w) c.entered_line.ensures.went

pub returns-in-At-clause-falls : goal.returns-in-At-clause-falls
returns-in-At-clause-falls g c =
    let m = met_as _ _ _ c.in-At.is c.in_ok-line.ensures.met in
    if_err_map _ _ _ (λ f p. met_at_falls (λ h. entering h c.args.entry c.args.size) c.in-At.halted.number m.0 m.1 c.meet.ensures.keeps.later p)
    c.entered_line.ensures.falls

pub returns-in-At-clause-keeps : goal.returns-in-At-clause-keeps
returns-in-At-clause-keeps g c =
    let m = met_as _ _ _ c.in-At.is c.in_ok-line.ensures.met in
    goes_loaded c.in-At.halted.number _ _ _ _ m.0 c.meet.ensures.keeps.later c.meet.ensures.keeps.fixed c.entered_line.ensures.keeps

pub returns-in_err-line-clause-rises : goal.returns-in_err-line-clause-rises
returns-in_err-line-clause-rises g c =
    within_more 2 162 _ _ c.meet.ensures.rises (omega arith)

pub returns-in-Says-clause-rises : goal.returns-in-Says-clause-rises
returns-in-Says-clause-rises g c =
    within_more 2 162 _ _ c.meet.ensures.rises (omega arith)

pub returns-in-At-clause-rises : goal.returns-in-At-clause-rises
returns-in-At-clause-rises g c =
    within_then 2 160 162 _ (g.D.Dmi.seen c.meet.new.link) _ c.meet.ensures.rises c.entered_line.ensures.rises
    c.meet.ensures.keeps.fixed (omega arith)
