use Rattle.std.proofs.Common.{false, rules}
use Rattle.probe_session.proofs.Conversions.{became, of_register}
use Rattle.probe_session.proofs.LinkLemmas.{access_left}
use Rattle.probe_session.proofs.RegisterLemmas.{is_other, got_none}
use Rattle.probe_session.proofs.registers.reg_or_none.Goals as goal

pub returns-in_default-clause-fell : goal.returns-in_default-clause-fell
returns-in_default-clause-fell g c = record {
  fell = record {
    why = c.in-Err.fault;
    later = c.held_reg.ensures.keeps.later;
    at = c.requires.serving.serving;
    heard = c.in-Err.ensures.failed;
    told = c.in-Err.ensures.left;
    cut = c.in-Err.ensures.cut;
    is = became c.in-Err.fault (of_register false _ _ _ _ c.in-Err.fault c.in-Err.ensures.left) c.from.ensures;
  };
  other = is_other c.in-Err.fault c.in_default.not-Register;
}

pub returns-in_default-clause-keeps : goal.returns-in_default-clause-keeps
returns-in_default-clause-keeps g c = let b = access_left _ c.in-Err.fault _ c.in-Err.ensures.keeps.behind c.from.ensures in search rules

pub returns-in-Register-clause-got : goal.returns-in-Register-clause-got
returns-in-Register-clause-got g c =
    got_none c.args.halted.now.number c.args.number c.in-Register.field-0 _ _ _ _ c.in-Err.fault c.in-Register.is c.in-Err.ensures.failed c.in-Err.ensures.left
