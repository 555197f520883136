use Rattle.std.proofs.Common.{refl}
use Rattle.probe_session.specs.Failures.{failure_of_run}
use Rattle.probe_session.proofs.GoingLines.{gone, gone_falls}
use Rattle.probe_session.proofs.LinkLemmas.{if_err}
use Rattle.probe_session.proofs.going.free_line.Goals as goal

pub returns-in_err-resume-clause-falls : goal.returns-in_err-resume-clause-falls
returns-in_err-resume-clause-falls g c = if_err _ (failure_of_run c.in_err-resume.field-0.0) _ c.from_residual.ensures.1
    (gone_falls c.args.halted.number (record {
      why = c.in_err-resume.field-0.0;
      later = c.resume.ensures.keeps.later;
      heard = c.in_err-resume.ensures.fails;
      told = c.in_err-resume.ensures.left;
      is = refl;
    }))

pub returns-clause-went : goal.returns-clause-went
returns-clause-went g c = gone c.args.halted.number (record { heard = c.in_ok-resume.ensures.did; told = c.in_ok-resume.ensures.happened })
