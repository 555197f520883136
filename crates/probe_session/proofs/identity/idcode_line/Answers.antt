use Rattle.std.proofs.Common.{refl}
use Rattle.probe_session.specs.Failures.{failure_of_dmi}
use Rattle.probe_session.proofs.LinkLemmas.{if_err}
use Rattle.probe_session.proofs.Lines.{idcode_falls, identified, ready_on}
use Rattle.probe_session.proofs.Selections.{identified_stays}
use Rattle.probe_session.proofs.identity.idcode_line.Goals as goal

pub returns-in_err-number-clause-falls : goal.returns-in_err-number-clause-falls
returns-in_err-number-clause-falls g c =
    if_err _ (failure_of_dmi c.in_err-number.field-0.0) _ c.from_residual.ensures.1
    (idcode_falls (record {
      why = c.in_err-number.field-0.0;
      later = c.idcode.ensures.keeps.later;
      cause = c.in_err-number.ensures.cause;
      told =
          c.in_err-number.ensures.cut;
      ready = c.requires.serving.ready;
      is = refl;
    }))

pub returns-clause-went : goal.returns-clause-went
returns-clause-went g c =
    identified c.in_ok-number.number (record {
      heard = c.in_ok-number.ensures.shows;
      number_is = c.in_ok-number.ensures.value;
      told =
          c.in_ok-number.ensures.path;
      ready = c.requires.serving.ready;
    })

pub returns-clause-keeps : goal.returns-clause-keeps
returns-clause-keeps g c = record {
  later = c.idcode.ensures.keeps.later;
  fixed = c.idcode.ensures.keeps.fixed;
  behind = record { stands = c.in_ok-number.ensures.keeps.behind; ready = ready_on _ _ c.requires.serving.ready c.in_ok-number.ensures.path };
}

pub returns-clause-selection : goal.returns-clause-selection
returns-clause-selection g c = identified_stays _ _ c.requires.serving.ready c.in_ok-number.ensures.path
