use Rattle.probe_session.proofs.LedSteps.{goes_lead}
use Rattle.probe_session.proofs.laws.sessions_lead.Goals as goal

pub returns : goal.returns
returns c = goes_lead
