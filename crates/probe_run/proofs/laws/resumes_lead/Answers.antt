use Rattle.probe_run.proofs.SessionLemmas as lemmas
use Rattle.probe_run.proofs.laws.resumes_lead.Goals as goal

pub returns : goal.returns
returns c = lemmas.resumes_lead
