use Rattle.probe_trig.proofs.StepLawLemmas as lemmas
use Rattle.probe_trig.proofs.laws.whole_steps_lead.Goals as goal

pub returns : goal.returns
returns c = lemmas.whole_steps_lead
