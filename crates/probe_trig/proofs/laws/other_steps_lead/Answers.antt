use Rattle.probe_trig.proofs.StepLawLemmas as lemmas
use Rattle.probe_trig.proofs.laws.other_steps_lead.Goals as goal

pub returns : goal.returns
returns c = lemmas.other_steps_lead
