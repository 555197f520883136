use Rattle.probe_trig.proofs.Alone as lemmas
use Rattle.probe_trig.proofs.laws.single_steps_are_over.Goals as goal

pub returns : goal.returns
returns c = lemmas.single_steps_are_over
