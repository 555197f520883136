use Rattle.soft_laws.proofs.ReadLemmas as lemmas
use Rattle.soft_laws.proofs.laws.reads_hide.Goals as goal

pub returns : goal.returns
returns c = lemmas.reads_hide
