use Rattle.cut_laws.proofs.RunLemmas as lemmas
use Rattle.cut_laws.proofs.run.looks_cut.Goals as goal

pub returns : goal.returns
returns c = lemmas.looking_cut
