use Rattle.cut_laws.proofs.CommandLemmas as lemmas
use Rattle.cut_laws.proofs.commands.first_look_cut.Goals as goal

pub returns : goal.returns
returns c = lemmas.first_look_cut
