use Rattle.cut_laws.proofs.CommandLemmas as lemmas
use Rattle.cut_laws.proofs.commands.places_write.Goals as goal

pub returns : goal.returns
returns c = lemmas.places_write
