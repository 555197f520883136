use Rattle.chip_laws.proofs.ModuleLemmas as lemmas
use Rattle.chip_laws.proofs.module_laws.served_harts_rest.Goals as goal

pub returns : goal.returns
returns c = lemmas.rests
