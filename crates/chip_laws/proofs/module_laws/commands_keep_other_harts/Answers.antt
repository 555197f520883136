use Rattle.chip_laws.proofs.ModuleLemmas as lemmas
use Rattle.chip_laws.proofs.module_laws.commands_keep_other_harts.Goals as goal

pub returns : goal.returns
returns c = lemmas.commands_keep_others
