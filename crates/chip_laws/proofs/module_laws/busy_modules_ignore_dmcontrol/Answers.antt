use Rattle.chip_laws.proofs.ModuleLemmas as lemmas
use Rattle.chip_laws.proofs.module_laws.busy_modules_ignore_dmcontrol.Goals as goal

pub returns : goal.returns
returns c = lemmas.busy_ignores
