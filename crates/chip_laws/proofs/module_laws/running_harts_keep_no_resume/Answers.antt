use Rattle.chip_laws.proofs.ModuleLemmas as lemmas
use Rattle.chip_laws.proofs.module_laws.running_harts_keep_no_resume.Goals as goal

pub returns : goal.returns
returns c = lemmas.running_keeps_none
