use Rattle.chip_laws.proofs.ModuleLemmas as lemmas
use Rattle.chip_laws.proofs.module_laws.plain_reads_change_nothing.Goals as goal

pub returns : goal.returns
returns c = lemmas.plain_reads
