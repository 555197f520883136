use Rattle.chip_laws.proofs.PathLemmas as lemmas
use Rattle.chip_laws.proofs.path_laws.one_operation_between_deeds.Goals as goal

pub returns : goal.returns
returns c = lemmas.one_operation_between_deeds
