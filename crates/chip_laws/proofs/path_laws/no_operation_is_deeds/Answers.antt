use Rattle.chip_laws.proofs.PathLemmas as lemmas
use Rattle.chip_laws.proofs.path_laws.no_operation_is_deeds.Goals as goal

pub returns : goal.returns
returns c = lemmas.no_operation_is_deeds
