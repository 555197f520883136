use Rattle.chip_laws.proofs.CommandLemmas as lemmas
use Rattle.chip_laws.proofs.command_laws.sberror_clears_by_bits.Goals as goal

pub returns : goal.returns
returns c = lemmas.sberror_clears
