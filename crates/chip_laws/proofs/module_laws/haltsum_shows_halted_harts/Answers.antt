use Rattle.chip_laws.proofs.HaltsumLemmas as lemmas
use Rattle.chip_laws.proofs.module_laws.haltsum_shows_halted_harts.Goals as goal

pub returns : goal.returns
returns c = lemmas.haltsum_shows
