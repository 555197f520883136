use Rattle.chip_laws.proofs.ModuleLemmas as lemmas
use Rattle.chip_laws.proofs.module_laws.only_dmcontrol_asks_harts.Goals as goal

pub returns : goal.returns
returns c = lemmas.asks_no_hart
