use Rattle.chip_laws.proofs.TapLemmas as lemmas
use Rattle.chip_laws.proofs.tap_laws.falls_show_next_bit.Goals as goal

pub returns : goal.returns
returns c = lemmas.falls_show
