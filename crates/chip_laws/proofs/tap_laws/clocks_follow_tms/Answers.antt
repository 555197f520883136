use Rattle.chip_laws.proofs.TapLemmas as lemmas
use Rattle.chip_laws.proofs.tap_laws.clocks_follow_tms.Goals as goal

pub returns : goal.returns
returns c = lemmas.follow_tms
