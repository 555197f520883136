use Rattle.chip_laws.proofs.TapLemmas as lemmas
use Rattle.chip_laws.proofs.tap_laws.tdo_changes_at_falls.Goals as goal

pub returns : goal.returns
returns c = lemmas.changes_at_falls
