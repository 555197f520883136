use Rattle.abstract_debugger.proofs.Transparency as lemmas
use Rattle.abstract_debugger.proofs.laws.transparent.Goals as goal

pub returns-clause-machines : goal.returns-clause-machines
returns-clause-machines c = lemmas.transparent

pub returns-clause-unmasked : goal.returns-clause-unmasked
returns-clause-unmasked c = lemmas.replays_keep_unmasked

pub returns-clause-fresh : goal.returns-clause-fresh
returns-clause-fresh c = lemmas.fresh_unmasked
