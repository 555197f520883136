use Rattle.chip_laws.proofs.StreamLemmas as lemmas
use Rattle.chip_laws.proofs.stream_laws.unended_chips_run.Goals as goal

pub returns : goal.returns
returns c = lemmas.unended_runs
