use Rattle.chip_laws.proofs.CommandLemmas as lemmas
use Rattle.chip_laws.proofs.command_laws.writes_while_busy_are_lost.Goals as goal

pub returns : goal.returns
returns c = lemmas.lost_while_busy
