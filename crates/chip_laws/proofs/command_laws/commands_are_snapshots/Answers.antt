use Rattle.chip_laws.proofs.CommandLemmas as lemmas
use Rattle.chip_laws.proofs.command_laws.commands_are_snapshots.Goals as goal

pub returns : goal.returns
returns c = lemmas.snapshots
