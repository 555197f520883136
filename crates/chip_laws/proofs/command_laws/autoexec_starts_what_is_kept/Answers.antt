use Rattle.chip_laws.proofs.CommandLemmas as lemmas
use Rattle.chip_laws.proofs.command_laws.autoexec_starts_what_is_kept.Goals as goal

pub returns : goal.returns
returns c = lemmas.autoexec
