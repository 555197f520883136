use Rattle.chip_sniff.proofs.Stream as lemmas
use Rattle.chip_sniff.proofs.laws.lines_tell_operations.Goals as goal

pub returns : goal.returns
returns c = lemmas.lines_tell_operations
