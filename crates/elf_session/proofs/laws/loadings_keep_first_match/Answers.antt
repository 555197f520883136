use Rattle.elf_session.proofs.Plans as lemmas
use Rattle.elf_session.proofs.laws.loadings_keep_first_match.Goals as goal

pub returns : goal.returns
returns c = lemmas.keep_first_match
