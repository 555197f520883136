use Rattle.elf_session.proofs.Laying as lemmas
use Rattle.elf_session.proofs.laws.loadings_lay_segments.Goals as goal

pub returns : goal.returns
returns c = lemmas.lay_segments
