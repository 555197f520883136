use Rattle.elf_session.proofs.Plans as lemmas
use Rattle.elf_session.proofs.laws.loadings_say_quietly.Goals as goal

pub returns : goal.returns
returns c = lemmas.say_quietly
