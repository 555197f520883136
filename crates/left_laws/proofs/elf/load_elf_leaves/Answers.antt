use Rattle.left_laws.proofs.ElfLemmas as lemmas
use Rattle.left_laws.proofs.elf.load_elf_leaves.Goals as goal

pub returns : goal.returns
returns c = lemmas.load_elf_leaves
