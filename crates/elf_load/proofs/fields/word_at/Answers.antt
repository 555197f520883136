use Rattle.elf_load.proofs.NumberLemmas.{field}
use Rattle.elf_load.proofs.fields.word_at.Goals as goal

pub returns : goal.returns
returns c = field c.args.at 4 c.read_u32.result c.args.bytes.now c.read_u32.ensures
