use Rattle.elf_load.proofs.NumberLemmas.{field}
use Rattle.elf_load.proofs.fields.half_at.Goals as goal

pub returns : goal.returns
returns c = field c.args.at 2 c.read_u16.result c.args.bytes.now c.read_u16.ensures
