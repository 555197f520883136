use Rattle.elf_load.proofs.NumberLemmas.{field}
use Rattle.elf_load.proofs.fields.double_at.Goals as goal

pub returns : goal.returns
returns c = field c.args.at 8 c.read_u64.result c.args.bytes.now c.read_u64.ensures
