use Rattle.std.proofs.Common.{◌++◌, drop, ap, length}
use Rattle.rv_mem.proofs.bytes.put.Goals as goal

pub returns : goal.returns
returns c = ap (λ l. l ++ drop (length c.args.image.now) c.args.bytes.now) c.copy_from_slice.ensures.after
