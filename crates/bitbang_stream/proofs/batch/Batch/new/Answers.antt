use Rattle.std.proofs.Common.{arith}
use Rattle.std.proofs.lemmas.Grind.{common_steps}
use Rattle.bitbang_stream.proofs.Opens.{nothing_is_open}
use Rattle.bitbang_stream.proofs.batch.Batch.new.Goals as goal

pub invariant_of-result : goal.invariant_of-result
invariant_of-result c = grind (arith, common_steps, nothing_is_open)
