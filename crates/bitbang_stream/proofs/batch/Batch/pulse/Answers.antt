use Rattle.std.proofs.Common.{arith}
use Rattle.std.proofs.lemmas.Grind.{common_steps}
use Rattle.bitbang_stream.proofs.Opens.{pulse_is_open}
use Rattle.bitbang_stream.proofs.batch.Batch.pulse.Goals as goal

pub invariant_of-self : goal.invariant_of-self
invariant_of-self c = pulse_is_open c.self.inside.signs.items _ c.args.ask c.args.tms c.args.tdi c.self.invariant (grind (arith, common_steps))
