use Rattle.std.proofs.Common.{arith}
use Rattle.std.proofs.lemmas.Grind.{common_steps}
use Rattle.wire_sniff.proofs.WaveLemmas.{same_levels}
use Rattle.wire_sniff.proofs.moment.Moment.levels_at.Goals as goal

pub returns : goal.returns
returns c = λ answers m is. rw (← same_levels answers c.args.self.now m is) (grind (arith, common_steps))
