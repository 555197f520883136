use Rattle.std.proofs.Common.{◌-◌, arith}
use Rattle.std.proofs.lemmas.Grind.{common_steps}
use Rattle.jt_base.proofs.Fronts.{front_taken}
use Rattle.jt_base.proofs.memory_sink.MemorySinkSink.put.Goals as goal

pub returns-then-bytes-left-clause-front : goal.returns-then-bytes-left-clause-front
returns-then-bytes-left-clause-front c = front_taken (c.self.inside.room - c.len.result) _ _ _ (grind (arith, common_steps))
