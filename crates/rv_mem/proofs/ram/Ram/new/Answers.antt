use Rattle.std.proofs.Common.{IfOk, subst, ◌≡◌}
use Rattle.rv_model.specs.Memory.{Memory}
use Rattle.rv_mem.proofs.LaidLemmas.{wordless}
use Rattle.rv_mem.proofs.ram.Ram.new.Goals as goal

pub returns-clause-zeros : goal.returns-clause-zeros
returns-clause-zeros c = subst (λ (m : Memory). IfOk c.made.result (λ ram. ram ≡ m)) (wordless c.args.size) c.made.ensures.zeros
