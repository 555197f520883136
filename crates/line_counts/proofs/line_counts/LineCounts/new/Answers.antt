use Rattle.line_counts.proofs.CountLemmas.{AreCountsOf-nil}
use Rattle.line_counts.proofs.line_counts.LineCounts.new.Goals as goal

pub invariant_of-result : goal.invariant_of-result
invariant_of-result c = rw c.new.ensures AreCountsOf-nil
