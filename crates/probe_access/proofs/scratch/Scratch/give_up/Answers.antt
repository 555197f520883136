use Rattle.std.proofs.Common.{sym, subst}
use Rattle.probe_access.specs.MemoryRuns.{Recovers}
use Rattle.probe_access.specs.MemoryRuns.GaveUp.{worse}
use Rattle.probe_access.proofs.scratch.Scratch.give_up.Goals as goal

pub returns-in-Err-clause-gave_up : goal.returns-in-Err-clause-gave_up
returns-in-Err-clause-gave_up g c = worse (subst Recovers (sym c.in-Memory.is) tt) c.in-Err.ensures.failed

pub returns-in-Err-put_back-clause-gave_up : goal.returns-in-Err-put_back-clause-gave_up
returns-in-Err-put_back-clause-gave_up g c = worse (subst Recovers (sym c.in-Register.is) tt) c.in-Err-put_back.ensures.failed
