use Rattle.cut_laws.proofs.PendingLemmas as lemmas
use Rattle.cut_laws.proofs.memory.pending_cut.Goals as goal

pub returns : goal.returns
returns c = lemmas.asking_pending_cut
