use Rattle.cut_laws.proofs.BesideLemmas as lemmas
use Rattle.cut_laws.proofs.IdcodeLemmas as idcode
use Rattle.cut_laws.proofs.beside.reads_cut.Goals as goal

pub returns-clause-idcode : goal.returns-clause-idcode
returns-clause-idcode c = idcode.idcode_cut

pub returns-clause-asking : goal.returns-clause-asking
returns-clause-asking c = lemmas.asking_cut

pub returns-clause-reading : goal.returns-clause-reading
returns-clause-reading c = lemmas.reading_cut

pub returns-clause-stopping : goal.returns-clause-stopping
returns-clause-stopping c = lemmas.stopping_cut
