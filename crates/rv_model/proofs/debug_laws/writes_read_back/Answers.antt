use Rattle.rv_model.proofs.DebugRegisterLemmas as lemmas
use Rattle.rv_model.proofs.debug_laws.writes_read_back.Goals as goal

pub returns : goal.returns
returns c = lemmas.writes_read_back
