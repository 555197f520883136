use Rattle.rv_model.proofs.DebugWordLemmas as lemmas
use Rattle.rv_model.proofs.debug_word_laws.trigger_read_back.Goals as goal

pub returns : goal.returns
returns c = lemmas.trigger_read_back
