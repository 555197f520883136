use Rattle.rv_model.proofs.DebugWordLemmas as lemmas
use Rattle.rv_model.proofs.debug_word_laws.triggers_kept.Goals as goal

pub returns : goal.returns
returns c = lemmas.triggers_kept
