use Rattle.rv_model.proofs.DebugWordLemmas as lemmas
use Rattle.rv_model.proofs.debug_word_laws.releases_shown.Goals as goal

pub returns : goal.returns
returns c = lemmas.releases_shown
