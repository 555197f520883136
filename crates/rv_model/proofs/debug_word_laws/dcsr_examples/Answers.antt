use Rattle.rv_model.proofs.DebugWordLemmas as lemmas
use Rattle.rv_model.proofs.debug_word_laws.dcsr_examples.Goals as goal

pub returns : goal.returns
returns c = lemmas.dcsr_examples
