use Rattle.rv_model.proofs.DebugRegisterLemmas as lemmas
use Rattle.rv_model.proofs.debug_laws.debug_register_numbers.Goals as goal

pub returns : goal.returns
returns c = lemmas.debug_register_numbers
