use Rattle.debug_model.proofs.JournalLemmas as lemmas
use Rattle.debug_model.proofs.journal_laws.points_forget_debugging.Goals as goal

pub returns-clause-forgets : goal.returns-clause-forgets
returns-clause-forgets c = lemmas.points_forget_debugging

pub returns-clause-unmasked : goal.returns-clause-unmasked
returns-clause-unmasked c = lemmas.points_keep_unmasked
