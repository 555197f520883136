use Rattle.soft_laws.proofs.HideLemmas as lemmas
use Rattle.soft_laws.proofs.laws.patches_hide.Goals as goal

pub returns : goal.returns
returns c = lemmas.patches_hide
