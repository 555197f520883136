use Rattle.soft_laws.proofs.HiddenScripts as lemmas
use Rattle.soft_laws.proofs.laws.sessions_hide.Goals as goal

pub returns : goal.returns
returns c = lemmas.sessions_hide
