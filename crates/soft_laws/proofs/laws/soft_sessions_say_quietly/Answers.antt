use Rattle.soft_laws.proofs.SoftQuiet as lemmas
use Rattle.soft_laws.proofs.laws.soft_sessions_say_quietly.Goals as goal

pub returns : goal.returns
returns c = lemmas.sessions_say_quietly
