use Rattle.soft_laws.proofs.HiddenScripts.{chips_are_undebugged}
use Rattle.soft_laws.proofs.SoftTransparency as lemmas
use Rattle.soft_laws.proofs.laws.soft_transparent.Goals as goal

pub returns-clause-seen : goal.returns-clause-seen
returns-clause-seen c = lemmas.soft_transparent

pub returns-clause-chips : goal.returns-clause-chips
returns-clause-chips c = chips_are_undebugged
