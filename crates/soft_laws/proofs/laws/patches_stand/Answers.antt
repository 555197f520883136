use Rattle.soft_laws.proofs.SoftSteps as lemmas
use Rattle.soft_laws.proofs.laws.patches_stand.Goals as goal

pub returns-clause-uncovering : goal.returns-clause-uncovering
returns-clause-uncovering c = lemmas.uncovering_stands

pub returns-clause-covering : goal.returns-clause-covering
returns-clause-covering c = lemmas.covering_stands
