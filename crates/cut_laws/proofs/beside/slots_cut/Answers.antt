use Rattle.probe_trig.specs.declared.change.Change.TheVariants.{Forget}
use Rattle.probe_trig.specs.Runs.{ArmsAny, ChangesAny, FreesAny, ReadsAny}
use Rattle.cut_laws.proofs.BesideLemmas as lemmas
use Rattle.cut_laws.proofs.beside.slots_cut.Goals as goal

pub returns-clause-viewing : goal.returns-clause-viewing
returns-clause-viewing c = lemmas.slots_cut ReadsAny

pub returns-clause-arming : goal.returns-clause-arming
returns-clause-arming c = λ meant. lemmas.slots_cut (ArmsAny meant)

pub returns-clause-freeing : goal.returns-clause-freeing
returns-clause-freeing c = λ slot. lemmas.slots_cut (FreesAny slot)

pub returns-clause-forgetting : goal.returns-clause-forgetting
returns-clause-forgetting c = lemmas.slots_cut (ChangesAny Forget)
