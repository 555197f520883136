use Rattle.rv_model.proofs.AluCorners as lemmas
use Rattle.rv_model.proofs.examples.alu_corners.Goals as goal

pub returns : goal.returns
returns c = lemmas.alu_corners
