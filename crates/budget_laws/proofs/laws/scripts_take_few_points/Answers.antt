use Rattle.budget_laws.proofs.CommandPoints.{scripts_take_few_points}
use Rattle.budget_laws.proofs.laws.scripts_take_few_points.Goals as goal

pub returns : goal.returns
returns c = scripts_take_few_points
