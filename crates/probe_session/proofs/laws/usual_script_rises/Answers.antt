use Rattle.std.proofs.Common.{refl}
use Rattle.probe_session.proofs.laws.usual_script_rises.Goals as goal

pub returns : goal.returns
returns c register kind address slot = refl
