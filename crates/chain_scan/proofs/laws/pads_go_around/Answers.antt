use Rattle.chain_scan.proofs.Passing.{pads_go_around}
use Rattle.chain_scan.proofs.laws.pads_go_around.Goals as goal

pub returns : goal.returns
returns c = pads_go_around
