use Rattle.chain_scan.proofs.Passing.{scans_exchange}
use Rattle.chain_scan.proofs.laws.scans_exchange.Goals as goal

pub returns : goal.returns
returns c = scans_exchange
