use Rattle.chain_scan.proofs.OneState.{taps_stay_in_one_state}
use Rattle.chain_scan.proofs.laws.taps_stay_in_one_state.Goals as goal

pub returns : goal.returns
returns c = taps_stay_in_one_state
