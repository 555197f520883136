use Rattle.chain_scan.proofs.ChipInChain.{chip_sees_another_tdi}
use Rattle.chain_scan.proofs.laws.chip_sees_another_tdi.Goals as goal

pub returns : goal.returns
returns c = chip_sees_another_tdi
