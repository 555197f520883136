use Rattle.chain_scan.proofs.OneRegister.{registers_shift_as_one}
use Rattle.chain_scan.proofs.laws.registers_shift_as_one.Goals as goal

pub returns : goal.returns
returns c = registers_shift_as_one
