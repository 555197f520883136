use Rattle.jt_base.specs.BitLaws.{number_of-bits_of}
use Rattle.jt_base.proofs.BitLists.{bits_of-number_of}
use Rattle.jt_base.proofs.laws.bits_spell_one_number.Goals as goal

pub returns-clause-bits : goal.returns-clause-bits
returns-clause-bits c = bits_of-number_of

pub returns-clause-number : goal.returns-clause-number
returns-clause-number c = number_of-bits_of
