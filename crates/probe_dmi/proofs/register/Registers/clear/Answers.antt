use Rattle.debug_model.specs.declared.data_register.DataRegister.TheVariants.{Dtmcs}
use Rattle.probe_dmi.proofs.Conditions.{as_long}
use Rattle.std.proofs.Common.{arith}
use Rattle.probe_dmi.proofs.Rising.{rose_more}
use Rattle.probe_dmi.proofs.register.Registers.clear.Goals as goal

pub register-requires-clause-long : goal.register-requires-clause-long
register-requires-clause-long g c = as_long Dtmcs c.from_u64.result _ c.from_u64.ensures.length

pub returns-in_err-out-clause-rises : goal.returns-in_err-out-clause-rises
returns-in_err-out-clause-rises g c = rose_more _ _ _ _ _ _ c.register.ensures.rises (omega arith) (omega (arith, c.from_u64.ensures.length))

pub returns-clause-rises : goal.returns-clause-rises
returns-clause-rises g c = rose_more _ _ _ _ _ _ c.register.ensures.rises (omega arith) (omega (arith, c.from_u64.ensures.length))
