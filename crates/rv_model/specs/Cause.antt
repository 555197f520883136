-- Why a hart halted, as a number.
-- RISC-V Debug Specification 1.0, "Debug Control and Status", the field cause of dcsr.
use Rattle.std.specs.Prelude.{ℕ}
use Rattle.rv_model.specs.declared.cause.Cause.{Cause}
use Rattle.rv_model.specs.declared.cause.Cause.TheVariants.{Ebreak, Trigger, HaltReq, Step, Reset}

abbrev pub cause_number : Cause → ℕ
cause_number Ebreak = 1
cause_number Trigger = 2
cause_number HaltReq = 3
cause_number Step = 4
cause_number Reset = 5
