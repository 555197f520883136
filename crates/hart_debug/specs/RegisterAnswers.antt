-- What a write of a core's register by the debugger's number answers, out of what a read of it answers.
-- RISC-V Debug Specification 1.0, "Access Register"; privileged manual, "CSR Address Mapping Conventions".
use Rattle.std.specs.Prelude.{ℕ, ⊤, if◌then◌else◌, Option, Some, None, Result, Ok, Err}
use Rattle.rv_model.specs.Registers.{csr_read_only}
use Rattle.rv_hart.specs.declared.csr_fault.CsrFault.{CsrFault}
use Rattle.rv_hart.specs.declared.csr_fault.CsrFault.TheVariants.{Absent, ReadOnly}

abbrev pub write_answer : Option ℕ → ℕ → Result ⊤ CsrFault
write_answer None number = Err Absent
write_answer (Some v) number = if csr_read_only number then Err ReadOnly else Ok tt
