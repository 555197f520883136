-- What a write of a control and status register answers: the number has to be in the table, and its row writable.
-- Privileged manual, "CSR Address Mapping Conventions": a write of a read-only register is refused, and so is one of a register that does not exist.
use Rattle.std.specs.Prelude.{ℕ, ⊤, if◌then◌else◌, Result, Ok, Err, is_some}
use Rattle.rv_model.specs.Core.{Core}
use Rattle.rv_model.specs.Registers.{csr_value, csr_read_only}
use Rattle.rv_hart.specs.declared.csr_fault.CsrFault.{CsrFault}
use Rattle.rv_hart.specs.declared.csr_fault.CsrFault.TheVariants.{Absent, ReadOnly}

abbrev pub csr_answer : Core → ℕ → Result ⊤ CsrFault
csr_answer c number =
    if is_some (csr_value c number) then (if csr_read_only number then Err ReadOnly else Ok tt) else Err Absent
