-- What an instruction makes of a control and status register, and when it writes it. Unprivileged manual, "Zicsr".
use Rattle.std.specs.Prelude.{ℕ, ◌-◌, ◌^◌, Bool, true, not, ◌==◌, bit_and, bit_or}
use Rattle.rv_model.specs.declared.csr_change.CsrChange.{CsrChange}
use Rattle.rv_model.specs.declared.csr_change.CsrChange.TheVariants.{Replace, Set, Clear}

-- of the old value and the operand
abbrev pub change_by : CsrChange → ℕ → ℕ → ℕ
change_by Replace old v = v
change_by Set old v = bit_or old v
change_by Clear old v = bit_and old (2 ^ 64 - 1 - v)

-- setting or clearing the bits of x0 or of the immediate 0 is no write
abbrev pub writes_by : CsrChange → ℕ → Bool
writes_by Replace source = true
writes_by Set source = not (source == 0)
writes_by Clear source = not (source == 0)
