-- The registers that Debug Mode reaches, by number: those that a program reaches, pc as dpc, dcsr and the trigger registers.
-- RISC-V Debug Specification 1.0, "Access Register", "Core Debug Registers" and "Sdtrig (ISA Extension)".
-- A number belongs to the core or to the debug part; a write goes to both, and the part to which the number does not belong stays as it is.
use Rattle.std.specs.Prelude.{ℕ, Bool, if◌then◌else◌, ◌==◌, Option, Some, None}
use Rattle.rv_model.specs.Board.{DebugPart, Hart}
use Rattle.rv_model.specs.Dcsr.{dcsr_value, dcsr_written}
use Rattle.rv_model.specs.Memory.{Memory}
use Rattle.rv_model.specs.Registers.{mip_number, mip_value, reg_value, reg_written, csr_read_only}
use Rattle.rv_model.specs.TriggerWords.{trigger_csr_value, trigger_csr_written, triggers_of, with_triggers}

abbrev pub dcsr_number : ℕ
dcsr_number = 0x7b0

-- ---- of the debug part

abbrev pub debug_csr_value : DebugPart → ℕ → Option ℕ
debug_csr_value d number = if number == dcsr_number then Some (dcsr_value d) else trigger_csr_value (triggers_of d) number

abbrev pub debug_csr_written : DebugPart → ℕ → ℕ → DebugPart
debug_csr_written d number v = if number == dcsr_number then dcsr_written v d else with_triggers (trigger_csr_written (triggers_of d) number v) d

-- ---- of the hart

abbrev pub value_or : Option ℕ → Option ℕ → Option ℕ
value_or (Some v) other = Some v
value_or None other = other

-- a register's value, or none where there is no such register
unfoldable pub debug_value : Hart → ℕ → Option ℕ
debug_value h number = value_or (reg_value h.core number) (debug_csr_value h.debug number)

-- what Debug Mode reads of it where a memory is there, which tells mip
unfoldable pub debug_seen : Hart → Memory → ℕ → Option ℕ
debug_seen h m number = if number == mip_number then Some (mip_value h.core m) else debug_value h number

-- is it a register that a write is refused of?
unfoldable pub debug_refuses : ℕ → Bool
debug_refuses number = csr_read_only number

-- the hart after a write of a register: what is not writable stays as it is
unfoldable pub debug_written : Hart → ℕ → ℕ → Hart
debug_written h number v = record { core = reg_written h.core number v; debug = debug_csr_written h.debug number v }
