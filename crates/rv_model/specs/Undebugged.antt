-- The undebugged run: what a list of executions, register writes and memory writes makes of a machine that nobody debugs.
-- It is this project's own word for a machine without a debugger; it knows no halt, slot, scan or command.
use Rattle.std.specs.Prelude.{ℕ, List, [], ◌∷◌, Option, Some, None, slice_get, slice_set}
use Rattle.rv_model.specs.Memory.{Memory, with_value, cleared}
use Rattle.rv_model.specs.Core.{Core}
use Rattle.rv_model.specs.Registers.{reg_written}
use Rattle.rv_model.specs.Board.{Machine, execute}

pub data Entry : Type 0 where
  Exec : ℕ → Entry  -- hart h executes one instruction, or takes one trap or interrupt
  SetReg : ℕ → ℕ → ℕ → Entry  -- hart h's register, by the debugger's number, is given a value
  SetMem : ℕ → ℕ → ℕ → Entry  -- from an address on, so many bytes are given a value, the least significant first

abbrev pub with_reg : Option Core → ℕ → ℕ → ℕ → Machine → Machine
with_reg (Some c) h r v b = record b { cores = slice_set b.cores h (reg_written c r v) }
with_reg None h r v b = b

-- memory after a write of so many bytes, which clears the reservations that they touch
abbrev pub with_bytes : Memory → ℕ → ℕ → ℕ → Memory
with_bytes m a count v = cleared (record m { bytes = with_value m.bytes a count v }) a count

abbrev pub entered : Entry → Machine → Machine
entered (Exec h) b = execute h b
entered (SetReg h r v) b = with_reg (slice_get b.cores h) h r v b
entered (SetMem a count v) b = record b { memory = with_bytes b.memory a count v }

-- the machine after the whole list
abbrev pub undebugged : Machine → List Entry → Machine
undebugged b [] = b
undebugged b (e ∷ es) = undebugged (entered e b) es
