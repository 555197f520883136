-- The registers of the debug transport as records of their fields, and the words that they are.
-- RISC-V Debug Specification 1.0, "DTM Control and Status" (dtmcs) and "Debug Module Interface Access" (dmi).
use Rattle.std.specs.Prelude.{ℕ, ◌+◌}
use Rattle.debug_model.specs.declared.dtmcs.Dtmcs.{Dtmcs}
use Rattle.debug_model.specs.declared.dmi_scan.DmiScan.{DmiScan}
use Rattle.rv_model.specs.Fields.{field, bit, bit_value}
use Rattle.debug_model.specs.WordFields.{placed}

-- ---- dtmcs, 32 bits

abbrev pub dtmcs_word : Dtmcs → ℕ
dtmcs_word r = bit_value 17 r.dtmhardreset + bit_value 16 r.dmireset + placed 12 3 r.idle + placed 10 2 r.dmistat + placed 4 6 r.abits + placed 0 4 r.version

abbrev pub dtmcs_of : ℕ → Dtmcs
dtmcs_of w = record {
  dtmhardreset = bit 17 w;
  dmireset = bit 16 w;
  idle = field 12 3 w;
  dmistat = field 10 2 w;
  abits = field 4 6 w;
  version = field 0 4 w;
}

-- ---- dmi, 41 bits where an address has 7

abbrev pub dmi_word : DmiScan → ℕ
dmi_word r = placed 34 7 r.address + placed 2 32 r.value + placed 0 2 r.op

abbrev pub dmi_of : ℕ → DmiScan
dmi_of w = record { address = field 34 7 w; value = field 2 32 w; op = field 0 2 w }

-- the field op as it is shifted in
abbrev pub op_nop : ℕ
op_nop = 0

abbrev pub op_read : ℕ
op_read = 1

abbrev pub op_write : ℕ
op_write = 2

-- the field op as it is captured, and dmistat
abbrev pub status_done : ℕ
status_done = 0

abbrev pub status_failed : ℕ
status_failed = 2

abbrev pub status_busy : ℕ
status_busy = 3

-- the bits of an address on this chip, a choice of its own
abbrev pub address_bits : ℕ
address_bits = 7
