-- The debug transport behind the TAP: the operation in flight, the last result and the sticky status, and what captures and updates of dtmcs and dmi do.
-- RISC-V Debug Specification 1.0, "JTAG Debug Transport Module": "DTM Control and Status" (dtmcs), "Debug Module Interface Access" (dmi). That op 3 does
-- nothing, that a write's result is its data, and that Test-Logic-Reset leaves all of this alone, are this project's own choices.
use Rattle.std.specs.Prelude.{ℕ, ◌==◌, Bool, true, false, List, Option, Some, None, if◌then◌else◌}
use Rattle.jt_base.specs.BitList.{bits_of, number_of}
use Rattle.debug_model.specs.declared.data_register.DataRegister.{DataRegister}
use Rattle.debug_model.specs.declared.data_register.DataRegister.TheVariants as register
use Rattle.debug_model.specs.declared.dmi_op.DmiOp.{DmiOp}
use Rattle.debug_model.specs.declared.dmi_op.DmiOp.TheVariants.{Read, Write}
use Rattle.debug_model.specs.declared.dmi_scan.DmiScan.{DmiScan}
use Rattle.debug_model.specs.declared.dtmcs.Dtmcs.{Dtmcs}
use Rattle.debug_model.specs.declared.sticky.Sticky.{Sticky}
use Rattle.debug_model.specs.declared.sticky.Sticky.TheVariants.{Clear, Failed, Busy}
use Rattle.debug_model.specs.Tap.{idcode}
use Rattle.debug_model.specs.TransportWords.{dmi_word, dmi_of, dtmcs_word, dtmcs_of, op_read, op_write, status_done, status_failed, status_busy, address_bits}

pub record Dtm : Type 0 where
  pub flight : Option DmiOp  -- put in flight and not yet performed
  pub address : ℕ  -- of the last result, as are value and failed; below 2^7
  pub value : ℕ  -- below 2^32
  pub failed : Bool  -- the last operation was dropped unperformed
  pub sticky : Sticky

abbrev pub fresh_dtm : Dtm
fresh_dtm = record { flight = None; address = 0; value = 0; failed = false; sticky = Clear }

-- ---- what a capture sees

abbrev pub status_number : Sticky → ℕ
status_number Clear = status_done
status_number Failed = status_failed
status_number Busy = status_busy

-- the sticky status behind a capture of dmi, by what it was, the operation in flight, and whether the last result is a failed one
abbrev pub seen : Sticky → Option DmiOp → Bool → Sticky
seen Clear (Some op) failed = Busy
seen Clear None true = Failed
seen Clear None false = Clear
seen Failed flight failed = Failed
seen Busy flight failed = Busy

abbrev pub status_seen : Dtm → Sticky
status_seen d = seen d.sticky d.flight d.failed

-- does a capture of dmi find an operation in flight, so that it sets the sticky status to 3?
abbrev pub finds_busy : Sticky → Option DmiOp → Bool
finds_busy Clear (Some op) = true
finds_busy Clear None = false
finds_busy Failed flight = false
finds_busy Busy flight = false

abbrev pub sets_busy : DataRegister → Dtm → Bool
sets_busy register.Dmi d = finds_busy d.sticky d.flight
sets_busy register.Dtmcs d = false
sets_busy register.Idcode d = false
sets_busy register.Bypass d = false

-- a hint that one clock in Run-Test/Idle is enough
abbrev pub idle_hint : ℕ
idle_hint = 1

-- the releases 0.13 and 1.0 of the standard
abbrev pub transport_version : ℕ
transport_version = 1

abbrev pub dtmcs_seen : Dtm → Dtmcs
dtmcs_seen d =
    record { dtmhardreset = false; dmireset = false; idle = idle_hint; dmistat = status_number d.sticky; abits = address_bits; version = transport_version }

abbrev pub dmi_seen : Dtm → DmiScan
dmi_seen d = record { address = d.address; value = d.value; op = status_number (status_seen d) }

abbrev pub idcode_width : ℕ
idcode_width = 32

abbrev pub dtmcs_width : ℕ
dtmcs_width = 32

abbrev pub dmi_width : ℕ
dmi_width = 41

abbrev pub bypass_width : ℕ
bypass_width = 1

-- the bits between TDI and TDO
abbrev pub width_of : DataRegister → ℕ
width_of register.Idcode = idcode_width
width_of register.Dtmcs = dtmcs_width
width_of register.Dmi = dmi_width
width_of register.Bypass = bypass_width

-- what a capture puts into the shift register
unfoldable pub captured_bits : DataRegister → Dtm → List Bool
captured_bits register.Idcode d = bits_of idcode_width idcode
captured_bits register.Dtmcs d = bits_of dtmcs_width (dtmcs_word (dtmcs_seen d))
captured_bits register.Dmi d = bits_of dmi_width (dmi_word (dmi_seen d))
captured_bits register.Bypass d = bits_of bypass_width 0

-- the transport behind a capture: only that of dmi may set the sticky status
abbrev pub captured_dtm : DataRegister → Dtm → Dtm
captured_dtm register.Dmi d = record d { sticky = status_seen d }
captured_dtm register.Dtmcs d = d
captured_dtm register.Idcode d = d
captured_dtm register.Bypass d = d

-- ---- what an update does

-- the operation that a scan asks for, none where op is 0 or 3
abbrev pub operation_of : DmiScan → Option DmiOp
operation_of s = if s.op == op_read then Some (Read s.address) else (if s.op == op_write then Some (Write s.address s.value) else None)

abbrev pub launched_by : Option DmiOp → Dtm → Dtm
launched_by (Some op) d = record d { flight = Some op }
launched_by None d = d

-- while the sticky status isn't 0 an update of dmi does nothing
abbrev pub launched : Sticky → Option DmiOp → Dtm → Dtm
launched Clear op d = launched_by op d
launched Failed op d = d
launched Busy op d = d

-- where the status was 2 the failed mark goes with it
abbrev pub cleared_by : Sticky → Dtm → Dtm
cleared_by Clear d = d
cleared_by Failed d = record d { sticky = Clear; failed = false }
cleared_by Busy d = record d { sticky = Clear }

-- dmireset: the operation in flight goes on
abbrev pub status_cleared : Bool → Dtm → Dtm
status_cleared true d = cleared_by d.sticky d
status_cleared false d = d

-- dtmhardreset starts the transport anew
abbrev pub hard_reset : Bool → Dtm → Dtm
hard_reset true d = fresh_dtm
hard_reset false d = d

abbrev pub controlled : Dtmcs → Dtm → Dtm
controlled r d = hard_reset r.dtmhardreset (status_cleared r.dmireset d)

-- the transport behind an update of the selected register with these bits
unfoldable pub updated_dtm : DataRegister → List Bool → Dtm → Dtm
updated_dtm register.Dmi bits d = launched d.sticky (operation_of (dmi_of (number_of bits))) d
updated_dtm register.Dtmcs bits d = controlled (dtmcs_of (number_of bits)) d
updated_dtm register.Idcode bits d = d
updated_dtm register.Bypass bits d = d

-- ---- the end of an operation

abbrev pub address_of : DmiOp → ℕ
address_of (Read address) = address
address_of (Write address value) = address

-- the operation in flight was performed with this result
abbrev pub finished_by : Option DmiOp → ℕ → Dtm → Dtm
finished_by (Some op) result d = record d { flight = None; address = address_of op; value = result; failed = false }
finished_by None result d = d

abbrev pub finished : ℕ → Dtm → Dtm
finished result d = finished_by d.flight result d

-- the operation in flight is dropped unperformed
abbrev pub dropped_by : Option DmiOp → Dtm → Dtm
dropped_by (Some op) d = record d { flight = None; address = address_of op; value = 0; failed = true }
dropped_by None d = d

abbrev pub dropped : Dtm → Dtm
dropped d = dropped_by d.flight d
