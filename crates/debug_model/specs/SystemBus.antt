-- The system bus: its registers, what starts an access, and the access.
-- RISC-V Debug Specification 1.0, "System Bus Access" and the registers sbcs, sbaddress0, sbaddress1, sbdata0 and sbdata1. What a write of sbcs and a read of
-- sbaddress do while the bus is busy is this project's own choice (docs/DEBUG_MODULE.md).
use Rattle.std.specs.Prelude.{ℕ, ◌+◌, ◌^◌, ◌%◌, ◌==◌, Bool, true, false, if◌then◌else◌, Option, Some, None, is_some, Result, Ok, Err, ⊤}
use Rattle.rv_model.specs.declared.mem_fault.MemFault.{MemFault}
use Rattle.rv_model.specs.declared.size.Size.{Size}
use Rattle.rv_model.specs.declared.size.Size.TheVariants.{B1, B2, B4, B8}
use Rattle.rv_model.specs.Memory.{Memory, after_store, is_aligned, loaded, store_answer}
use Rattle.rv_model.specs.Size.{count_of}
use Rattle.debug_model.specs.declared.bus_access.BusAccess.{BusAccess}
use Rattle.debug_model.specs.declared.bus_access.BusAccess.TheVariants.{Read, Write}
use Rattle.debug_model.specs.declared.sbcs.Sbcs.{Sbcs}
use Rattle.debug_model.specs.declared.sberror.Sberror.{Sberror}
use Rattle.debug_model.specs.declared.sberror.Sberror.TheVariants as sberror
use Rattle.debug_model.specs.Commands.{high_half, joined_halves, low_half}
use Rattle.debug_model.specs.ModuleWords.{sbcs_of, sberror_cleared, sberror_number}

pub record BusUnit : Type 0 where
  pub readonaddr : Bool
  pub access : ℕ  -- sbaccess, below 8
  pub autoincrement : Bool
  pub readondata : Bool
  pub error : Sberror
  pub busyerror : Bool
  pub address : ℕ  -- sbaddress1 above sbaddress0, below 2^64
  pub value : ℕ  -- sbdata1 above sbdata0, below 2^64
  pub pending : Option BusAccess  -- the access under way

-- accesses of four bytes
abbrev pub reset_access : ℕ
reset_access = 2

abbrev pub reset_bus : BusUnit
reset_bus = record {
  readonaddr = false;
  access = reset_access;
  autoincrement = false;
  readondata = false;
  error = sberror.Fine;
  busyerror = false;
  address = 0;
  value = 0;
  pending = None;
}

abbrev pub bus_busy : BusUnit → Bool
bus_busy u = is_some u.pending

-- ---- sbcs

-- the releases 0.13 and 1.0 of the standard
abbrev pub bus_version : ℕ
bus_version = 1

abbrev pub bus_address_bits : ℕ
bus_address_bits = 64

-- accesses of 1, 2, 4 and 8 bytes
abbrev pub bus_sizes : ℕ
bus_sizes = 0xf

abbrev pub sbcs_shown : BusUnit → Sbcs
sbcs_shown u = record {
  sbversion = bus_version;
  sbbusyerror = u.busyerror;
  sbbusy = bus_busy u;
  sbreadonaddr = u.readonaddr;
  sbaccess = u.access;
  sbautoincrement = u.autoincrement;
  sbreadondata = u.readondata;
  sberror = sberror_number u.error;
  sbasize = bus_address_bits;
  sizes = bus_sizes;
}

abbrev pub sbcs_kept : Sbcs → BusUnit → BusUnit
sbcs_kept r u = record u {
  readonaddr = r.sbreadonaddr;
  access = r.sbaccess;
  autoincrement = r.sbautoincrement;
  readondata = r.sbreadondata;
  error = sberror_cleared r.sberror u.error;
  busyerror = if r.sbbusyerror then false else u.busyerror;
}

-- ---- the start of an access

abbrev pub is_fine : Sberror → Bool
is_fine sberror.Fine = true
is_fine sberror.Timeout = false
is_fine sberror.Address = false
is_fine sberror.Alignment = false
is_fine sberror.Size = false

-- no error is set
abbrev pub is_clear : BusUnit → Bool
is_clear u = if u.busyerror then false else is_fine u.error

-- the size that sbaccess names, none above 8 bytes
abbrev pub access_size : ℕ → Option Size
access_size access =
    if access == 0 then Some B1
    else (if access == 1 then Some B2
    else (if access == 2 then Some B4
    else (if access == 3 then Some B8 else None)))

abbrev pub started_at : Option Size → BusAccess → BusUnit → BusUnit
started_at (Some size) what u = if is_aligned u.address size then record u { pending = Some what } else record u { error = sberror.Alignment }
started_at None what u = record u { error = sberror.Size }

-- an access starts, of a bus that is not busy; nothing starts while an error is set
abbrev pub bus_started : BusAccess → BusUnit → BusUnit
bus_started what u = if is_clear u then started_at (access_size u.access) what u else u

-- ---- reads and writes of the registers

abbrev pub accessed_while_busy : BusUnit → BusUnit
accessed_while_busy u = record u { busyerror = true }

-- a read of sbaddress0, sbaddress1 or sbdata1
abbrev pub bus_looked : BusUnit → BusUnit
bus_looked u = if bus_busy u then accessed_while_busy u else u

-- a read of sbdata0: its result is the value before
abbrev pub sbdata0_read : BusUnit → BusUnit
sbdata0_read u = if bus_busy u then accessed_while_busy u else (if u.readondata then bus_started Read u else u)

abbrev pub sbcs_written : ℕ → BusUnit → BusUnit
sbcs_written v u = if bus_busy u then accessed_while_busy u else sbcs_kept (sbcs_of v) u

abbrev pub read_on_address : BusUnit → BusUnit
read_on_address u = if u.readonaddr then bus_started Read u else u

abbrev pub sbaddress0_written : ℕ → BusUnit → BusUnit
sbaddress0_written v u =
    if bus_busy u then accessed_while_busy u else read_on_address (record u { address = joined_halves v (high_half u.address) })

abbrev pub sbaddress1_written : ℕ → BusUnit → BusUnit
sbaddress1_written v u = if bus_busy u then accessed_while_busy u else record u { address = joined_halves (low_half u.address) v }

-- with an error set it changes nothing; one that itself meets a wrong size or address has stored its value
abbrev pub sbdata0_written : ℕ → BusUnit → BusUnit
sbdata0_written v u =
    if bus_busy u then accessed_while_busy u
    else (if is_clear u then bus_started Write (record u { value = joined_halves v (high_half u.value) }) else u)

abbrev pub sbdata1_written : ℕ → BusUnit → BusUnit
sbdata1_written v u = if bus_busy u then accessed_while_busy u else record u { value = joined_halves (low_half u.value) v }

-- ---- the access

pub record BusDone : Type 0 where
  pub unit : BusUnit
  pub memory : Memory
  pub accessed : Bool  -- an access was made, or tried

abbrev pub grown : Size → BusUnit → BusUnit
grown size u = if u.autoincrement then record u { address = (u.address + count_of size) % 2 ^ 64 } else u

abbrev pub bus_idle : BusUnit → BusUnit
bus_idle u = record u { pending = None }

abbrev pub bus_faulted : BusUnit → BusUnit
bus_faulted u = record (bus_idle u) { error = sberror.Address }

abbrev pub bus_read_by : Result ℕ MemFault → Size → BusUnit → BusUnit
bus_read_by (Ok v) size u = grown size (record (bus_idle u) { value = v })
bus_read_by (Err fault) size u = bus_faulted u

abbrev pub bus_wrote_by : Result ⊤ MemFault → Size → BusUnit → BusUnit
bus_wrote_by (Ok done) size u = grown size (bus_idle u)
bus_wrote_by (Err fault) size u = bus_faulted u

abbrev pub bus_made : BusAccess → Size → Memory → BusUnit → BusDone
bus_made Read size m u = record { unit = bus_read_by (loaded m u.address size) size u; memory = m; accessed = true }
bus_made Write size m u = record {
  unit = bus_wrote_by (store_answer m u.address size) size u;
  memory = after_store m u.address size u.value;
  accessed = true;
}

-- by what is under way and its size; an access without a size doesn't start
abbrev pub bus_done_by : Option BusAccess → Option Size → Memory → BusUnit → BusDone
bus_done_by (Some what) (Some size) m u = bus_made what size m u
bus_done_by (Some what) None m u = record { unit = bus_idle u; memory = m; accessed = true }
bus_done_by None size m u = record { unit = u; memory = m; accessed = false }

-- the access under way is made; nothing where there is none
unfoldable pub bus_done : Memory → BusUnit → BusDone
bus_done m u = bus_done_by u.pending (access_size u.access) m u
