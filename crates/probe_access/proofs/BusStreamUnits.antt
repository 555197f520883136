-- The system bus along a run of loads, register by register: what its reads and writes make of it, and what each access leaves.
use Rattle.std.proofs.Common.{◌≡◌, ◌∙◌, ◌+◌, ◌%◌, ◌^◌, ℕ, Bool, true, false, Option, Some, None, Result, Ok, Err, refl, ap, if◌then◌else◌}
use Rattle.rv_model.specs.declared.mem_fault.MemFault.{MemFault}
use Rattle.rv_model.specs.declared.size.Size.{Size}
use Rattle.rv_model.specs.declared.size.Size.TheVariants.{B1, B2, B4, B8}
use Rattle.rv_model.specs.Memory.{Memory, is_aligned, loaded}
use Rattle.rv_model.specs.Size.{count_of}
use Rattle.debug_model.specs.declared.bus_access.BusAccess.{BusAccess}
use Rattle.debug_model.specs.declared.bus_access.BusAccess.TheVariants.{Read}
use Rattle.debug_model.specs.declared.sberror.Sberror.{Sberror}
use Rattle.debug_model.specs.declared.sberror.Sberror.TheVariants.{Fine, Address, Alignment}
use Rattle.debug_model.specs.Commands.{high_half, low_half}
use Rattle.debug_model.specs.SystemBus.{BusDone, BusUnit, bus_done, bus_done_by, bus_made, bus_read_by, bus_started, sbaddress0_written, sbaddress1_written, sbcs_written, sbdata0_read, started_at}
use Rattle.debug_model.specs.Told.{BusReady}
use Rattle.probe_run.specs.Opening.{clears_sberror}
use Rattle.probe_access.specs.BusRuns.{access_number}
use Rattle.probe_access.specs.BusStreams.{running}
use Rattle.probe_access.proofs.BusStages.{Pends}
use Rattle.probe_access.proofs.BusUnits.{bus_at, done_as, halves_put, size_access, upper_put}

-- ---- the registers

abbrev pub run_bus : Bool → Size → ℕ → ℕ → Sberror → Bool → Option BusAccess → BusUnit
run_bus on_data size address value error collided pending = record {
  readonaddr = true;
  access = access_number size;
  autoincrement = true;
  readondata = on_data;
  error = error;
  busyerror = collided;
  address = address;
  value = value;
  pending = pending;
}

-- an access is under way
abbrev pub reading : Bool → Size → ℕ → ℕ → Bool → BusUnit
reading on_data size address value collided = run_bus on_data size address value Fine collided (Some Read)

-- one was made, and the address is the next one's
abbrev pub next_of : Size → ℕ → ℕ
next_of size address = (address + count_of size) % 2 ^ 64

abbrev pub read_bus : Bool → Size → ℕ → ℕ → Bool → BusUnit
read_bus on_data size address value collided = run_bus on_data size (next_of size address) value Fine collided None

abbrev pub refused_bus : Bool → Size → ℕ → ℕ → Bool → BusUnit
refused_bus on_data size address value collided = run_bus on_data size address value Address collided None

-- ---- the start

abbrev pub any_bus : Bool → ℕ → Bool → Bool → ℕ → ℕ → Sberror → Bool → Option BusAccess → BusUnit
any_bus on_address access grows on_data address value error collided pending = record {
  readonaddr = on_address;
  access = access;
  autoincrement = grows;
  readondata = on_data;
  error = error;
  busyerror = collided;
  address = address;
  value = value;
  pending = pending;
}

pub ready_bus : (u : BusUnit) → BusReady u → u ≡ any_bus u.readonaddr u.access u.autoincrement u.readondata u.address u.value Fine false None
ready_bus u r =
    ap (λ p. any_bus u.readonaddr u.access u.autoincrement u.readondata u.address u.value u.error u.busyerror p) r.idle
    ∙ ap (λ e. any_bus u.readonaddr u.access u.autoincrement u.readondata u.address u.value e u.busyerror None) r.fine
    ∙ ap (λ b. any_bus u.readonaddr u.access u.autoincrement u.readondata u.address u.value Fine b None) r.no_busyerror

set_by : (size : Size) (o : Bool) (a : ℕ) (i d : Bool) (x v : ℕ)
    → sbcs_written (running true size) (any_bus o a i d x v Fine false None) ≡ run_bus true size x v Fine false None
set_by B1 o a i d x v = refl
set_by B2 o a i d x v = refl
set_by B4 o a i d x v = refl
set_by B8 o a i d x v = refl

pub run_set : (size : Size) (u : BusUnit) → BusReady u → sbcs_written (running true size) u ≡ run_bus true size u.address u.value Fine false None
run_set size u r = ap (sbcs_written (running true size)) (ready_bus u r) ∙ set_by size u.readonaddr u.access u.autoincrement u.readondata u.address u.value

pub run_high : (size : Size) (old value address : ℕ)
    → sbaddress1_written (high_half address) (run_bus true size old value Fine false None) ≡ run_bus true size (upper_put old address) value Fine false None
run_high size old value address = refl

pub read_starts : (on_data : Bool) (size : Size) (address value : ℕ) → is_aligned address size ≡ true
    → bus_started Read (run_bus on_data size address value Fine false None) ≡ reading on_data size address value false
read_starts on_data size address value aligned =
    ap (λ o. started_at o Read (run_bus on_data size address value Fine false None)) (size_access size)
    ∙ ap (λ b. if b then (reading on_data size address value false) else (run_bus on_data size address value Alignment false None)) aligned

pub run_low : (size : Size) (old value address : ℕ) → is_aligned address size ≡ true
    → sbaddress0_written (low_half address) (run_bus true size (upper_put old address) value Fine false None) ≡ reading true size address value false
run_low size old value address aligned =
    ap (λ a. bus_started Read (run_bus true size a value Fine false None)) (halves_put old address) ∙ read_starts true size address value aligned

-- ---- with an error nothing starts

pub erred_reads : (on_data : Bool) (size : Size) (address value : ℕ)
    → sbdata0_read (run_bus on_data size address value Fine true None) ≡ run_bus on_data size address value Fine true None
erred_reads true size address value = refl
erred_reads false size address value = refl

pub refused_reads : (on_data : Bool) (size : Size) (address value : ℕ) (collided : Bool)
    → sbdata0_read (refused_bus on_data size address value collided) ≡ refused_bus on_data size address value collided
refused_reads true size address value true = refl
refused_reads true size address value false = refl
refused_reads false size address value collided = refl

-- ---- the end of sbreadondata

pub run_stops : (on_data : Bool) (size : Size) (address value : ℕ) (collided : Bool)
    → sbcs_written (running false size) (run_bus on_data size address value Fine collided None) ≡ run_bus false size address value Fine collided None
run_stops on_data B1 address value collided = refl
run_stops on_data B2 address value collided = refl
run_stops on_data B4 address value collided = refl
run_stops on_data B8 address value collided = refl

pub refused_stops : (on_data : Bool) (size : Size) (address value : ℕ) (collided : Bool)
    → sbcs_written (running false size) (refused_bus on_data size address value collided) ≡ refused_bus false size address value collided
refused_stops on_data B1 address value collided = refl
refused_stops on_data B2 address value collided = refl
refused_stops on_data B4 address value collided = refl
refused_stops on_data B8 address value collided = refl

-- ---- the errors are cleared

pub run_cleared : (on_data : Bool) (size : Size) (address value : ℕ) (collided : Bool)
    → sbcs_written clears_sberror (run_bus on_data size address value Fine collided None) ≡ bus_at false B1 address value Fine None
run_cleared on_data size address value collided = refl

pub refused_cleared : (on_data : Bool) (size : Size) (address value : ℕ) (collided : Bool)
    → sbcs_written clears_sberror (refused_bus on_data size address value collided) ≡ bus_at false B1 address value Fine None
refused_cleared on_data size address value collided = refl

-- ---- the access

run_made : (on_data : Bool) (size : Size) (address value : ℕ) (collided : Bool) (m : Memory)
    → bus_done m (reading on_data size address value collided) ≡ bus_made Read size m (reading on_data size address value collided)
unfolding bus_done
run_made on_data size address value collided m =
    ap (λ o. bus_done_by (Some Read) o m (reading on_data size address value collided)) (size_access size)

pub data RunEnd (on_data : Bool) (size : Size) (address value : ℕ) (collided : Bool) (m : Memory) : Type 0 where
  was_read : (v : ℕ) → loaded m address size ≡ Ok v
      → bus_done m (reading on_data size address value collided) ≡ done_as (read_bus on_data size address v collided) m
      → RunEnd on_data size address value collided m
  not_read : (why : MemFault) → loaded m address size ≡ Err why
      → bus_done m (reading on_data size address value collided) ≡ done_as (refused_bus on_data size address value collided) m
      → RunEnd on_data size address value collided m

end_by : (o : Result ℕ MemFault) (on_data : Bool) (size : Size) (address value : ℕ) (collided : Bool) (m : Memory) → loaded m address size ≡ o
    → RunEnd on_data size address value collided m
end_by (Ok v) on_data size address value collided m is =
    was_read v is (run_made on_data size address value collided m
    ∙ ap (λ o. done_as (bus_read_by o size (reading on_data size address value collided)) m) is)
end_by (Err why) on_data size address value collided m is =
    not_read why is (run_made on_data size address value collided m
    ∙ ap (λ o. done_as (bus_read_by o size (reading on_data size address value collided)) m) is)

pub run_end : (on_data : Bool) (size : Size) (address value : ℕ) (collided : Bool) (m : Memory) → RunEnd on_data size address value collided m
run_end on_data size address value collided m = end_by (loaded m address size) on_data size address value collided m refl

accesses_by : (on_data : Bool) (size : Size) (address value : ℕ) (collided : Bool) (m : Memory) → RunEnd on_data size address value collided m
    → (bus_done m (reading on_data size address value collided)).accessed ≡ true
accesses_by on_data size address value collided m (was_read v is done) = ap (λ (d : BusDone). d.accessed) done
accesses_by on_data size address value collided m (not_read why is done) = ap (λ (d : BusDone). d.accessed) done

ends_by : (on_data : Bool) (size : Size) (address value : ℕ) (collided : Bool) (m : Memory) → RunEnd on_data size address value collided m
    → (bus_done m (reading on_data size address value collided)).unit.pending ≡ None
ends_by on_data size address value collided m (was_read v is done) = ap (λ (d : BusDone). d.unit.pending) done
ends_by on_data size address value collided m (not_read why is done) = ap (λ (d : BusDone). d.unit.pending) done

pub run_pends : (on_data : Bool) (size : Size) (address value : ℕ) (collided : Bool) → Pends (reading on_data size address value collided)
run_pends on_data size address value collided = record {
  accesses = λ m. accesses_by on_data size address value collided m (run_end on_data size address value collided m);
  ends = λ m. ends_by on_data size address value collided m (run_end on_data size address value collided m);
}
