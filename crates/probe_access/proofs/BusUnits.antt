-- The system bus along an access, register by register: what its writes make of it, what sbcs shows, and what the access leaves.
use Rattle.std.proofs.Common.{◌≡◌, ◌∙◌, ℕ, Bool, true, false, Option, Some, None, Result, Ok, Err, refl, ap, arith, if◌then◌else◌}
use Rattle.std.specs.Prelude.{⊤}
use Rattle.rv_model.specs.declared.mem_fault.MemFault.{MemFault}
use Rattle.rv_model.specs.declared.size.Size.{Size}
use Rattle.rv_model.specs.declared.size.Size.TheVariants.{B1, B2, B4, B8}
use Rattle.rv_model.specs.Memory.{Memory, after_store, is_aligned, loaded, store_answer}
use Rattle.debug_model.specs.declared.bus_access.BusAccess.{BusAccess}
use Rattle.debug_model.specs.declared.bus_access.BusAccess.TheVariants.{Read, Write}
use Rattle.debug_model.specs.declared.sberror.Sberror.{Sberror}
use Rattle.debug_model.specs.declared.sberror.Sberror.TheVariants.{Fine, Address, Alignment}
use Rattle.debug_model.specs.Commands.{high_half, joined_halves, low_half}
use Rattle.debug_model.specs.Dmi.{value_of}
use Rattle.debug_model.specs.ModuleWords.{sbcs_word}
use Rattle.debug_model.specs.SystemBus.{
  BusDone,
  BusUnit,
  access_size,
  bus_done,
  bus_done_by,
  bus_made,
  bus_read_by,
  bus_started,
  bus_wrote_by,
  sbaddress0_written,
  sbaddress1_written,
  sbcs_written,
  sbdata0_written,
  sbdata1_written,
  started_at,
}
use Rattle.debug_model.specs.Told.{BusReady}
use Rattle.probe_run.specs.Opening.{clears_sberror}
use Rattle.probe_access.specs.BusRuns.{access_number, bus_busy, bus_collided, bus_error, setting}
use Rattle.probe_access.proofs.BusStages.{Pends}

-- ---- the registers

abbrev pub bus_at : Bool → Size → ℕ → ℕ → Sberror → Option BusAccess → BusUnit
bus_at on_address size address value error pending = record {
  readonaddr = on_address;
  access = access_number size;
  autoincrement = false;
  readondata = false;
  error = error;
  busyerror = false;
  address = address;
  value = value;
  pending = pending;
}

pub size_access : (size : Size) → access_size (access_number size) ≡ Some size
size_access B1 = refl
size_access B2 = refl
size_access B4 = refl
size_access B8 = refl

-- ---- what sbcs shows

pub record Shown (busy : Bool) (error word : ℕ) : Type 0 where
  pub busy_is : bus_busy word ≡ busy
  pub error_is : bus_error word ≡ error
  pub alone : bus_collided word ≡ false

abbrev pub error_number : Bool → ℕ
error_number outside = if outside then 2 else 0

pub shown_by : (on_address : Bool) (size : Size) (busy outside : Bool)
    → Shown busy (error_number outside)
    (value_of (sbcs_word (record {
      sbversion = 1;
      sbbusyerror = false;
      sbbusy = busy;
      sbreadonaddr = on_address;
      sbaccess = access_number size;
      sbautoincrement = false;
      sbreadondata = false;
      sberror = error_number outside;
      sbasize = 64;
      sizes = 0xf;
    })))
shown_by true B1 true true = record { busy_is = refl; error_is = refl; alone = refl }
shown_by true B1 true false = record { busy_is = refl; error_is = refl; alone = refl }
shown_by true B1 false true = record { busy_is = refl; error_is = refl; alone = refl }
shown_by true B1 false false = record { busy_is = refl; error_is = refl; alone = refl }
shown_by true B2 true true = record { busy_is = refl; error_is = refl; alone = refl }
shown_by true B2 true false = record { busy_is = refl; error_is = refl; alone = refl }
shown_by true B2 false true = record { busy_is = refl; error_is = refl; alone = refl }
shown_by true B2 false false = record { busy_is = refl; error_is = refl; alone = refl }
shown_by true B4 true true = record { busy_is = refl; error_is = refl; alone = refl }
shown_by true B4 true false = record { busy_is = refl; error_is = refl; alone = refl }
shown_by true B4 false true = record { busy_is = refl; error_is = refl; alone = refl }
shown_by true B4 false false = record { busy_is = refl; error_is = refl; alone = refl }
shown_by true B8 true true = record { busy_is = refl; error_is = refl; alone = refl }
shown_by true B8 true false = record { busy_is = refl; error_is = refl; alone = refl }
shown_by true B8 false true = record { busy_is = refl; error_is = refl; alone = refl }
shown_by true B8 false false = record { busy_is = refl; error_is = refl; alone = refl }
shown_by false B1 true true = record { busy_is = refl; error_is = refl; alone = refl }
shown_by false B1 true false = record { busy_is = refl; error_is = refl; alone = refl }
shown_by false B1 false true = record { busy_is = refl; error_is = refl; alone = refl }
shown_by false B1 false false = record { busy_is = refl; error_is = refl; alone = refl }
shown_by false B2 true true = record { busy_is = refl; error_is = refl; alone = refl }
shown_by false B2 true false = record { busy_is = refl; error_is = refl; alone = refl }
shown_by false B2 false true = record { busy_is = refl; error_is = refl; alone = refl }
shown_by false B2 false false = record { busy_is = refl; error_is = refl; alone = refl }
shown_by false B4 true true = record { busy_is = refl; error_is = refl; alone = refl }
shown_by false B4 true false = record { busy_is = refl; error_is = refl; alone = refl }
shown_by false B4 false true = record { busy_is = refl; error_is = refl; alone = refl }
shown_by false B4 false false = record { busy_is = refl; error_is = refl; alone = refl }
shown_by false B8 true true = record { busy_is = refl; error_is = refl; alone = refl }
shown_by false B8 true false = record { busy_is = refl; error_is = refl; alone = refl }
shown_by false B8 false true = record { busy_is = refl; error_is = refl; alone = refl }
shown_by false B8 false false = record { busy_is = refl; error_is = refl; alone = refl }

-- ---- writes

abbrev bus_like : Bool → ℕ → Bool → Bool → ℕ → ℕ → Sberror → Bool → Option BusAccess → BusUnit
bus_like on_address access grows on_data address value error collided pending = record {
  readonaddr = on_address;
  access = access;
  autoincrement = grows;
  readondata = on_data;
  error = error;
  busyerror = collided;
  address = address;
  value = value;
  pending = pending;
}

ready_bus : (u : BusUnit) → BusReady u → u ≡ bus_like u.readonaddr u.access u.autoincrement u.readondata u.address u.value Fine false None
ready_bus u r =
    ap (λ p. bus_like u.readonaddr u.access u.autoincrement u.readondata u.address u.value u.error u.busyerror p) r.idle
    ∙ ap (λ e. bus_like u.readonaddr u.access u.autoincrement u.readondata u.address u.value e u.busyerror None) r.fine
    ∙ ap (λ b. bus_like u.readonaddr u.access u.autoincrement u.readondata u.address u.value Fine b None) r.no_busyerror

set_by : (on_address : Bool) (size : Size) (o : Bool) (a : ℕ) (i d : Bool) (x v : ℕ)
    → sbcs_written (setting on_address size) (bus_like o a i d x v Fine false None) ≡ bus_at on_address size x v Fine None
set_by true B1 o a i d x v = refl
set_by true B2 o a i d x v = refl
set_by true B4 o a i d x v = refl
set_by true B8 o a i d x v = refl
set_by false B1 o a i d x v = refl
set_by false B2 o a i d x v = refl
set_by false B4 o a i d x v = refl
set_by false B8 o a i d x v = refl

pub set_bus : (on_address : Bool) (size : Size) (u : BusUnit) → BusReady u
    → sbcs_written (setting on_address size) u ≡ bus_at on_address size u.address u.value Fine None
set_bus on_address size u r = ap (sbcs_written (setting on_address size)) (ready_bus u r)
    ∙ set_by on_address size u.readonaddr u.access u.autoincrement u.readondata u.address u.value

-- the lower half comes last
pub halves_put : (old v : ℕ) → joined_halves (low_half v) (high_half (joined_halves (low_half old) (high_half v))) ≡ v
halves_put old v = omega arith

abbrev pub upper_put : ℕ → ℕ → ℕ
upper_put old v = joined_halves (low_half old) (high_half v)

pub high_put : (on_address : Bool) (size : Size) (old value address : ℕ)
    → sbaddress1_written (high_half address) (bus_at on_address size old value Fine None) ≡ bus_at on_address size (upper_put old address) value Fine None
high_put on_address size old value address = refl

pub started : (on_address : Bool) (size : Size) (address value : ℕ) (what : BusAccess) → is_aligned address size ≡ true
    → bus_started what (bus_at on_address size address value Fine None) ≡ bus_at on_address size address value Fine (Some what)
started on_address size address value what aligned =
    let u : BusUnit = bus_at on_address size address value Fine None in
    ap (λ o. started_at o what u) (size_access size)
    ∙ ap (λ b. if b then (bus_at on_address size address value Fine (Some what)) else (bus_at on_address size address value Alignment None)) aligned

pub low_put_reads : (size : Size) (old value address : ℕ) → is_aligned address size ≡ true
    → sbaddress0_written (low_half address) (bus_at true size (upper_put old address) value Fine None) ≡ bus_at true size address value Fine (Some Read)
low_put_reads size old value address aligned =
    ap (λ a. bus_started Read (bus_at true size a value Fine None)) (halves_put old address) ∙ started true size address value Read aligned

pub low_put : (size : Size) (old value address : ℕ)
    → sbaddress0_written (low_half address) (bus_at false size (upper_put old address) value Fine None) ≡ bus_at false size address value Fine None
low_put size old value address = ap (λ a. bus_at false size a value Fine None) (halves_put old address)

pub data_put : (size : Size) (address old value : ℕ)
    → sbdata1_written (high_half value) (bus_at false size address old Fine None) ≡ bus_at false size address (upper_put old value) Fine None
data_put size address old value = refl

pub data_put_writes : (size : Size) (address old value : ℕ) → is_aligned address size ≡ true
    → sbdata0_written (low_half value) (bus_at false size address (upper_put old value) Fine None) ≡ bus_at false size address value Fine (Some Write)
data_put_writes size address old value aligned =
    ap (λ v. bus_started Write (bus_at false size address v Fine None)) (halves_put old value) ∙ started false size address value Write aligned

pub cleared_bus : (on_address : Bool) (size : Size) (address value : ℕ)
    → sbcs_written clears_sberror (bus_at on_address size address value Address None) ≡ bus_at false B1 address value Fine None
cleared_bus on_address size address value = refl

-- ---- the access

pub made_is : (on_address : Bool) (size : Size) (address value : ℕ) (what : BusAccess) (m : Memory)
    → bus_done m (bus_at on_address size address value Fine (Some what)) ≡ bus_made what size m (bus_at on_address size address value Fine (Some what))
unfolding bus_done
made_is on_address size address value what m = ap (λ o. bus_done_by (Some what) o m (bus_at on_address size address value Fine (Some what))) (size_access size)

read_pending : (o : Result ℕ MemFault) (on_address : Bool) (size : Size) (address value : ℕ) (p : Option BusAccess)
    → (bus_read_by o size (bus_at on_address size address value Fine p)).pending ≡ None
read_pending (Ok v) on_address size address value p = refl
read_pending (Err why) on_address size address value p = refl

write_pending : (o : Result ⊤ MemFault) (on_address : Bool) (size : Size) (address value : ℕ) (p : Option BusAccess)
    → (bus_wrote_by o size (bus_at on_address size address value Fine p)).pending ≡ None
write_pending (Ok v) on_address size address value p = refl
write_pending (Err why) on_address size address value p = refl

made_accesses : (what : BusAccess) (size : Size) (m : Memory) (u : BusUnit) → (bus_made what size m u).accessed ≡ true
made_accesses Read size m u = refl
made_accesses Write size m u = refl

made_ends : (what : BusAccess) (on_address : Bool) (size : Size) (address value : ℕ) (m : Memory)
    → (bus_made what size m (bus_at on_address size address value Fine (Some what))).unit.pending ≡ None
made_ends Read on_address size address value m = read_pending (loaded m address size) on_address size address value (Some Read)
made_ends Write on_address size address value m = write_pending (store_answer m address size) on_address size address value (Some Write)

pub pends : (on_address : Bool) (size : Size) (address value : ℕ) (what : BusAccess) → Pends (bus_at on_address size address value Fine (Some what))
pends on_address size address value what = record {
  accesses = λ m. ap (λ (d : BusDone). d.accessed) (made_is on_address size address value what m)
      ∙ made_accesses what size m (bus_at on_address size address value Fine (Some what));
  ends = λ m. ap (λ (d : BusDone). d.unit.pending) (made_is on_address size address value what m) ∙ made_ends what on_address size address value m;
}

abbrev pub done_as : BusUnit → Memory → BusDone
done_as u m = record { unit = u; memory = m; accessed = true }

pub data ReadEnd (size : Size) (address value : ℕ) (m : Memory) : Type 0 where
  was_read : (v : ℕ) → loaded m address size ≡ Ok v
      → bus_done m (bus_at true size address value Fine (Some Read)) ≡ done_as (bus_at true size address v Fine None) m → ReadEnd size address value m
  not_read : (why : MemFault) → loaded m address size ≡ Err why
      → bus_done m (bus_at true size address value Fine (Some Read)) ≡ done_as (bus_at true size address value Address None) m → ReadEnd size address value m

read_by : (o : Result ℕ MemFault) (size : Size) (address value : ℕ) (m : Memory) → loaded m address size ≡ o → ReadEnd size address value m
read_by (Ok v) size address value m is =
    was_read v is (made_is true size address value Read m ∙ ap (λ o. done_as (bus_read_by o size (bus_at true size address value Fine (Some Read))) m) is)
read_by (Err why) size address value m is =
    not_read why is (made_is true size address value Read m ∙ ap (λ o. done_as (bus_read_by o size (bus_at true size address value Fine (Some Read))) m) is)

pub read_end : (size : Size) (address value : ℕ) (m : Memory) → ReadEnd size address value m
read_end size address value m = read_by (loaded m address size) size address value m refl

pub data WriteEnd (size : Size) (address value : ℕ) (m : Memory) : Type 0 where
  was_written : (done : ⊤) → store_answer m address size ≡ Ok done
      → bus_done m (bus_at false size address value Fine (Some Write)) ≡ done_as (bus_at false size address value Fine None) (after_store m address size value)
      → WriteEnd size address value m
  not_written : (why : MemFault) → store_answer m address size ≡ Err why
      → bus_done m (bus_at false size address value Fine (Some Write)) ≡ done_as (bus_at false size address value Address None)
      (after_store m address size value) → WriteEnd size address value m

write_by : (o : Result ⊤ MemFault) (size : Size) (address value : ℕ) (m : Memory) → store_answer m address size ≡ o → WriteEnd size address value m
write_by (Ok done) size address value m is =
    was_written done is (made_is false size address value Write m
    ∙ ap (λ o. done_as (bus_wrote_by o size (bus_at false size address value Fine (Some Write))) (after_store m address size value)) is)
write_by (Err why) size address value m is =
    not_written why is (made_is false size address value Write m
    ∙ ap (λ o. done_as (bus_wrote_by o size (bus_at false size address value Fine (Some Write))) (after_store m address size value)) is)

pub write_end : (size : Size) (address value : ℕ) (m : Memory) → WriteEnd size address value m
write_end size address value m = write_by (store_answer m address size) size address value m refl
