-- The system bus along a run of stores, register by register: what its writes make of it, what sbcs shows, and what each access leaves.
use Rattle.std.proofs.Common.{◌≡◌, ◌∙◌, ℕ, Bool, true, false, Option, Some, None, Result, Ok, Err, refl, ap, arith, if◌then◌else◌}
use Rattle.std.specs.Prelude.{⊤}
use Rattle.rv_model.specs.declared.mem_fault.MemFault.{MemFault}
use Rattle.rv_model.specs.declared.size.Size.{Size}
use Rattle.rv_model.specs.declared.size.Size.TheVariants.{B1, B2, B4, B8}
use Rattle.rv_model.specs.Memory.{Memory, after_store, is_aligned, store_answer}
use Rattle.debug_model.specs.declared.bus_access.BusAccess.{BusAccess}
use Rattle.debug_model.specs.declared.bus_access.BusAccess.TheVariants.{Write}
use Rattle.debug_model.specs.declared.sberror.Sberror.{Sberror}
use Rattle.debug_model.specs.declared.sberror.Sberror.TheVariants.{Fine, Address, Alignment}
use Rattle.debug_model.specs.Commands.{high_half, joined_halves, low_half}
use Rattle.debug_model.specs.SystemBus.{
  BusDone,
  BusUnit,
  bus_done,
  bus_done_by,
  bus_made,
  bus_started,
  bus_wrote_by,
  sbaddress0_written,
  sbaddress1_written,
  sbcs_written,
  sbdata0_written,
  sbdata1_written,
  started_at,
}
use Rattle.debug_model.specs.Told.{BusReady}
use Rattle.probe_run.specs.Opening.{clears_sberror}
use Rattle.probe_access.specs.BusRuns.{access_number}
use Rattle.probe_access.specs.BusStoreStreams.{storing}
use Rattle.probe_access.proofs.BusStages.{Pends}
use Rattle.probe_access.proofs.BusStreamShown.{RunShown, sbcs_seen}
use Rattle.probe_access.proofs.BusStreamUnits.{any_bus, next_of, ready_bus}
use Rattle.probe_access.proofs.BusUnits.{bus_at, done_as, halves_put, size_access, upper_put}

-- ---- the registers

abbrev pub store_bus : Size → ℕ → ℕ → Sberror → Bool → Option BusAccess → BusUnit
store_bus size address value error collided pending = record {
  readonaddr = false;
  access = access_number size;
  autoincrement = true;
  readondata = false;
  error = error;
  busyerror = collided;
  address = address;
  value = value;
  pending = pending;
}

-- an access is under way
abbrev pub writing : Size → ℕ → ℕ → Bool → BusUnit
writing size address value collided = store_bus size address value Fine collided (Some Write)

abbrev pub still_bus : Size → ℕ → ℕ → Bool → BusUnit
still_bus size address value collided = store_bus size address value Fine collided None

abbrev pub unstored_bus : Size → ℕ → ℕ → Bool → BusUnit
unstored_bus size address value collided = store_bus size address value Address collided None

-- ---- the start

set_by : (size : Size) (o : Bool) (a : ℕ) (i d : Bool) (x v : ℕ) → sbcs_written (storing size) (any_bus o a i d x v Fine false None) ≡ still_bus size x v false
set_by B1 o a i d x v = refl
set_by B2 o a i d x v = refl
set_by B4 o a i d x v = refl
set_by B8 o a i d x v = refl

pub store_set : (size : Size) (u : BusUnit) → BusReady u → sbcs_written (storing size) u ≡ still_bus size u.address u.value false
store_set size u r = ap (sbcs_written (storing size)) (ready_bus u r) ∙ set_by size u.readonaddr u.access u.autoincrement u.readondata u.address u.value

pub store_high : (size : Size) (old value address : ℕ)
    → sbaddress1_written (high_half address) (still_bus size old value false) ≡ still_bus size (upper_put old address) value false
store_high size old value address = refl

pub store_low : (size : Size) (old value address : ℕ)
    → sbaddress0_written (low_half address) (still_bus size (upper_put old address) value false) ≡ still_bus size address value false
store_low size old value address = ap (λ a. still_bus size a value false) (halves_put old address)

-- an upper half of the data, with the lower one as it was
abbrev pub upper_set : ℕ → ℕ → ℕ
upper_set held upper = joined_halves (low_half held) upper

pub upper_is_set : (held upper : ℕ) → high_half (upper_set held upper) ≡ upper
upper_is_set held upper = omega arith

pub store_upper : (size : Size) (address held upper : ℕ) (collided : Bool)
    → sbdata1_written upper (still_bus size address held collided) ≡ still_bus size address (upper_set held upper) collided
store_upper size address held upper collided = refl

pub unstored_upper : (size : Size) (address held upper : ℕ) (collided : Bool)
    → sbdata1_written upper (unstored_bus size address held collided) ≡ unstored_bus size address (upper_set held upper) collided
unstored_upper size address held upper collided = refl

pub writing_upper : (size : Size) (address value upper : ℕ) (collided : Bool)
    → sbdata1_written upper (writing size address value collided) ≡ writing size address value true
writing_upper size address value upper collided = refl

-- ---- the lower half starts each access

pub value_whole : (value : ℕ) → joined_halves (low_half value) (high_half value) ≡ value
value_whole value = omega arith

pub value_with : (held value : ℕ) → high_half held ≡ high_half value → joined_halves (low_half value) (high_half held) ≡ value
value_with held value is = ap (λ h. joined_halves (low_half value) h) is ∙ value_whole value

write_starts : (size : Size) (address value : ℕ) → is_aligned address size ≡ true
    → bus_started Write (still_bus size address value false) ≡ writing size address value false
write_starts size address value aligned =
    ap (λ o. started_at o Write (still_bus size address value false)) (size_access size)
    ∙ ap (λ b. if b then (writing size address value false) else (store_bus size address value Alignment false None)) aligned

-- where sbdata1 holds the upper half
pub store_starts : (size : Size) (address held value : ℕ) → is_aligned address size ≡ true → joined_halves (low_half value) (high_half held) ≡ value
    → sbdata0_written (low_half value) (still_bus size address held false) ≡ writing size address value false
store_starts size address held value aligned whole =
    ap (λ v. bus_started Write (still_bus size address v false)) whole ∙ write_starts size address value aligned

-- with an error nothing starts
pub unstored_keeps : (size : Size) (address held low : ℕ) (collided : Bool)
    → sbdata0_written low (unstored_bus size address held collided) ≡ unstored_bus size address held collided
unstored_keeps size address held low true = refl
unstored_keeps size address held low false = refl

-- ---- the errors are cleared

pub still_cleared : (size : Size) (address held : ℕ) (collided : Bool)
    → sbcs_written clears_sberror (still_bus size address held collided) ≡ bus_at false B1 address held Fine None
still_cleared size address held collided = refl

pub unstored_cleared : (size : Size) (address held : ℕ) (collided : Bool)
    → sbcs_written clears_sberror (unstored_bus size address held collided) ≡ bus_at false B1 address held Fine None
unstored_cleared size address held collided = refl

-- ---- what sbcs shows

pub writing_shown : (size : Size) (address value : ℕ) (collided : Bool) → RunShown true 0 collided (sbcs_seen (writing size address value collided))
writing_shown B1 address value true = record { busy_is = refl; error_is = refl; collided_is = refl }
writing_shown B1 address value false = record { busy_is = refl; error_is = refl; collided_is = refl }
writing_shown B2 address value true = record { busy_is = refl; error_is = refl; collided_is = refl }
writing_shown B2 address value false = record { busy_is = refl; error_is = refl; collided_is = refl }
writing_shown B4 address value true = record { busy_is = refl; error_is = refl; collided_is = refl }
writing_shown B4 address value false = record { busy_is = refl; error_is = refl; collided_is = refl }
writing_shown B8 address value true = record { busy_is = refl; error_is = refl; collided_is = refl }
writing_shown B8 address value false = record { busy_is = refl; error_is = refl; collided_is = refl }

pub still_shown : (size : Size) (address held : ℕ) (collided : Bool) → RunShown false 0 collided (sbcs_seen (still_bus size address held collided))
still_shown B1 address held true = record { busy_is = refl; error_is = refl; collided_is = refl }
still_shown B1 address held false = record { busy_is = refl; error_is = refl; collided_is = refl }
still_shown B2 address held true = record { busy_is = refl; error_is = refl; collided_is = refl }
still_shown B2 address held false = record { busy_is = refl; error_is = refl; collided_is = refl }
still_shown B4 address held true = record { busy_is = refl; error_is = refl; collided_is = refl }
still_shown B4 address held false = record { busy_is = refl; error_is = refl; collided_is = refl }
still_shown B8 address held true = record { busy_is = refl; error_is = refl; collided_is = refl }
still_shown B8 address held false = record { busy_is = refl; error_is = refl; collided_is = refl }

pub unstored_shown : (size : Size) (address held : ℕ) (collided : Bool) → RunShown false 2 collided (sbcs_seen (unstored_bus size address held collided))
unstored_shown B1 address held true = record { busy_is = refl; error_is = refl; collided_is = refl }
unstored_shown B1 address held false = record { busy_is = refl; error_is = refl; collided_is = refl }
unstored_shown B2 address held true = record { busy_is = refl; error_is = refl; collided_is = refl }
unstored_shown B2 address held false = record { busy_is = refl; error_is = refl; collided_is = refl }
unstored_shown B4 address held true = record { busy_is = refl; error_is = refl; collided_is = refl }
unstored_shown B4 address held false = record { busy_is = refl; error_is = refl; collided_is = refl }
unstored_shown B8 address held true = record { busy_is = refl; error_is = refl; collided_is = refl }
unstored_shown B8 address held false = record { busy_is = refl; error_is = refl; collided_is = refl }

-- ---- the access

store_made : (size : Size) (address value : ℕ) (collided : Bool) (m : Memory)
    → bus_done m (writing size address value collided) ≡ bus_made Write size m (writing size address value collided)
unfolding bus_done
store_made size address value collided m = ap (λ o. bus_done_by (Some Write) o m (writing size address value collided)) (size_access size)

pub data StoreEnd (size : Size) (address value : ℕ) (collided : Bool) (m : Memory) : Type 0 where
  was_stored : (done : ⊤) → store_answer m address size ≡ Ok done
      → bus_done m (writing size address value collided)
      ≡ done_as (still_bus size (next_of size address) value collided) (after_store m address size value)
      → StoreEnd size address value collided m
  not_stored : (why : MemFault) → store_answer m address size ≡ Err why
      → bus_done m (writing size address value collided) ≡ done_as (unstored_bus size address value collided) (after_store m address size value)
      → StoreEnd size address value collided m

end_by : (o : Result ⊤ MemFault) (size : Size) (address value : ℕ) (collided : Bool) (m : Memory) → store_answer m address size ≡ o
    → StoreEnd size address value collided m
end_by (Ok done) size address value collided m is =
    was_stored done is (store_made size address value collided m
    ∙ ap (λ o. done_as (bus_wrote_by o size (writing size address value collided)) (after_store m address size value)) is)
end_by (Err why) size address value collided m is =
    not_stored why is (store_made size address value collided m
    ∙ ap (λ o. done_as (bus_wrote_by o size (writing size address value collided)) (after_store m address size value)) is)

pub store_end : (size : Size) (address value : ℕ) (collided : Bool) (m : Memory) → StoreEnd size address value collided m
store_end size address value collided m = end_by (store_answer m address size) size address value collided m refl

accesses_by : (size : Size) (address value : ℕ) (collided : Bool) (m : Memory) → StoreEnd size address value collided m
    → (bus_done m (writing size address value collided)).accessed ≡ true
accesses_by size address value collided m (was_stored done is makes) = ap (λ (d : BusDone). d.accessed) makes
accesses_by size address value collided m (not_stored why is makes) = ap (λ (d : BusDone). d.accessed) makes

ends_by : (size : Size) (address value : ℕ) (collided : Bool) (m : Memory) → StoreEnd size address value collided m
    → (bus_done m (writing size address value collided)).unit.pending ≡ None
ends_by size address value collided m (was_stored done is makes) = ap (λ (d : BusDone). d.unit.pending) makes
ends_by size address value collided m (not_stored why is makes) = ap (λ (d : BusDone). d.unit.pending) makes

pub store_pends : (size : Size) (address value : ℕ) (collided : Bool) → Pends (writing size address value collided)
store_pends size address value collided = record {
  accesses = λ m. accesses_by size address value collided m (store_end size address value collided m);
  ends = λ m. ends_by size address value collided m (store_end size address value collided m);
}
