-- The calls of an access by the system bus: its registers are written, its end is polled for, and what was read is fetched or an error cleared.
-- RISC-V Debug Specification 1.0, "System Bus Access". That 64 polls are too many is this project's own choice.
use Rattle.std.specs.Prelude.{◌≡◌, ◌≢◌, ◌⊎◌, ◌<◌, ◌++◌, ◌*◌, ◌%◌, ◌^◌, ℕ, List, [], ◌∷◌, length, map, All, Bool, true, false}
use Rattle.rv_model.specs.declared.size.Size.{Size}
use Rattle.rv_model.specs.declared.size.Size.TheVariants.{B1, B2, B4, B8}
use Rattle.rv_model.specs.Size.{count_of}
use Rattle.debug_model.specs.Addresses.{sbcs_address, sbaddress0_address, sbaddress1_address, sbdata0_address, sbdata1_address}
use Rattle.debug_model.specs.declared.dmi.DmiFault.{DmiFault}
use Rattle.debug_model.specs.declared.dmi_op.DmiOp.TheVariants.{Read, Write}
use Rattle.debug_model.specs.Commands.{high_half, low_half}
use Rattle.debug_model.specs.ModuleWords.{sbcs_of, sbcs_word}
use Rattle.probe_access.specs.declared.fault.AccessFault.{AccessFault}
use Rattle.probe_access.specs.declared.fault.AccessFault.TheVariants as fault
use Rattle.probe_access.specs.declared.odd.OddStatus.{OddStatus}
use Rattle.probe_access.specs.declared.odd.OddStatus.TheVariants.{Sbcs}
use Rattle.probe_run.specs.Acts.{Act, Attempt, Did, Tells}
use Rattle.probe_run.specs.Acts.Act.{Got, Put}
use Rattle.probe_run.specs.Acts.Attempt.{Operation}
use Rattle.probe_run.specs.Opening.{clears_sberror}
use Rattle.probe_access.specs.CommandRuns.{polls_most}
use Rattle.probe_access.specs.Faults.{BrokeIn}
use Rattle.probe_access.specs.RegisterAccess.{joined}

-- ---- the registers

-- sbaccess for accesses of so many bytes
abbrev pub access_number : Size → ℕ
access_number B1 = 0
access_number B2 = 1
access_number B4 = 2
access_number B8 = 3

-- sbcs for accesses of one size: reads that a write of the address starts, or writes that one of the data starts
abbrev pub setting : Bool → Size → ℕ
setting on_address size = sbcs_word (record {
  sbversion = 0;
  sbbusyerror = false;
  sbbusy = false;
  sbreadonaddr = on_address;
  sbaccess = access_number size;
  sbautoincrement = false;
  sbreadondata = false;
  sberror = 0;
  sbasize = 0;
  sizes = 0;
})

-- ---- the start

-- a word of sbcs, and the address, whose lower half comes last
abbrev pub addressed : ℕ → ℕ → List Act
addressed word address = Put sbcs_address word ∷ Put sbaddress1_address (high_half address) ∷ Put sbaddress0_address (low_half address) ∷ []

-- the address starts a read
abbrev pub read_started : Size → ℕ → List Act
read_started size address = addressed (setting true size) address

-- the lower half of the data starts a write
abbrev pub supplied : ℕ → List Act
supplied value = Put sbdata1_address (high_half value) ∷ Put sbdata0_address (low_half value) ∷ []

abbrev pub write_started : Size → ℕ → ℕ → List Act
write_started size address value = addressed (setting false size) address ++ supplied value

-- one of these writes is to be made behind those in front of it
pub data Starting (acts : List Act) : List Act → Attempt → Type 0 where
  next : (front rest : List Act) (address value : ℕ) → acts ≡ front ++ Put address value ∷ rest → Starting acts front (Operation (Write address value))

-- ---- the end

abbrev pub bus_busy : ℕ → Bool
bus_busy word = (sbcs_of word).sbbusy

abbrev pub bus_error : ℕ → ℕ
bus_error word = (sbcs_of word).sberror

abbrev pub bus_collided : ℕ → Bool
bus_collided word = (sbcs_of word).sbbusyerror

-- the number of sberror for an address outside memory
abbrev pub outside_error : ℕ
outside_error = 2

abbrev pub bus_poll : ℕ → Act
bus_poll word = Got sbcs_address word

abbrev pub ShowsAccess : ℕ → Type 0
ShowsAccess word = bus_busy word ≡ true

-- these polls showed an access under way, and fewer than 64 of them
pub record BusInVain (words : List ℕ) : Type 0 where
  pub busy : All ShowsAccess words
  pub few : length words < polls_most

-- a poll that showed none, behind others that did
pub record BusPolled (last : ℕ) (old new : Tells) : Type 0 where
  pub words : List ℕ
  pub vain : BusInVain words
  pub idle : bus_busy last ≡ false
  pub did : Did old (map bus_poll words ++ bus_poll last ∷ []) new

-- 64 polls in a row showed an access under way
pub record BusAlwaysBusy (old new : Tells) : Type 0 where
  pub words : List ℕ
  pub busy : All ShowsAccess words
  pub all : length words ≡ polls_most
  pub did : Did old (map bus_poll words) new

-- it ended without an error
pub record BusEnded (old new : Tells) : Type 0 where
  pub last : ℕ
  pub polled : BusPolled last old new
  pub fine : bus_error last ≡ 0
  pub alone : bus_collided last ≡ false

-- it ended outside memory, and the error was cleared
pub record BusRefused (old new : Tells) : Type 0 where
  pub last : ℕ
  pub mid : Tells
  pub polled : BusPolled last old mid
  pub outside : bus_error last ≡ outside_error
  pub cleared : Did mid (Put sbcs_address clears_sberror ∷ []) new

-- it ended with another error
pub record BusOddly (shown : OddStatus) (old new : Tells) : Type 0 where
  pub last : ℕ
  pub is : shown ≡ Sbcs last
  pub polled : BusPolled last old new
  pub other : bus_error last ≢ outside_error
  pub some : (bus_error last ≢ 0) ⊎ (bus_collided last ≡ true)

pub data BusPollBegun : List Act → Attempt → Type 0 where
  polls : (words : List ℕ) → BusInVain words → BusPollBegun (map bus_poll words) (Operation (Read sbcs_address))

abbrev pub BusPollFailed : ℕ → ℕ → Tells → Tells → AccessFault → Type 0
BusPollFailed old_count new_count old new (fault.Dmi why) = BrokeIn BusPollBegun old_count new_count old new.far why
BusPollFailed old_count new_count old new (fault.Memory address) = ⊥
BusPollFailed old_count new_count old new (fault.Register number) = ⊥
BusPollFailed old_count new_count old new fault.StillBusy = BusAlwaysBusy old new
BusPollFailed old_count new_count old new (fault.Run why) = ⊥
BusPollFailed old_count new_count old new (fault.Odd shown) = ⊥

pub data BusEnding (old_count new_count : ℕ) (old new : Tells) (why : DmiFault) : Type 0 where
  at_poll : BrokeIn BusPollBegun old_count new_count old new.far why → BusEnding old_count new_count old new why
  at_clear : (last : ℕ) (mid : Tells) → BusPolled last old mid → bus_error last ≡ outside_error
      → BrokeIn (Starting (Put sbcs_address clears_sberror ∷ [])) old_count new_count mid new.far why → BusEnding old_count new_count old new why

abbrev pub BusEndFailed : ℕ → ℕ → ℕ → Tells → Tells → AccessFault → Type 0
BusEndFailed address old_count new_count old new (fault.Dmi why) = BusEnding old_count new_count old new why
BusEndFailed address old_count new_count old new (fault.Memory at) = (at ≡ address) × BusRefused old new
BusEndFailed address old_count new_count old new (fault.Register number) = ⊥
BusEndFailed address old_count new_count old new fault.StillBusy = BusAlwaysBusy old new
BusEndFailed address old_count new_count old new (fault.Run why) = ⊥
BusEndFailed address old_count new_count old new (fault.Odd shown) = BusOddly shown old new

-- ---- what was read

-- the bits above the size may be anything
abbrev pub cut_to : Size → ℕ → ℕ
cut_to size value = value % 2 ^ (8 * count_of size)

pub record BusFetched (size : Size) (value : ℕ) (old new : Tells) : Type 0 where
  pub low : ℕ
  pub high : ℕ
  pub is : value ≡ cut_to size (joined low high)
  pub did : Did old (Got sbdata0_address low ∷ Got sbdata1_address high ∷ []) new

pub data BusFetching : List Act → Attempt → Type 0 where
  lower : BusFetching [] (Operation (Read sbdata0_address))
  upper : (low : ℕ) → BusFetching (Got sbdata0_address low ∷ []) (Operation (Read sbdata1_address))

-- ---- the whole access

pub record BusLoaded (size : Size) (address value : ℕ) (old new : Tells) : Type 0 where
  pub started : Tells
  pub ended : Tells
  pub starts : Did old (read_started size address) started
  pub ends : BusEnded started ended
  pub fetched : BusFetched size value ended new

pub data BusLoadFailed (size : Size) (address old_count new_count : ℕ) (old new : Tells) (e : AccessFault) : Type 0 where
  in_start : (why : DmiFault) → e ≡ fault.Dmi why → BrokeIn (Starting (read_started size address)) old_count new_count old new.far why
      → BusLoadFailed size address old_count new_count old new e
  in_end : (started : Tells) → Did old (read_started size address) started → BusEndFailed address old_count new_count started new e
      → BusLoadFailed size address old_count new_count old new e
  in_fetch : (started ended : Tells) → Did old (read_started size address) started → BusEnded started ended → (why : DmiFault) → e ≡ fault.Dmi why
      → BrokeIn BusFetching old_count new_count ended new.far why
      → BusLoadFailed size address old_count new_count old new e

pub record BusStored (size : Size) (address value : ℕ) (old new : Tells) : Type 0 where
  pub started : Tells
  pub starts : Did old (write_started size address value) started
  pub ends : BusEnded started new

pub data BusStoreFailed (size : Size) (address value old_count new_count : ℕ) (old new : Tells) (e : AccessFault) : Type 0 where
  in_start : (why : DmiFault) → e ≡ fault.Dmi why → BrokeIn (Starting (write_started size address value)) old_count new_count old new.far why
      → BusStoreFailed size address value old_count new_count old new e
  in_end : (started : Tells) → Did old (write_started size address value) started → BusEndFailed address old_count new_count started new e
      → BusStoreFailed size address value old_count new_count old new e
