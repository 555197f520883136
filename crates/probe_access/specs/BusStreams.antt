-- The calls of a run of loads by the system bus: the address starts the first access, and each read of sbdata0 the next, one size further on, but for the
-- last. RISC-V Debug Specification 1.0, "System Bus Access Control and Status" (sbreadonaddr, sbautoincrement, sbreadondata) and "System Bus Data 31:0".
use Rattle.std.specs.Prelude.{◌≡◌, ◌≢◌, ◌⊎◌, ◌<◌, ◌≤◌, ◌++◌, ◌+◌, ◌%◌, ◌^◌, ℕ, zero, suc, List, [], ◌∷◌, length, map, All, Bool, true, false}
use Rattle.rv_model.specs.declared.size.Size.{Size}
use Rattle.rv_model.specs.declared.size.Size.TheVariants.{B1, B2, B4, B8}
use Rattle.debug_model.specs.Addresses.{sbcs_address, sbaddress0_address, sbaddress1_address, sbdata0_address, sbdata1_address}
use Rattle.debug_model.specs.declared.dmi.DmiFault.{DmiFault}
use Rattle.debug_model.specs.declared.dmi_op.DmiOp.{DmiOp}
use Rattle.debug_model.specs.declared.dmi_op.DmiOp.TheVariants.{Read, Write}
use Rattle.debug_model.specs.ModuleWords.{sbcs_word}
use Rattle.probe_run.specs.Acts.{Act, Attempt, Did, Tells}
use Rattle.probe_run.specs.Acts.Act.{Got, Put}
use Rattle.probe_run.specs.Acts.Attempt.{Operation}
use Rattle.probe_run.specs.Opening.{clears_sberror}
use Rattle.probe_access.specs.Blocks.{element_at}
use Rattle.probe_access.specs.declared.fault.AccessFault.{AccessFault}
use Rattle.probe_access.specs.declared.fault.AccessFault.TheVariants as fault
use Rattle.probe_access.specs.BusRuns.{BusPollFailed, BusPolled, ShowsAccess, Starting, access_number, addressed, bus_busy, bus_collided, bus_error, bus_poll}
use Rattle.probe_access.specs.BusRuns.{cut_to, outside_error}
use Rattle.probe_access.specs.declared.odd.OddStatus.{OddStatus}
use Rattle.probe_access.specs.declared.odd.OddStatus.TheVariants.{Sbcs}
use Rattle.probe_access.specs.CommandRuns.{polls_most}
use Rattle.probe_access.specs.Faults.{Among, BrokeIn}
use Rattle.probe_access.specs.RegisterAccess.{joined}

-- ---- the words of sbcs

-- accesses of one size, each behind the one before: the address starts a read, and with sbreadondata each read of sbdata0 the next
abbrev pub running : Bool → Size → ℕ
running on_data size = sbcs_word (record {
  sbversion = 0;
  sbbusyerror = false;
  sbbusy = false;
  sbreadonaddr = true;
  sbaccess = access_number size;
  sbautoincrement = true;
  sbreadondata = on_data;
  sberror = 0;
  sbasize = 0;
  sizes = 0;
})

abbrev pub run_started : Size → ℕ → List Act
run_started size address = addressed (running true size) address

-- ---- the data

-- sbdata0 holds elements of at most 4 bytes
abbrev pub IsNarrow : Size → Type 0
IsNarrow B1 = Unit {0}
IsNarrow B2 = Unit {0}
IsNarrow B4 = Unit {0}
IsNarrow B8 = ⊥

-- how many words an element is read by
abbrev pub element_words : Size → ℕ
element_words B1 = 1
element_words B2 = 1
element_words B4 = 1
element_words B8 = 2

-- each element was read, its lower half last, and these are their values
pub data ElementsRead (size : Size) : List ℕ → List Act → Type 0 where
  none : ElementsRead size [] []
  narrow : (low : ℕ) (values : List ℕ) (acts : List Act) → IsNarrow size → ElementsRead size values acts
      → ElementsRead size (cut_to size low ∷ values) (Got sbdata0_address low ∷ acts)
  double : (low high : ℕ) (values : List ℕ) (acts : List Act) → size ≡ B8 → ElementsRead size values acts
      → ElementsRead size (joined low high ∷ values) (Got sbdata1_address high ∷ Got sbdata0_address low ∷ acts)

-- words of the data that were read, so many times the lower one
pub data DataReads : ℕ → List Act → Type 0 where
  none : DataReads 0 []
  lower : (n value : ℕ) (acts : List Act) → DataReads n acts → DataReads (n + 1) (Got sbdata0_address value ∷ acts)
  upper : (n value : ℕ) (acts : List Act) → DataReads n acts → DataReads n (Got sbdata1_address value ∷ acts)

-- a word is to be read, behind others of so many elements
pub data ReadingData (number : ℕ) : List Act → Attempt → Type 0 where
  lower : (n : ℕ) (acts : List Act) → DataReads n acts → n < number → ReadingData number acts (Operation (Read sbdata0_address))
  upper : (n : ℕ) (acts : List Act) → DataReads n acts → n < number → ReadingData number acts (Operation (Read sbdata1_address))

-- so many more elements were read
pub record MoreRead (size : Size) (number : ℕ) (was is : List ℕ) (old new : Tells) : Type 0 where
  pub values : List ℕ
  pub joins : is ≡ was ++ values
  pub count : length values ≡ number
  pub acts : List Act
  pub read : ElementsRead size values acts
  pub did : Did old acts new

-- ---- in one call

abbrev pub reads_of_one : Size → List DmiOp
reads_of_one B1 = Read sbdata0_address ∷ []
reads_of_one B2 = Read sbdata0_address ∷ []
reads_of_one B4 = Read sbdata0_address ∷ []
reads_of_one B8 = Read sbdata1_address ∷ Read sbdata0_address ∷ []

-- the operations of so many elements
abbrev pub reads_of : Size → ℕ → List DmiOp
reads_of size zero = []
reads_of size (suc n) = reads_of_one size ++ reads_of size n

-- the values that results of them give
abbrev pub doubles_of : List ℕ → List ℕ
doubles_of [] = []
doubles_of (high ∷ []) = []
doubles_of (high ∷ low ∷ rest) = joined low high ∷ doubles_of rest

abbrev pub words_of : Size → List ℕ → List ℕ
words_of size [] = []
words_of size (low ∷ rest) = cut_to size low ∷ words_of size rest

abbrev pub values_in : Size → List ℕ → List ℕ
values_in B1 results = words_of B1 results
values_in B2 results = words_of B2 results
values_in B4 results = words_of B4 results
values_in B8 results = doubles_of results

-- ---- a run

-- the end of a run in one call: sbreadondata ends, the last element is read, and sbcs behind it as it is shown
pub record EndRead (size : Size) (was is : List ℕ) (shown : ℕ) (old new : Tells) : Type 0 where
  pub values : List ℕ
  pub joins : is ≡ was ++ values
  pub count : length values ≡ 1
  pub acts : List Act
  pub read : ElementsRead size values acts
  pub did : Did old (Put sbcs_address (running false size) ∷ (acts ++ bus_poll shown ∷ [])) new

-- and the polls behind it, up to the first that showed no access under way
pub record EndPolled (size : Size) (was is : List ℕ) (last : ℕ) (old new : Tells) : Type 0 where
  pub values : List ℕ
  pub joins : is ≡ was ++ values
  pub count : length values ≡ 1
  pub acts : List Act
  pub read : ElementsRead size values acts
  pub words : List ℕ
  pub busy : All ShowsAccess words
  pub few : length words ≤ polls_most
  pub idle : bus_busy last ≡ false
  pub did : Did old (Put sbcs_address (running false size) ∷ (acts ++ (map bus_poll words ++ bus_poll last ∷ []))) new

-- the elements of a run were asked for, and these values were read: the last behind the end of sbreadondata; and this is sbcs at the end of the last access
pub record Ran (size : Size) (address : ℕ) (values : List ℕ) (last : ℕ) (old new : Tells) : Type 0 where
  pub begun : Tells
  pub starts : Did old (run_started size address) begun
  pub front : List ℕ
  pub read : Tells
  pub first : MoreRead size (length front) [] front begun read
  pub ends : EndPolled size front values last read new

-- all were right: none was read too early, and memory refused none
pub record RanThrough (size : Size) (address : ℕ) (values : List ℕ) (old new : Tells) : Type 0 where
  pub last : ℕ
  pub ran : Ran size address values last old new
  pub fine : bus_error last ≡ 0
  pub alone : bus_collided last ≡ false

-- what is handed out of the words that were read, and of the one that the bus still holds, which is the last
pub data Handed (read : List ℕ) (held : ℕ) : List ℕ → Type 0 where
  none : Handed read held []
  some : (front rest : List ℕ) → read ≡ front ++ rest → Handed read held (front ++ held ∷ [])

-- the errors are cleared, and the address and the data read
abbrev pub found_acts : ℕ → ℕ → ℕ → ℕ → List Act
found_acts low high data0 data1 =
    Put sbcs_address clears_sberror
    ∷ Got sbaddress1_address high
    ∷ Got sbaddress0_address low
    ∷ Got sbdata1_address data1
    ∷ Got sbdata0_address data0
    ∷ []

-- an error was shown at the end: the address stands behind the last element that was loaded, whose value the bus still holds
pub record Stopped (size : Size) (address count last : ℕ) (values : List ℕ) (old new : Tells) : Type 0 where
  pub read : List ℕ
  pub all : length read ≡ count
  pub polled : Tells
  pub runs : Ran size address read last old polled
  pub low : ℕ
  pub high : ℕ
  pub data0 : ℕ
  pub data1 : ℕ
  pub found : Did polled (found_acts low high data0 data1) new
  pub place : joined low high ≡ element_at size address (length values) % 2 ^ 64
  pub within : length values ≤ length read
  pub handed : Handed read (cut_to size (joined data0 data1)) values

-- ---- where a run fails

-- registers of the bus whose reads start nothing, unless sbreadondata is set
pub data IsBusRead : ℕ → Type 0 where
  upper_address : IsBusRead sbaddress1_address
  lower_address : IsBusRead sbaddress0_address
  upper_data : IsBusRead sbdata1_address
  lower_data : IsBusRead sbdata0_address

pub data BusReads : List Act → Type 0 where
  none : BusReads []
  more : (a value : ℕ) (acts : List Act) → IsBusRead a → BusReads acts → BusReads (Got a value ∷ acts)

-- the errors are to be cleared, or a register is to be read behind that
pub data Finding : List Act → Attempt → Type 0 where
  clears : Finding [] (Operation (Write sbcs_address clears_sberror))
  reads : (a : ℕ) (acts : List Act) → BusReads acts → IsBusRead a → Finding (Put sbcs_address clears_sberror ∷ acts) (Operation (Read a))

-- the elements in front of the last were read
pub record FrontRead (size : Size) (address count : ℕ) (front : List ℕ) (old new : Tells) : Type 0 where
  pub one_less : length front + 1 ≡ count
  pub begun : Tells
  pub starts : Did old (run_started size address) begun
  pub first : MoreRead size (length front) [] front begun new

-- at the end of a run, behind these: sbreadondata is to end, a word of the last element to be read, or sbcs
pub data Ending (size : Size) : List Act → Attempt → Type 0 where
  stops : Ending size [] (Operation (Write sbcs_address (running false size)))
  reads : (acts : List Act) (op : DmiOp) → ReadingData 1 acts (Operation op) → Ending size (Put sbcs_address (running false size) ∷ acts) (Operation op)
  looks : (values : List ℕ) (acts : List Act) → length values ≡ 1 → ElementsRead size values acts
      → Ending size (Put sbcs_address (running false size) ∷ acts) (Operation (Read sbcs_address))

-- by which call failed
pub data RunFailed (size : Size) (address count old_count new_count : ℕ) (old new : Tells) (e : AccessFault) : Type 0 where
  in_start : (why : DmiFault) → e ≡ fault.Dmi why → BrokeIn (Among (Starting (run_started size address))) old_count new_count old new.far why
      → RunFailed size address count old_count new_count old new e
  in_front : (number : ℕ) → number < count → (begun : Tells) → Did old (run_started size address) begun → (why : DmiFault) → e ≡ fault.Dmi why
      → BrokeIn (Among (ReadingData number)) old_count new_count begun new.far why → RunFailed size address count old_count new_count old new e
  in_end : (front : List ℕ) (read : Tells) → FrontRead size address count front old read → (why : DmiFault) → e ≡ fault.Dmi why
      → BrokeIn (Among (Ending size)) old_count new_count read new.far why → RunFailed size address count old_count new_count old new e
  in_polls : (front values : List ℕ) (shown : ℕ) (read mid : Tells) → FrontRead size address count front old read → EndRead size front values shown read mid
      → BusPollFailed old_count new_count mid new e → RunFailed size address count old_count new_count old new e
  in_finding : (read : List ℕ) (polled : Tells) (last : ℕ) → length read ≡ count → Ran size address read last old polled
      → (why : DmiFault) → e ≡ fault.Dmi why → BrokeIn (Among Finding) old_count new_count polled new.far why
      → RunFailed size address count old_count new_count old new e

-- ---- the end

-- sbcs at the end of the last access: as it was shown already, or else polled for
pub data PolledOn (shown last : ℕ) (old new : Tells) : Type 0 where
  at_once : bus_busy shown ≡ false → last ≡ shown → new ≡ old → PolledOn shown last old new
  later : bus_busy shown ≡ true → BusPolled last old new → PolledOn shown last old new

-- the words of a run, with the last poll behind them
pub record RunRead (size : Size) (address count last : ℕ) (values : List ℕ) (old new : Tells) : Type 0 where
  pub all : length values ≡ count
  pub ran : Ran size address values last old new

-- just these elements were loaded: all, or those up to the first that was read too early
pub data RunLoads (size : Size) (address count : ℕ) (values : List ℕ) (old new : Tells) : Type 0 where
  all : length values ≡ count → RanThrough size address values old new → RunLoads size address count values old new
  some : (last : ℕ) → Stopped size address count last values old new → bus_error last ≡ 0 → bus_collided last ≡ true
      → RunLoads size address count values old new

-- the errors were cleared, and these are the address and the data
pub record FoundAt (address value : ℕ) (old new : Tells) : Type 0 where
  pub low : ℕ
  pub high : ℕ
  pub data0 : ℕ
  pub data1 : ℕ
  pub place : address ≡ joined low high
  pub held : value ≡ joined data0 data1
  pub did : Did old (found_acts low high data0 data1) new

-- where it is the address behind one of the first elements, they are handed out
pub record HandedOut (size : Size) (address place value : ℕ) (read values : List ℕ) : Type 0 where
  pub there : place ≡ element_at size address (length values) % 2 ^ 64
  pub within : length values ≤ length read
  pub handed : Handed read (cut_to size value) values

-- it is none of them
abbrev pub Misplaced : Size → ℕ → ℕ → ℕ → Type 0
Misplaced size address place count = (n : ℕ) → n ≤ count → place ≡ element_at size address n % 2 ^ 64 → ⊥

-- why a run has no value: the errors that were shown, and what was found behind them
pub data RunOddly (size : Size) (address count : ℕ) (shown : OddStatus) (old new : Tells) : Type 0 where
  other : (last : ℕ) (read : List ℕ) → shown ≡ Sbcs last → RunRead size address count last read old new → bus_error last ≢ 0 → bus_error last ≢ outside_error
      → RunOddly size address count shown old new
  misplaced : (last place value : ℕ) (read : List ℕ) (mid : Tells) → shown ≡ Sbcs last → RunRead size address count last read old mid
      → (bus_error last ≢ 0) ⊎ (bus_collided last ≡ true) → FoundAt place value mid new → Misplaced size address place count
      → RunOddly size address count shown old new
  all_there : (last : ℕ) (values : List ℕ) → shown ≡ Sbcs last → Stopped size address count last values old new → bus_error last ≡ outside_error
      → length values ≡ count → RunOddly size address count shown old new

-- why nothing more can be loaded, by what was found
abbrev pub HandOutFell : Size → ℕ → ℕ → ℕ → ℕ → ℕ → List ℕ → List ℕ → AccessFault → Type 0
HandOutFell size address count last place value read values (fault.Dmi why) = ⊥
HandOutFell size address count last place value read values (fault.Memory at) = (length values < count) × (at ≡ element_at size address (length values))
    × (bus_error last ≡ outside_error) × HandedOut size address place value read values
HandOutFell size address count last place value read values (fault.Register number) = ⊥
HandOutFell size address count last place value read values fault.StillBusy = ⊥
HandOutFell size address count last place value read values (fault.Run why) = ⊥
HandOutFell size address count last place value read values (fault.Odd shown) =
    (shown ≡ Sbcs last)
    × (Misplaced size address place count
    ⊎ ((bus_error last ≡ outside_error) × HandedOut size address place value read values × (length values ≡ count)))

abbrev pub RunFell : Size → ℕ → ℕ → List ℕ → ℕ → ℕ → Tells → Tells → AccessFault → Type 0
RunFell size address count values old_count new_count old new (fault.Dmi why) = RunFailed size address count old_count new_count old new (fault.Dmi why)
RunFell size address count values old_count new_count old new (fault.Memory at) = (last : ℕ) × (length values < count)
    × (at ≡ element_at size address (length values)) × (bus_error last ≡ outside_error) × Stopped size address count last values old new
RunFell size address count values old_count new_count old new (fault.Register number) = ⊥
RunFell size address count values old_count new_count old new fault.StillBusy = RunFailed size address count old_count new_count old new fault.StillBusy
RunFell size address count values old_count new_count old new (fault.Run why) = ⊥
RunFell size address count values old_count new_count old new (fault.Odd shown) = RunOddly size address count shown old new
