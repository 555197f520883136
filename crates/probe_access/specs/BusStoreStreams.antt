-- The calls of a run of stores by the system bus: each write of sbdata0 starts one, and the address rises behind it.
-- RISC-V Debug Specification 1.0, "System Bus Access Control and Status" (sbautoincrement) and "System Bus Data 31:0".
use Rattle.std.specs.Prelude.{◌≡◌, ◌≢◌, ◌⊎◌, ◌<◌, ◌≤◌, ◌==◌, ◌+◌, ◌-◌, ◌++◌, ◌%◌, ◌^◌, ℕ, zero, suc, Bool, List, [], ◌∷◌, length, true, false}
use Rattle.rv_model.specs.declared.size.Size.{Size}
use Rattle.debug_model.specs.Addresses.{sbdata0_address, sbdata1_address}
use Rattle.debug_model.specs.declared.dmi.DmiFault.{DmiFault}
use Rattle.debug_model.specs.declared.dmi_op.DmiOp.{DmiOp}
use Rattle.debug_model.specs.declared.dmi_op.DmiOp.TheVariants.{Write}
use Rattle.debug_model.specs.Dmi.{IsOperation}
use Rattle.debug_model.specs.Commands.{high_half, low_half}
use Rattle.debug_model.specs.ModuleWords.{sbcs_word}
use Rattle.probe_run.specs.Acts.{Act, Did, Tells}
use Rattle.probe_run.specs.Acts.Act.{Got, Put, Scanned}
use Rattle.probe_access.specs.Blocks.{element_at, value_at}
use Rattle.probe_access.specs.declared.fault.AccessFault.{AccessFault}
use Rattle.probe_access.specs.declared.fault.AccessFault.TheVariants as fault
use Rattle.probe_access.specs.BusRuns.{BusEnded, BusPollFailed, BusPolled, Starting, access_number, addressed, bus_collided, bus_error, outside_error}
use Rattle.probe_access.specs.BusStreams.{Finding, FoundAt, Misplaced}
use Rattle.probe_access.specs.declared.odd.OddStatus.{OddStatus}
use Rattle.probe_access.specs.declared.odd.OddStatus.TheVariants.{Sbcs}
use Rattle.probe_access.specs.Faults.{Among, BrokeIn}

-- ---- what is written

-- each bit of sberror
abbrev pub every_error : ℕ
every_error = 7

-- accesses of one size, each behind the one before, and the errors of earlier ones cleared
abbrev pub storing : Size → ℕ
storing size = sbcs_word (record {
  sbversion = 0;
  sbbusyerror = true;
  sbbusy = false;
  sbreadonaddr = false;
  sbaccess = access_number size;
  sbautoincrement = true;
  sbreadondata = false;
  sberror = every_error;
  sbasize = 0;
  sizes = 0;
})

-- the upper half that the bus holds in front of an element: that of the one before; the first one's own is there from the start
abbrev pub upper_at : List ℕ → ℕ → ℕ
upper_at values i = high_half (value_at values (i - 1))

-- the upper half starts nothing, and stays
abbrev pub stores_started : Size → ℕ → ℕ → List Act
stores_started size address upper = addressed (storing size) address ++ Put sbdata1_address upper ∷ []

-- one element: its upper half where the bus holds another, and the lower half, which starts its store
abbrev pub puts_where : (held : Bool) → ℕ → List Act
puts_where true value = Put sbdata0_address (low_half value) ∷ []
puts_where false value = Put sbdata1_address (high_half value) ∷ Put sbdata0_address (low_half value) ∷ []

abbrev pub element_puts : (upper value : ℕ) → List Act
element_puts upper value = puts_where (high_half value == upper) value

-- so many elements from one on
abbrev pub data_puts : List ℕ → (from count : ℕ) → List Act
data_puts values from zero = []
data_puts values from (suc n) = element_puts (upper_at values from) (value_at values from) ++ data_puts values (from + 1) n

-- writes alone, of words
pub data Puts : List Act → Type 0 where
  none : Puts []
  more : (address value : ℕ) (acts : List Act) → IsOperation (Write address value) → Puts acts → Puts (Put address value ∷ acts)

-- the operations of writes
abbrev pub writes_of : List Act → List DmiOp
writes_of [] = []
writes_of (Scanned value ∷ acts) = writes_of acts
writes_of (Got address value ∷ acts) = writes_of acts
writes_of (Put address value ∷ acts) = Write address value ∷ writes_of acts

-- how many words so many elements take from one on: each one, and one more where its upper half is another than that before it
abbrev pub words_from : List ℕ → (from count : ℕ) → ℕ
words_from values from count = length (data_puts values from count)

-- and all of them
abbrev pub data_words : List ℕ → ℕ
data_words values = words_from values 0 (length values)

abbrev pub stores_asked : Size → ℕ → List ℕ → ℕ → List Act
stores_asked size address values count = stores_started size address (upper_at values 0) ++ data_puts values 0 count

-- ---- how a run ended

-- so many were asked for, and a poll behind them showed none under way
pub record StoresPolled (size : Size) (address : ℕ) (values : List ℕ) (count last : ℕ) (old new : Tells) : Type 0 where
  pub mid : Tells
  pub asked : Did old (stores_asked size address values count) mid
  pub polled : BusPolled last mid new

-- all were stored: none was asked for too early, and memory refused none
pub record StoresThrough (size : Size) (address : ℕ) (values : List ℕ) (count : ℕ) (old new : Tells) : Type 0 where
  pub mid : Tells
  pub asked : Did old (stores_asked size address values count) mid
  pub ends : BusEnded mid new

-- a place is the address behind so many of the elements
pub record StoredBefore (size : Size) (address place count done : ℕ) : Type 0 where
  pub there : place ≡ element_at size address done % 2 ^ 64
  pub within : done ≤ count

-- an error was shown at the end: the address stands behind the last element that was stored
pub record StoresStopped (size : Size) (address : ℕ) (values : List ℕ) (count last done : ℕ) (old new : Tells) : Type 0 where
  pub polled : Tells
  pub shows : StoresPolled size address values count last old polled
  pub place : ℕ
  pub held : ℕ
  pub found : FoundAt place held polled new
  pub before : StoredBefore size address place count done

-- just so many were stored: all, or those up to the first that was asked for too early
pub data RunStores (size : Size) (address : ℕ) (values : List ℕ) (count done : ℕ) (old new : Tells) : Type 0 where
  all : done ≡ count → StoresThrough size address values count old new → RunStores size address values count done old new
  some : (last : ℕ) → StoresStopped size address values count last done old new → bus_error last ≡ 0 → bus_collided last ≡ true
      → RunStores size address values count done old new

-- ---- where it fails

-- by which call failed
pub data StoresFailed (size : Size) (address : ℕ) (values : List ℕ) (count old_count new_count : ℕ) (old new : Tells) (e : AccessFault) : Type 0 where
  in_run : (why : DmiFault) → e ≡ fault.Dmi why → BrokeIn (Among (Starting (stores_asked size address values count))) old_count new_count old new.far why
      → StoresFailed size address values count old_count new_count old new e
  in_polls : (mid : Tells) → Did old (stores_asked size address values count) mid → BusPollFailed old_count new_count mid new e
      → StoresFailed size address values count old_count new_count old new e
  in_finding : (last : ℕ) (polled : Tells) → StoresPolled size address values count last old polled → (why : DmiFault) → e ≡ fault.Dmi why
      → BrokeIn (Among Finding) old_count new_count polled new.far why → StoresFailed size address values count old_count new_count old new e

-- why it can't be told how many were stored
pub data StoresOddly (size : Size) (address : ℕ) (values : List ℕ) (count : ℕ) (shown : OddStatus) (old new : Tells) : Type 0 where
  other : (last : ℕ) → shown ≡ Sbcs last → StoresPolled size address values count last old new → bus_error last ≢ 0 → bus_error last ≢ outside_error
      → StoresOddly size address values count shown old new
  misplaced : (last place held : ℕ) (mid : Tells) → shown ≡ Sbcs last → StoresPolled size address values count last old mid
      → (bus_error last ≢ 0) ⊎ (bus_collided last ≡ true) → FoundAt place held mid new → Misplaced size address place count
      → StoresOddly size address values count shown old new
  all_there : (last : ℕ) → shown ≡ Sbcs last → StoresStopped size address values count last count old new → bus_error last ≡ outside_error
      → StoresOddly size address values count shown old new

-- why no more can be stored, by what was found
abbrev pub CountFell : Size → ℕ → ℕ → ℕ → ℕ → AccessFault → Type 0
CountFell size address count last place (fault.Dmi why) = ⊥
CountFell size address count last place (fault.Memory at) = (done : ℕ) × (done < count) × (at ≡ element_at size address done)
    × (bus_error last ≡ outside_error) × StoredBefore size address place count done
CountFell size address count last place (fault.Register number) = ⊥
CountFell size address count last place fault.StillBusy = ⊥
CountFell size address count last place (fault.Run why) = ⊥
CountFell size address count last place (fault.Odd shown) =
    (shown ≡ Sbcs last)
    × (Misplaced size address place count ⊎ ((bus_error last ≡ outside_error) × StoredBefore size address place count count))

abbrev pub StoresFell : Size → ℕ → List ℕ → ℕ → ℕ → ℕ → Tells → Tells → AccessFault → Type 0
StoresFell size address values count old_count new_count old new (fault.Dmi why) =
    StoresFailed size address values count old_count new_count old new (fault.Dmi why)
StoresFell size address values count old_count new_count old new (fault.Memory at) = (last done : ℕ) × (done < count)
    × (at ≡ element_at size address done) × (bus_error last ≡ outside_error) × StoresStopped size address values count last done old new
StoresFell size address values count old_count new_count old new (fault.Register number) = ⊥
StoresFell size address values count old_count new_count old new fault.StillBusy =
    StoresFailed size address values count old_count new_count old new fault.StillBusy
StoresFell size address values count old_count new_count old new (fault.Run why) = ⊥
StoresFell size address values count old_count new_count old new (fault.Odd shown) = StoresOddly size address values count shown old new
