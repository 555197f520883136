-- The opening of a chip: which registers are read and written, in order, and what each of them must show.
-- RISC-V Debug Specification 1.0, "Debug Module Registers" and "DTM Control and Status". What is asked of each register is this project's own choice.
use Rattle.std.specs.Prelude.{◌≡◌, ◌++◌, ◌+◌, ◌<◌, ◌==◌, ◌&&◌, not, nat_le, ◌%◌, ℕ, List, [], ◌∷◌, length, map, All, Bool, true, false, Option, Some, None}
use Rattle.std.specs.Prelude.{IfSome, if◌then◌else◌, is_some}
use Rattle.rv_model.specs.declared.version.Version.{Version}
use Rattle.rv_model.specs.Version.{version_of}
use Rattle.debug_model.specs.Addresses.{dmcontrol_address, abstractcs_address, abstractauto_address, sbcs_address}
use Rattle.debug_model.specs.declared.dmi.DmiFault.{DmiFault}
use Rattle.debug_model.specs.declared.dmi_op.DmiOp.TheVariants.{Read, Write}
use Rattle.debug_model.specs.declared.point.Point.TheVariants.{Look}
use Rattle.debug_model.specs.Chip.{Chip}
use Rattle.debug_model.specs.Loaded.{AsLoaded}
use Rattle.debug_model.specs.ModuleWords.{abstractcs_of, dmcontrol_of, dmstatus_of, sbcs_of}
use Rattle.debug_model.specs.SystemBus.{bus_address_bits}
use Rattle.debug_model.specs.TransportWords.{dtmcs_of}
use Rattle.debug_model.specs.Told.{Far, SiteReady, site_of}
use Rattle.abstract_debugger.specs.Stands.{Cut, Pointed}
use Rattle.probe_run.specs.declared.control.Request.TheVariants.{Nothing}
use Rattle.probe_run.specs.declared.fault.ConnectFault.{ConnectFault}
use Rattle.probe_run.specs.declared.fault.ConnectFault.TheVariants.{Dtm, Module, Abstract, Bus, Dmi}
use Rattle.probe_run.specs.Acts.{Act, Attempt, Broke, Did, Tells}
use Rattle.probe_run.specs.Acts.Act.{Scanned, Got, Put}
use Rattle.probe_run.specs.Acts.Attempt.{Scan, Operation, Several}
use Rattle.probe_run.specs.Happens.{target_of}
use Rattle.probe_run.specs.Looks.{look_act}
use Rattle.probe_run.specs.Outcomes.{asks}
use Rattle.probe_run.specs.Requests.{control_word}
use Rattle.probe_run.specs.Waits.{LookBroke}

-- ---- what is asked of each register

-- version 1, and addresses of 7 to 30 bits
abbrev pub transport_fits : ℕ → Bool
transport_fits w = (dtmcs_of w).version == 1 && (nat_le 7 (dtmcs_of w).abits && nat_le (dtmcs_of w).abits 30)

abbrev pub is_active : ℕ → Bool
is_active w = (dmcontrol_of w).dmactive

-- the release that dmstatus names, 0.13 or 1.0; none where the module is not authenticated, or follows another
abbrev pub release_of : ℕ → Option Version
release_of w = if (dmstatus_of w).authenticated then version_of (dmstatus_of w).version else None

abbrev pub module_fits : ℕ → Bool
module_fits w = is_some (release_of w)

-- at least four words of program buffer and two of data, and no command under way
abbrev pub commands_fit : ℕ → Bool
commands_fit w = nat_le 4 (abstractcs_of w).progbufsize && (nat_le 2 (abstractcs_of w).datacount && not (abstractcs_of w).busy)

-- version 1, addresses of 64 bits, and accesses of 1, 2, 4 and 8 bytes
abbrev pub bus_fits : ℕ → Bool
bus_fits w = (sbcs_of w).sbversion == 1 && ((sbcs_of w).sbasize == bus_address_bits && (sbcs_of w).sizes % 16 == 15)

-- ---- the registers

-- every error of commands is cleared
abbrev pub clears_cmderr : ℕ
clears_cmderr = 0x700

-- no word starts a command again
abbrev pub starts_none : ℕ
starts_none = 0

-- every error of the bus is cleared, and no access follows another
abbrev pub clears_sberror : ℕ
clears_sberror = 0x00407000

-- ---- the steps, in order

-- one behind the other
pub record Then (R S : Tells → Tells → Type 0) (old new : Tells) : Type 0 where
  pub mid : Tells
  pub first : R old mid
  pub second : S mid new

-- by these a register was read, and shows what is asked, or does not
pub record ReadAs (acts : ℕ → List Act) (test : ℕ → Bool) (answer : Bool) (word : ℕ) (old new : Tells) : Type 0 where
  pub did : Did old (acts word) new
  pub tested : test word ≡ answer

abbrev pub ReadFit : (ℕ → List Act) → (ℕ → Bool) → Tells → Tells → Type 0
ReadFit acts test old new = (word : ℕ) × ReadAs acts test true word old new

abbrev pub transport_acts : ℕ → List Act
transport_acts word = Scanned word ∷ []

abbrev pub active_act : ℕ → Act
active_act word = Got dmcontrol_address word

-- how often dmcontrol is read at most until dmactive is 1
abbrev pub reads_most : ℕ
reads_most = 64

-- dmactive was written, and read until it was 1
pub record Activated (old new : Tells) : Type 0 where
  pub vain : List ℕ
  pub last : ℕ
  pub did : Did old (asks Nothing 0 ++ (map active_act vain ++ active_act last ∷ [])) new
  pub none : All (λ w. is_active w ≡ false) vain
  pub active : is_active last ≡ true
  pub few : length vain < reads_most

-- and in so many reads it was not
pub record NotActivated (last : ℕ) (old new : Tells) : Type 0 where
  pub front : List ℕ
  pub did : Did old (asks Nothing 0 ++ (map active_act front ++ active_act last ∷ [])) new
  pub none : All (λ w. is_active w ≡ false) front
  pub inactive : is_active last ≡ false
  pub all : length front + 1 ≡ reads_most

pub record ActivationBroke (old_count new_count : ℕ) (old : Tells) (told : Option Far) (fault : DmiFault) : Type 0 where
  pub vain : List ℕ
  pub none : All (λ w. is_active w ≡ false) vain
  pub few : length vain < reads_most
  pub broke : Broke (asks Nothing 0 ++ map active_act vain) (Operation (Read dmcontrol_address)) old_count new_count old told fault

abbrev pub module_acts : ℕ → List Act
module_acts word = look_act word ∷ []

abbrev pub commands_acts : ℕ → List Act
commands_acts word = Got abstractcs_address word ∷ []

-- the errors of commands are cleared, and no word starts a command again, before the bus is looked at
abbrev pub bus_acts : ℕ → List Act
bus_acts word = Put abstractcs_address clears_cmderr ∷ Put abstractauto_address starts_none ∷ Got sbcs_address word ∷ []

abbrev pub BusCleared : Tells → Tells → Type 0
BusCleared old new = Did old (Put sbcs_address clears_sberror ∷ []) new

abbrev pub TransportFits : Tells → Tells → Type 0
TransportFits = ReadFit transport_acts transport_fits

abbrev pub ModuleFits : Tells → Tells → Type 0
ModuleFits = ReadFit module_acts module_fits

-- and of this release
pub record ModuleShows (version : Version) (old new : Tells) : Type 0 where
  pub fits : ModuleFits old new
  pub release : release_of fits.0 ≡ Some version

abbrev pub CommandsFit : Tells → Tells → Type 0
CommandsFit = ReadFit commands_acts commands_fit

abbrev pub BusFits : Tells → Tells → Type 0
BusFits = ReadFit bus_acts bus_fits

-- ---- the faults of each step

abbrev pub TransportFails : ℕ → ℕ → Tells → Tells → ConnectFault → Type 0
TransportFails old_count new_count old new (Dtm word) = ReadAs transport_acts transport_fits false word old new
TransportFails old_count new_count old new (Module word control) = ⊥
TransportFails old_count new_count old new (Abstract word) = ⊥
TransportFails old_count new_count old new (Bus word) = ⊥
TransportFails old_count new_count old new (Dmi fault) = Broke [] Scan old_count new_count old new.far fault

pub data ActivateBroke (old_count new_count : ℕ) (old : Tells) (told : Option Far) (fault : DmiFault) : Type 0 where
  at_first : Broke [] (Several (Write dmcontrol_address (control_word Nothing 0)) (Read dmcontrol_address ∷ [])) old_count new_count old told fault
      → ActivateBroke old_count new_count old told fault
  at_read : ActivationBroke old_count new_count old told fault → ActivateBroke old_count new_count old told fault

abbrev pub ActivationFails : ℕ → ℕ → Tells → Tells → ConnectFault → Type 0
ActivationFails old_count new_count old new (Dtm word) = ⊥
ActivationFails old_count new_count old new (Module word true) = NotActivated word old new
ActivationFails old_count new_count old new (Module word false) = ⊥
ActivationFails old_count new_count old new (Abstract word) = ⊥
ActivationFails old_count new_count old new (Bus word) = ⊥
ActivationFails old_count new_count old new (Dmi fault) = ActivateBroke old_count new_count old new.far fault

abbrev pub ModuleFails : ℕ → ℕ → Tells → Tells → ConnectFault → Type 0
ModuleFails old_count new_count old new (Dtm word) = ⊥
ModuleFails old_count new_count old new (Module word true) = ⊥
ModuleFails old_count new_count old new (Module word false) = ReadAs module_acts module_fits false word old new
ModuleFails old_count new_count old new (Abstract word) = ⊥
ModuleFails old_count new_count old new (Bus word) = ⊥
ModuleFails old_count new_count old new (Dmi fault) = LookBroke [] old_count new_count old new.far fault

-- an operation failed behind some steps
pub record ThenBroke (R : Tells → Tells → Type 0) (acts : List Act) (failed : Attempt) (old_count new_count : ℕ) (old : Tells) (told : Option Far)
    (fault : DmiFault) : Type 0 where
  pub mid : Tells
  pub first : R old mid
  pub broke : Broke acts failed old_count new_count mid told fault

abbrev pub CommandsFail : ℕ → ℕ → Tells → Tells → ConnectFault → Type 0
CommandsFail old_count new_count old new (Dtm word) = ⊥
CommandsFail old_count new_count old new (Module word control) = ⊥
CommandsFail old_count new_count old new (Abstract word) = ReadAs commands_acts commands_fit false word old new
CommandsFail old_count new_count old new (Bus word) = ⊥
CommandsFail old_count new_count old new (Dmi fault) = Broke [] (Operation (Read abstractcs_address)) old_count new_count old new.far fault

pub data BusBroke (old_count new_count : ℕ) (old : Tells) (told : Option Far) (fault : DmiFault) : Type 0 where
  at_sbcs : Broke [] (Several (Write abstractcs_address clears_cmderr) (Write abstractauto_address starts_none ∷ Read sbcs_address ∷ []))
      old_count new_count old told fault
      → BusBroke old_count new_count old told fault
  at_sberror : ThenBroke BusFits [] (Operation (Write sbcs_address clears_sberror)) old_count new_count old told fault
      → BusBroke old_count new_count old told fault

abbrev pub BusFails : ℕ → ℕ → Tells → Tells → ConnectFault → Type 0
BusFails old_count new_count old new (Dtm word) = ⊥
BusFails old_count new_count old new (Module word control) = ⊥
BusFails old_count new_count old new (Abstract word) = ⊥
BusFails old_count new_count old new (Bus word) = ReadAs bus_acts bus_fits false word old new
BusFails old_count new_count old new (Dmi fault) = BusBroke old_count new_count old new.far fault

-- ---- the opening

abbrev pub UpToModule : Tells → Tells → Type 0
UpToModule = Then TransportFits Activated

abbrev pub UpToCommands : Tells → Tells → Type 0
UpToCommands = Then UpToModule ModuleFits

abbrev pub UpToBus : Tells → Tells → Type 0
UpToBus = Then UpToCommands CommandsFit

abbrev pub Opened : Tells → Tells → Type 0
Opened = Then UpToBus (Then BusFits BusCleared)

-- and the chip is of this release, as dmstatus showed it
pub record OpenedAs (version : Version) (old new : Tells) : Type 0 where
  pub opened : Opened old new
  pub release : release_of opened.first.first.second.0 ≡ Some version

-- the release that the debug module of a told chip follows, before and behind
pub record IsOfRelease (version : Version) (c : Chip) (new : Option Far) : Type 0 where
  pub far : Far
  pub is : new ≡ Some far
  pub was : c.inside.works.site.unit.version ≡ version
  pub stays : (site_of far).unit.version ≡ version

-- a step failed behind the earlier ones, which were made
pub record Behind (R : Tells → Tells → Type 0) (F : Tells → Tells → Type 0) (old new : Tells) : Type 0 where
  pub mid : Tells
  pub first : R old mid
  pub failed : F mid new

pub data OpeningBroke (old_count new_count : ℕ) (old new : Tells) (fault : DmiFault) : Type 0 where
  in_transport : TransportFails old_count new_count old new (Dmi fault) → OpeningBroke old_count new_count old new fault
  in_activation : Behind TransportFits (λ a b. ActivationFails old_count new_count a b (Dmi fault)) old new → OpeningBroke old_count new_count old new fault
  in_module : Behind UpToModule (λ a b. ModuleFails old_count new_count a b (Dmi fault)) old new → OpeningBroke old_count new_count old new fault
  in_commands : Behind UpToCommands (λ a b. CommandsFail old_count new_count a b (Dmi fault)) old new → OpeningBroke old_count new_count old new fault
  in_bus : Behind UpToBus (λ a b. BusFails old_count new_count a b (Dmi fault)) old new → OpeningBroke old_count new_count old new fault

-- each fault has the register as it was read, and comes where that is not what is asked
abbrev pub ConnectFails : ℕ → ℕ → Tells → Tells → ConnectFault → Type 0
ConnectFails old_count new_count old new (Dtm word) = ReadAs transport_acts transport_fits false word old new
ConnectFails old_count new_count old new (Module word true) = Then TransportFits (NotActivated word) old new
ConnectFails old_count new_count old new (Module word false) = Then UpToModule (ReadAs module_acts module_fits false word) old new
ConnectFails old_count new_count old new (Abstract word) = Then UpToCommands (ReadAs commands_acts commands_fit false word) old new
ConnectFails old_count new_count old new (Bus word) = Then UpToBus (ReadAs bus_acts bus_fits false word) old new
ConnectFails old_count new_count old new (Dmi fault) = OpeningBroke old_count new_count old new fault

-- ---- faults

-- which of them is the link's
abbrev pub opening_why : ConnectFault → Option DmiFault
opening_why (Dtm word) = None
opening_why (Module word control) = None
opening_why (Abstract word) = None
opening_why (Bus word) = None
opening_why (Dmi fault) = Some fault

-- ---- of a chip as it was loaded

-- it is ready, hart 0 is selected, and one Look of hart 0 was made
pub record OpenedChip (f : Far) (new : Option Far) : Type 0 where
  pub far : Far
  pub is : new ≡ Some far
  pub ready : SiteReady (site_of far)
  pub selected : (site_of far).unit.hartsel ≡ 0
  pub happened : Pointed (Look 0) (target_of (site_of f)) (target_of (site_of far))

abbrev pub OpensLoaded : Option Far → Option Far → Type 0
OpensLoaded old new = IfSome old (λ f. AsLoaded f.live → OpenedChip f new)

-- at most that Look was made
pub record UnopenedChip (f : Far) (new : Option Far) : Type 0 where
  pub far : Far
  pub is : new ≡ Some far
  pub happened : Cut (Look 0) (target_of (site_of f)) (target_of (site_of far))

-- no register of such a chip is refused
abbrev pub IsDmiFault : ConnectFault → Type 0
IsDmiFault (Dtm word) = ⊥
IsDmiFault (Module word control) = ⊥
IsDmiFault (Abstract word) = ⊥
IsDmiFault (Bus word) = ⊥
IsDmiFault (Dmi fault) = Unit {0}

abbrev pub LosesLoaded : Option Far → Option Far → ConnectFault → Type 0
LosesLoaded old new e = IfSome old (λ f. AsLoaded f.live → IsDmiFault e × UnopenedChip f new)
