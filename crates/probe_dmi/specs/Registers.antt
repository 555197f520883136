-- Scans of a register of the transport from a TAP at rest: rounds, the capture, rounds, the update, rounds; and what a fault left of that.
-- RISC-V Debug Specification 1.0, "JTAG DTM Registers"; a path of IEEE 1149.1 to Run-Test/Idle or to another instruction is rounds alone.
use Rattle.std.specs.Prelude.{◌≡◌, ◌+◌, ◌≤◌, ℕ, List, length, Bool, Option, Some, None, IfSome}
use Rattle.jt_base.specs.BitList.{bits_of, number_of}
use Rattle.debug_model.specs.declared.data_register.DataRegister.{DataRegister}
use Rattle.debug_model.specs.declared.data_register.DataRegister.TheVariants.{Dmi}
use Rattle.debug_model.specs.declared.dmi_scan.DmiScan.{DmiScan}
use Rattle.debug_model.specs.Chip.{Chip, Inside}
use Rattle.debug_model.specs.Dmi.{IsAtRest, IsDmi, heard}
use Rattle.debug_model.specs.Scan.{Coming, TookOut, capture, dr_clocks, dr_inside, dr_out, ticks}
use Rattle.debug_model.specs.Told.{Far, IsFree, IsOpen, IsRead, chip_of}
use Rattle.debug_model.specs.Transport.{dmi_width, width_of}
use Rattle.debug_model.specs.TransportWords.{address_bits, dmi_word}

-- ---- when a register can be scanned

pub record CanScan (told : Option Far) : Type 0 where
  pub unended : IsOpen told
  pub read : IsRead told
  pub free : IsFree told
  pub rest : IsAtRest told

-- an address has as many bits as a told chip's
abbrev pub IsWidth : ℕ → Option Far → Type 0
IsWidth abits told = IfSome told (λ _. abits ≡ address_bits)

-- these are as many bits as a told chip's register has
abbrev pub IsAsLong : DataRegister → List Bool → Option Far → Type 0
IsAsLong r bits told = IfSome told (λ _. length bits ≡ width_of r)

-- the instruction selects this register of a told chip
abbrev pub IsChosen : DataRegister → Option Far → Type 0
IsChosen r told = IfSome told (λ f. (chip_of f).port.selected ≡ r)

-- ---- what was done to a told chip

-- rounds passed
pub record Waited (c : Chip) (new : Option Far) : Type 0 where
  pub far : Far
  pub is : new ≡ Some far
  pub rounds : ℕ
  pub passed : (chip_of far).inside ≡ ticks rounds c.inside

-- rounds passed, and this register is selected
pub record Prepared (r : DataRegister) (c : Chip) (new : Option Far) : Type 0 where
  pub far : Far
  pub is : new ≡ Some far
  pub rounds : ℕ
  pub passed : (chip_of far).inside ≡ ticks rounds c.inside
  pub selected : (chip_of far).port.selected ≡ r

-- a scan of these bits took these out
pub record ScannedFrom (r : DataRegister) (bits out : List Bool) (c : Chip) (new : Option Far) : Type 0 where
  pub far : Far
  pub is : new ≡ Some far
  pub before : ℕ
  pub between : ℕ
  pub behind : ℕ
  pub shifts : length bits ≤ between
  pub least : dr_clocks bits ≤ before + between + behind
  pub out_is : out ≡ dr_out bits r (ticks before c.inside)
  pub passed : (chip_of far).inside ≡ dr_inside before between behind bits r c.inside

-- how far a scan came
pub data Part (r : DataRegister) (bits : List Bool) (i : Inside) : Inside → Type 0 where
  before_capture : (before : ℕ) → Part r bits i (ticks before i)
  behind_capture : (before between : ℕ) → Part r bits i (ticks between (capture r (ticks before i)))
  behind_update : (before between behind : ℕ) → Part r bits i (dr_inside before between behind bits r i)

pub record CutFrom (r : DataRegister) (bits : List Bool) (c : Chip) (new : Option Far) : Type 0 where
  pub far : Far
  pub is : new ≡ Some far
  pub part : Part r bits c.inside (chip_of far).inside

-- ---- the registers of the transport

abbrev pub dmi_bits : DmiScan → List Bool
dmi_bits s = bits_of dmi_width (dmi_word s)

-- a scan of a register that is read as a number
pub record WordScanned (r : DataRegister) (bits : List Bool) (value : ℕ) (c : Chip) (new : Option Far) : Type 0 where
  pub out : List Bool
  pub value_is : value ≡ number_of out
  pub scanned : ScannedFrom r bits out c new

pub record DmiScanned (sent out : DmiScan) (c : Chip) (new : Option Far) : Type 0 where
  pub bits : List Bool
  pub out_is : out ≡ heard bits
  pub scanned : ScannedFrom Dmi (dmi_bits sent) bits c new

-- ---- what is heard of a scripted one

pub record TookDmi (out : DmiScan) (coming : Coming) (new : Option Coming) : Type 0 where
  pub bits : List Bool
  pub is : out ≡ heard bits
  pub width : IsDmi bits
  pub took : TookOut bits coming new

abbrev pub HeardDmi : DmiScan → Option Coming → Option Coming → Type 0
HeardDmi out None new = new ≡ None
HeardDmi out (Some coming) new = TookDmi out coming new

pub record TookNumber (value : ℕ) (coming : Coming) (new : Option Coming) : Type 0 where
  pub bits : List Bool
  pub is : value ≡ number_of bits
  pub width : length bits ≡ 32
  pub took : TookOut bits coming new

abbrev pub HeardNumber : ℕ → Option Coming → Option Coming → Type 0
HeardNumber value None new = new ≡ None
HeardNumber value (Some coming) new = TookNumber value coming new
