-- The registers of a halted hart that are read and written one after another, with what was read and written, and where that broke off.
-- RISC-V Debug Specification 1.0, "Access Register"; that these are the registers which slots need is this project's own.
use Rattle.std.specs.Prelude.{◌≡◌, ◌++◌, ℕ, List, [], ◌∷◌, true, false, Option, None, Some}
use Rattle.debug_model.specs.Scan.{WhereTold}
use Rattle.rv_model.specs.DebugRegisters.{dcsr_number}
use Rattle.rv_model.specs.TriggerWords.{tdata1_number, tdata2_number, tinfo_number, tselect_number}
use Rattle.probe_access.specs.declared.fault.AccessFault.{AccessFault}
use Rattle.probe_access.specs.declared.fault.AccessFault.TheVariants as access_fault
use Rattle.probe_access.specs.Cuts.{IfCut, LeftAside, Leaves, MaybeWritten, Unchanged}
use Rattle.probe_access.specs.RegisterRuns.{ReadFailed, RegisterRead, RegisterWritten, WriteFailed}
use Rattle.probe_access.specs.Registers.{RegisterReadAt, RegisterLeft, RegisterWrittenAt}
use Rattle.probe_run.specs.Acts.{Tells}
use Rattle.probe_trig.specs.declared.register.TriggerRegister.{TriggerRegister}
use Rattle.probe_trig.specs.declared.register.TriggerRegister.TheVariants.{Tselect, Tdata1, Tdata2, Tinfo, Dcsr}

abbrev pub number_of : TriggerRegister → ℕ
number_of Tselect = tselect_number
number_of Tdata1 = tdata1_number
number_of Tdata2 = tdata2_number
number_of Tinfo = tinfo_number
number_of Dcsr = dcsr_number

-- ---- transfers that were answered

pub data Transfer : Type 0 where
  Got : (register : TriggerRegister) → (value : ℕ) → Transfer  -- it was read as this
  Lacked : (register : TriggerRegister) → Transfer  -- it was asked for, and there is no such register
  Set : (register : TriggerRegister) → (value : ℕ) → Transfer  -- this was written

-- a register that there may be or not
abbrev pub asked : TriggerRegister → Option ℕ → List Transfer
asked r (Some value) = Transfer.Got r value ∷ []
asked r None = Transfer.Lacked r ∷ []

-- a told chip has each of these registers
pub record DidLack (h : ℕ) (r : TriggerRegister) (old new : Tells) : Type 0 where
  pub old_count : ℕ
  pub new_count : ℕ
  pub number : ℕ
  pub refused : ReadFailed (number_of r) old_count new_count old new (access_fault.Register number)
  pub untold : old.far ≡ None
  pub still_untold : new.far ≡ None

-- along the link, and at hart h of a told chip
pub record DidGet (h : ℕ) (r : TriggerRegister) (value : ℕ) (old new : Tells) : Type 0 where
  pub read : RegisterRead (number_of r) value old new
  pub got : WhereTold (RegisterReadAt h (number_of r) value) old.far new.far

pub record DidSet (h : ℕ) (r : TriggerRegister) (value : ℕ) (old new : Tells) : Type 0 where
  pub written : RegisterWritten (number_of r) value old new
  pub set_to : WhereTold (RegisterWrittenAt h (number_of r) value) old.far new.far

abbrev pub Transferred : ℕ → Transfer → Tells → Tells → Type 0
Transferred h (Transfer.Got r value) old new = DidGet h r value old new
Transferred h (Transfer.Lacked r) old new = DidLack h r old new
Transferred h (Transfer.Set r value) old new = DidSet h r value old new

-- just these transfers were made, in this order
pub data Made (h : ℕ) : Tells → List Transfer → Tells → Type 0 where
  nothing : {old : Tells} → Made h old [] old
  first : {old mid new : Tells} {t : Transfer} {ts : List Transfer} → Transferred h t old mid → Made h mid ts new → Made h old (t ∷ ts) new

-- a whole call: transfers as they may stand in it were made
pub record Did (Whole : List Transfer → Type 0) (h : ℕ) (old new : Tells) : Type 0 where
  pub transfers : List Transfer
  pub whole : Whole transfers
  pub made : Made h old transfers new

-- ---- a transfer that failed

pub data Attempt : Type 0 where
  Getting : (register : TriggerRegister) → Attempt
  Setting : (register : TriggerRegister) → (value : ℕ) → Attempt

-- the transfers so far, and this one, stand at the front of a whole call
abbrev pub Begins : (List Transfer → Type 0) → List Transfer → Attempt → Type 0
Begins Whole done (Attempt.Getting r) = (value : ℕ) × (rest : List Transfer) × Whole (done ++ Transfer.Got r value ∷ rest)
Begins Whole done (Attempt.Setting r value) = (rest : List Transfer) × Whole (done ++ Transfer.Set r value ∷ rest)

-- along the link, and at hart h of a told chip
pub record GetFailed (h : ℕ) (r : TriggerRegister) (old_count new_count : ℕ) (old new : Tells) (e : AccessFault) : Type 0 where
  pub read : ReadFailed (number_of r) old_count new_count old new e
  pub left : RegisterLeft false h (number_of r) old.far new.far e
  pub cut : IfCut (Leaves (LeftAside Unchanged h) old.far new.far) e

pub record SetFailed (h : ℕ) (r : TriggerRegister) (value old_count new_count : ℕ) (old new : Tells) (e : AccessFault) : Type 0 where
  pub written : WriteFailed (number_of r) value old_count new_count old new e
  pub left : RegisterLeft true h (number_of r) old.far new.far e
  pub cut : IfCut (Leaves (LeftAside (MaybeWritten (number_of r) value) h) old.far new.far) e

abbrev pub AttemptFailed : ℕ → Attempt → ℕ → ℕ → Tells → Tells → AccessFault → Type 0
AttemptFailed h (Attempt.Getting r) old_count new_count old new e = GetFailed h r old_count new_count old new e
AttemptFailed h (Attempt.Setting r value) old_count new_count old new e = SetFailed h r value old_count new_count old new e

-- behind transfers that were Ok one failed, with this fault
pub record FailedIn (Whole : List Transfer → Type 0) (h old_count new_count : ℕ) (old new : Tells) (e : AccessFault) : Type 0 where
  pub done : List Transfer
  pub attempt : Attempt
  pub begins : Begins Whole done attempt
  pub mid : Tells
  pub made : Made h old done mid
  pub failed : AttemptFailed h attempt old_count new_count mid new e
