-- What a TAP was asked for by calls on scans, one after another; and what each call on a transport asks for.
-- RISC-V Debug Specification 1.0, "JTAG DTM Registers", "DTM Control and Status" (dmireset) and "Debug Module Interface Access": an operation is carried until
-- a scan does not find the transport busy, the next scan shows its result, and behind each busy answer the status is cleared.
use Rattle.std.specs.Prelude.{◌≡◌, ◌++◌, ℕ, zero, suc, ◌+◌, ◌≤◌, List, [], ◌∷◌, Bool, true, false, ◌&&◌, nat_le, if◌then◌else◌, Option, Some, None}
use Rattle.jt_base.specs.BitList.{bits_of}
use Rattle.debug_model.specs.declared.asked.Asked.{Asked}
use Rattle.debug_model.specs.declared.asked.Asked.TheVariants.{Reset, Select, Shift, Idle}
use Rattle.debug_model.specs.declared.dmi_op.DmiOp.{DmiOp}
use Rattle.debug_model.specs.declared.dmi_op.DmiOp.TheVariants.{Read, Write}
use Rattle.debug_model.specs.declared.dmi_scan.DmiScan.{DmiScan}
use Rattle.debug_model.specs.Port.{dmi_code, dtmcs_code}
use Rattle.debug_model.specs.Scan.{idle_most}
use Rattle.debug_model.specs.Transport.{dtmcs_width, idcode_width}
use Rattle.debug_model.specs.TransportWords.{dmi_word, dtmcs_of, dtmcs_word, op_nop, op_read, op_write}

-- these stand behind what was asked before, where that is told
abbrev pub and_asked : List Asked → Option (List Asked) → Option (List Asked)
and_asked more None = None
and_asked more (Some asked) = Some (asked ++ more)

-- ---- the bits of scans

-- of a scan that only reads
abbrev pub idcode_bits : List Bool
idcode_bits = bits_of idcode_width 0

-- dmireset and nothing else
abbrev pub reset_bits : List Bool
reset_bits = bits_of dtmcs_width (dtmcs_word (record { dtmhardreset = false; dmireset = true; idle = 0; dmistat = 0; abits = 0; version = 0 }))

-- of dmi with an address of so many bits
abbrev pub bits_of_dmi : ℕ → DmiScan → List Bool
bits_of_dmi abits s = bits_of (34 + abits) (dmi_word s)

-- ---- what an operation's scans carry

abbrev pub carrying : DmiOp → DmiScan
carrying (Read address) = record { address = address; value = 0; op = op_read }
carrying (Write address value) = record { address = address; value = value; op = op_write }

abbrev pub nop : DmiScan
nop = record { address = 0; value = 0; op = op_nop }

-- the operation until the transport has taken it, and then nothing
abbrev pub next_scan : DmiOp → Bool → DmiScan
next_scan op false = carrying op
next_scan op true = nop

-- the first of several that the transport has not taken, and behind the last of them nothing
abbrev pub first_scan : List DmiOp → DmiScan
first_scan [] = nop
first_scan (op ∷ ops) = carrying op

-- ---- one call on a transport

-- a link's first call resets the TAP
pub data BehindReset (P : List Asked → Type 0) : List Asked → Type 0 where
  stood : (acts : List Asked) → P acts → BehindReset P acts
  reset : (acts : List Asked) → P acts → BehindReset P (Reset ∷ acts)

abbrev pub idcode_acts : List Asked
idcode_acts = Reset ∷ Shift idcode_bits ∷ []

abbrev pub clearing : List Asked
clearing = Select dtmcs_code ∷ Shift reset_bits ∷ []

-- the status is cleared, and dmi selected again
abbrev pub clearing_again : List Asked
clearing_again = Select dtmcs_code ∷ Shift reset_bits ∷ Select dmi_code ∷ []

-- of an operation so far: how often the transport was found busy, and whether it has taken the operation
pub data Carried (abits : ℕ) (op : DmiOp) : ℕ → Bool → List Asked → Type 0 where
  selected : Carried abits op 0 false (Select dmi_code ∷ [])
  busy : (n : ℕ) (taken : Bool) (acts : List Asked) → Carried abits op n taken acts
      → Carried abits op (n + 1) taken (acts ++ (Shift (bits_of_dmi abits (next_scan op taken)) ∷ clearing_again))
  took : (n : ℕ) (acts : List Asked) → Carried abits op n false acts → Carried abits op n true (acts ++ (Shift (bits_of_dmi abits (carrying op)) ∷ []))

-- of one whose result came
pub record CarriedOut (op : DmiOp) (abits : ℕ) (acts : List Asked) : Type 0 where
  pub busy_answers : ℕ
  pub before : List Asked
  pub carried : BehindReset (Carried abits op busy_answers true) before
  pub is : acts ≡ before ++ (Shift (bits_of_dmi abits nop) ∷ [])

-- clocks before a scan, where there are any
abbrev pub idles : ℕ → List Asked
idles zero = []
idles (suc n) = Idle (suc n) ∷ []

-- of several so far: those that the transport has not taken
pub data Streams (abits : ℕ) (ops : List DmiOp) : List DmiOp → List Asked → Type 0 where
  chosen : Streams abits ops ops (Select dmi_code ∷ [])
  ignored : (rest : List DmiOp) (acts : List Asked) (clocks : ℕ) → clocks ≤ idle_most → Streams abits ops rest acts
      → Streams abits ops rest (acts ++ (idles clocks ++ (Shift (bits_of_dmi abits (first_scan rest)) ∷ clearing_again)))
  went : (op : DmiOp) (rest : List DmiOp) (acts : List Asked) (clocks : ℕ) → clocks ≤ idle_most → Streams abits ops (op ∷ rest) acts
      → Streams abits ops rest (acts ++ (idles clocks ++ (Shift (bits_of_dmi abits (carrying op)) ∷ [])))

-- of several whose last result came
pub record StreamedOut (ops : List DmiOp) (abits : ℕ) (acts : List Asked) : Type 0 where
  pub clocks : ℕ
  pub few : clocks ≤ idle_most
  pub before : List Asked
  pub streams : BehindReset (Streams abits ops []) before
  pub is : acts ≡ before ++ (idles clocks ++ (Shift (bits_of_dmi abits nop) ∷ []))

-- ---- where it is told what a link's scans were asked for

pub record Asking : Type 0 where
  pub acts : List Asked
  pub abits : ℕ  -- the bits of an address in the scans of dmi

-- the bits of an address behind a reading of dtmcs: those that were found, from 7 to 30
abbrev pub abits_behind : ℕ → ℕ → ℕ
abits_behind found old = if nat_le 7 found && nat_le found 30 then found else old

pub record AsksMore (P : ℕ → List Asked → Type 0) (old : Asking) (new : Option Asking) : Type 0 where
  pub acts : List Asked
  pub fits : P old.abits acts
  pub is : new ≡ Some (record { acts = old.acts ++ acts; abits = old.abits })

-- a call asked for these
abbrev pub Asks : (ℕ → List Asked → Type 0) → Option Asking → Option Asking → Type 0
Asks P None new = new ≡ None
Asks P (Some old) new = AsksMore P old new

abbrev pub AsksIdcode : Option Asking → Option Asking → Type 0
AsksIdcode = Asks (λ _ acts. acts ≡ idcode_acts)

pub record AsksWidth (word : ℕ) (old : Asking) (new : Option Asking) : Type 0 where
  pub acts : List Asked
  pub cleared : BehindReset (λ asked. asked ≡ clearing) acts
  pub is : new ≡ Some (record { acts = old.acts ++ acts; abits = abits_behind (dtmcs_of word).abits old.abits })

-- the status was cleared, and this word of dtmcs came, by whose address further operations go
abbrev pub AsksDtmcs : ℕ → Option Asking → Option Asking → Type 0
AsksDtmcs word None new = new ≡ None
AsksDtmcs word (Some old) new = AsksWidth word old new

abbrev pub AsksOperation : DmiOp → Option Asking → Option Asking → Type 0
AsksOperation op = Asks (CarriedOut op)

abbrev pub AsksOperations : List DmiOp → Option Asking → Option Asking → Type 0
AsksOperations ops = Asks (StreamedOut ops)
