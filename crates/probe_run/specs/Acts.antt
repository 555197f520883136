-- The calls that are made on a link, one after another, with what they answered: of the chip where it is told, and along what is to be heard where
-- that is told. It is this project's own word for a debugger's use of the debug module interface.
use Rattle.std.specs.Prelude.{◌≡◌, ◌++◌, ℕ, List, [], ◌∷◌, length, All, Option}
use Rattle.debug_model.specs.declared.dmi.DmiFault.{DmiFault}
use Rattle.debug_model.specs.declared.dmi_op.DmiOp.{DmiOp}
use Rattle.debug_model.specs.declared.dmi_op.DmiOp.TheVariants.{Read, Write}
use Rattle.debug_model.specs.Chip.{Chip}
use Rattle.debug_model.specs.Dmi.{Answers, DmiCause, DmiComing, IsOperation, NoneOperated, Operated, OperationCut, Passes, Shows}
use Rattle.debug_model.specs.Course.{Operation as ThePerformed}
use Rattle.debug_model.specs.Many.{AnswersAll, ManyCause, OperatedAll, OperationsCut, answer_of}
use Rattle.debug_model.specs.Scan.{WhereTold}
use Rattle.debug_model.specs.Told.{Far}
use Rattle.debug_model.specs.Transport.{dtmcs_seen, fresh_dtm}
use Rattle.debug_model.specs.TransportWords.{dtmcs_word}

-- what a link tells: its chip, and what is to be heard
pub record Tells : Type 0 where
  pub far : Option Far
  pub coming : Option DmiComing

abbrev pub tells : Option Far → Option DmiComing → Tells
tells far coming = record { far = far; coming = coming }

-- ---- calls that were Ok

pub data Act : Type 0 where
  Scanned : (value : ℕ) → Act  -- dtmcs was read as this
  Got : (address value : ℕ) → Act  -- a register of the module was read as this
  Put : (address value : ℕ) → Act  -- a register of the module was written

-- dtmcs of this chip is the same at any time
pub record ScannedAs (value : ℕ) (c : Chip) (new : Option Far) : Type 0 where
  pub none : NoneOperated c new
  pub value_is : value ≡ dtmcs_word (dtmcs_seen fresh_dtm)

abbrev pub chip_did : Act → Chip → Option Far → Type 0
chip_did (Scanned value) = ScannedAs value
chip_did (Got address value) = Operated (Read address) value
chip_did (Put address value) = Operated (Write address value) value

abbrev pub was_heard : Act → Option DmiComing → Option DmiComing → Type 0
was_heard (Scanned value) = Shows value
was_heard (Got address value) = Answers value
was_heard (Put address value) = Passes

pub record Does (act : Act) (old new : Tells) : Type 0 where
  pub told : WhereTold (chip_did act) old.far new.far
  pub heard : was_heard act old.coming new.coming

-- ---- several operations in one call

abbrev pub op_act : DmiOp → ℕ → Act
op_act (Read address) result = Got address result
op_act (Write address value) result = Put address value

abbrev pub act_of : ThePerformed → Act
act_of o = op_act o.op (answer_of o)

-- these operations, with these results
abbrev pub acts_of : List DmiOp → List ℕ → List Act
acts_of [] results = []
acts_of (op ∷ ops) [] = []
acts_of (op ∷ ops) (result ∷ results) = op_act op result ∷ acts_of ops results

pub record DoesTogether (ops : List DmiOp) (results : List ℕ) (old new : Tells) : Type 0 where
  pub small : All IsOperation ops
  pub told : WhereTold (OperatedAll ops results) old.far new.far
  pub heard : AnswersAll ops results old.coming new.coming

-- just these were done, in this order, each by a call of its own or some together in one, and each call was Ok
pub data Did (old : Tells) : List Act → Tells → Type 0 where
  nothing : Did old [] old
  further : (acts : List Act) (act : Act) (mid new : Tells) → Did old acts mid → Does act mid new → Did old (acts ++ act ∷ []) new
  together : (acts : List Act) (op : DmiOp) (ops : List DmiOp) (results : List ℕ) (mid new : Tells) → Did old acts mid → DoesTogether (op ∷ ops) results mid new
      → Did old (acts ++ acts_of (op ∷ ops) results) new

-- ---- a call that failed

pub data Attempt : Type 0 where
  Scan : Attempt  -- of dtmcs
  Operation : (op : DmiOp) → Attempt
  Several : (op : DmiOp) → (ops : List DmiOp) → Attempt  -- in one call

abbrev pub chip_cut : Attempt → Chip → Option Far → Type 0
chip_cut Scan = NoneOperated
chip_cut (Operation op) = OperationCut op
chip_cut (Several op ops) = OperationsCut (op ∷ ops)

-- by the counts of faults before and behind, the far end before and behind, and what was to be heard before
abbrev pub AttemptCause : Attempt → ℕ → ℕ → Option Far → Option Far → Option DmiComing → DmiFault → Type 0
AttemptCause Scan old new was told coming fault = DmiCause old new was told coming fault
AttemptCause (Operation op) old new was told coming fault = DmiCause old new was told coming fault
AttemptCause (Several op ops) old new was told coming fault = ManyCause (length (op ∷ ops)) old new was told coming fault

-- behind these calls, which were Ok, this one failed, for this reason
pub record Broke (acts : List Act) (failed : Attempt) (old_count new_count : ℕ) (old : Tells) (told : Option Far) (fault : DmiFault) : Type 0 where
  pub mid : Tells
  pub did : Did old acts mid
  pub cut : WhereTold (chip_cut failed) mid.far told
  pub cause : AttemptCause failed old_count new_count mid.far told mid.coming fault
