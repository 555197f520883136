-- What a session leaves of a told chip where a call beside its plan failed: one that reads or writes a register of the halted hart, or its trigger slots.
-- Each law takes what a constructor of `Goes.Fault` says, at its place.
-- RISC-V Debug Specification 1.0, "Abstract Commands" and "Sdtrig (ISA Extension)".
use Rattle.std.specs.Prelude.{ℕ, List, Bool, Option, if◌then◌else◌}
use Rattle.rv_model.specs.Board.{Machine}
use Rattle.rv_model.specs.DebugRegisters.{dcsr_number}
use Rattle.rv_model.specs.Registers.{csr_read_only, pc_number}
use Rattle.abstract_debugger.specs.Laws.{Quiet, WritesOnly}
use Rattle.abstract_debugger.specs.Lines.{Line}
use Rattle.abstract_debugger.specs.Plan.{Plan}
use Rattle.abstract_debugger.specs.Plan.Change.{EbreakHalts, WriteReg}
use Rattle.abstract_debugger.specs.Plan.Plan.{change}
use Rattle.abstract_debugger.specs.Stands.{Origin}
use Rattle.probe_run.specs.Acts.{Tells}
use Rattle.debug_model.specs.declared.slot_use.SlotUse.{SlotUse}
use Rattle.probe_trig.specs.declared.change.Change.TheVariants.{Forget}
use Rattle.probe_trig.specs.Runs.{ArmsAny, ChangesAny, FreesAny, ReadsAny}
use Rattle.probe_trig.specs.Transfers.{Transfer}
use Rattle.probe_session.specs.declared.fault.Failure.{Failure}
use Rattle.probe_session.specs.Calls.{AskFell, Gave, GiveFell, IdcodeFell, IsOfHarts, ReadFell, SlotsFell, StopFell, WriteFell}
use Rattle.probe_session.specs.Led.{DealsAt}
use Rattle.probe_session.specs.Places.{Place, still}
use Rattle.probe_session.specs.Steps.{with_ebreakm}
use Rattle.cut_laws.specs.Cut.{LeftLosing, LeftWhole}

-- a session that dealt with hart h at this place leaves it so, where the plan writes there no more than register n of hart h up to its next point
abbrev pub Losing : ℕ → Option ℕ → Place → (old new : Tells) → Type 0
Losing h n p old new =
    (m : Machine) (o : Origin) (lines : List Line) → WritesOnly h n p.plan → DealsAt m o p lines old.far → LeftLosing h n o new.far

-- the IDCODE may be read anywhere, and nothing is lost where no change is left to be made
abbrev pub IdcodeCut : Type 0
IdcodeCut = (p : Place) (old_count new_count : ℕ) (old new : Tells) (f : Failure) → IdcodeFell old_count new_count old new f
    → (m : Machine) (o : Origin) (lines : List Line) → Quiet p.plan → DealsAt m o p lines old.far → LeftWhole o new.far

abbrev pub AskingCut : Type 0
AskingCut = (h number : ℕ) (n : Option ℕ) (p : Plan) (old_count new_count : ℕ) (old new : Tells) (f : Failure)
    → AskFell h number old_count new_count old new f → Losing h n (still h p) old new

abbrev pub ReadingCut : Type 0
ReadingCut = (h number : ℕ) (n : Option ℕ) (p : Plan) (old_count new_count : ℕ) (old new : Tells) (f : Failure)
    → ReadFell h number old_count new_count old new f → IsOfHarts number → Losing h n (still h p) old new

abbrev pub StoppingCut : Type 0
StoppingCut = (h : ℕ) (n : Option ℕ) (p : Plan) (old_count new_count : ℕ) (old new : Tells) (f : Failure)
    → StopFell h old_count new_count old new f → Losing h n (still h p) old new

-- a register is to be written, and the chip may have it written or not; one that is never written is lost by nobody
abbrev pub GivingCut : Type 0
GivingCut = (h number value : ℕ) (n : Option ℕ) (refused next : Plan) (old_count new_count : ℕ) (old new : Tells) (f : Failure)
    → GiveFell h number value old_count new_count old new f
    → Losing h n (still h (if csr_read_only number then refused else change (WriteReg h number value) next)) old new

-- dcsr is to be written, which no program sees
abbrev pub WritingCut : Type 0
WritingCut = (h word : ℕ) (on : Bool) (n : Option ℕ) (next : Plan) (old_count new_count : ℕ) (old new : Tells) (f : Failure)
    → WriteFell h dcsr_number (with_ebreakm on word) old_count new_count old new f → Losing h n (still h (change (EbreakHalts h on) next)) old new

-- of a call on slots that consists of such transfers
abbrev pub SlotsCutBy : (List Transfer → Type 0) → Type 0
SlotsCutBy Whole = (h : ℕ) (n : Option ℕ) (p : Plan) (old_count new_count : ℕ) (old new : Tells) (f : Failure)
    → SlotsFell Whole h old_count new_count old new f → Losing h n (still h p) old new

abbrev pub ViewingCut : Type 0
ViewingCut = SlotsCutBy ReadsAny

abbrev pub ArmingCut : Type 0
ArmingCut = (meant : SlotUse) → SlotsCutBy (ArmsAny meant)

abbrev pub FreeingCut : Type 0
FreeingCut = (slot : ℕ) → SlotsCutBy (FreesAny slot)

abbrev pub ForgettingCut : Type 0
ForgettingCut = SlotsCutBy (ChangesAny Forget)

-- pc was written, and the hits were to be forgotten
abbrev pub ForgettingBehindCut : Type 0
ForgettingBehindCut = (h value : ℕ) (n : Option ℕ) (refused next : Plan) (old_count new_count : ℕ) (old mid new : Tells) (f : Failure)
    → Gave h pc_number value old mid → SlotsFell (ChangesAny Forget) h old_count new_count mid new f
    → Losing h n (still h (if csr_read_only pc_number then refused else change (WriteReg h pc_number value) next)) old new
