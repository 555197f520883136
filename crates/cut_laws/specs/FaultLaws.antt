-- What a session leaves of a told chip wherever a call of it failed, by the constructors of `Goes.Fault`; of a command; and to the undebugged machine.
-- It is this project's own (docs/HEADLINE.md).
use Rattle.std.specs.Prelude.{◌≡◌, ℕ, List, Option, if◌then◌else◌}
use Rattle.rv_model.specs.Board.{Board, Machine, machine_of}
use Rattle.rv_model.specs.Registers.{csr_read_only, pc_number}
use Rattle.rv_model.specs.TurnLaws.{StepsUnmasked}
use Rattle.rv_model.specs.Undebugged.{undebugged}
use Rattle.debug_model.specs.declared.command.Command.{Command}
use Rattle.abstract_debugger.specs.Debugger.{State}
use Rattle.abstract_debugger.specs.Laws.{Quiet, WritesOnly}
use Rattle.abstract_debugger.specs.Lines.{Line}
use Rattle.abstract_debugger.specs.Own.{own}
use Rattle.abstract_debugger.specs.Plan.{Plan}
use Rattle.abstract_debugger.specs.Plan.Change.{EbreakHalts, WriteReg}
use Rattle.abstract_debugger.specs.Plan.Plan.{change}
use Rattle.abstract_debugger.specs.Stands.{Origin, Target}
use Rattle.abstract_debugger.specs.Transcript.{replay, start, trace}
use Rattle.probe_run.specs.Acts.{Tells}
use Rattle.probe_session.specs.declared.fault.Failure.{Failure}
use Rattle.probe_session.specs.Commands.{before}
use Rattle.probe_session.specs.Goes.{Falls, Fault}
use Rattle.probe_session.specs.Led.{DealsAt}
use Rattle.probe_session.specs.Places.{Place}
use Rattle.probe_session.specs.Steps.{behind_step}
use Rattle.left_laws.specs.Left.{Spared, wiped}
use Rattle.cut_laws.specs.Cut.{EndsBut, LeftLosing, LeftWhole}
use Rattle.cut_laws.specs.MemoryCutLaws.{LeftByPath, QuietLoads, QuietStores}
use Rattle.cut_laws.specs.RunCutLaws.{WritesSeen}

-- where this call failed the plan writes, up to its next point and behind the call's own points, no more than register n of the call's hart
abbrev pub WritesAt : Option ℕ → {p : Place} {old_count new_count : ℕ} {old new : Tells} {f : Failure} → Fault p old_count new_count old new f → Type 0
WritesAt n (Fault.idcode {p} fell) = Quiet p.plan
WritesAt n (Fault.looking {h} next fell) = WritesSeen h n next
WritesAt n (Fault.halt {h} next fell) = WritesOnly h n next
WritesAt n (Fault.resuming next fell) = Quiet next
WritesAt n (Fault.stepping_over {h} stepped other fell) = WritesOnly h n (behind_step h stepped other)
WritesAt n (Fault.stepping {h} stepped other fell) = WritesOnly h n (behind_step h stepped other)
WritesAt n (Fault.stepping_from {h} stepped other got fell) = WritesOnly h n (behind_step h stepped other)
WritesAt n (Fault.asking {h} {p = p} fell) = WritesOnly h n p
WritesAt n (Fault.asking_pending {h} next fell) = WritesOnly h n next
WritesAt n (Fault.reading {h} {p = p} fell of) = WritesOnly h n p
WritesAt n (Fault.giving {h} {number} {value} refused next fell) =
    WritesOnly h n (if csr_read_only number then refused else change (WriteReg h number value) next)
WritesAt n (Fault.writing {h} {on = on} next got later fell) = WritesOnly h n (change (EbreakHalts h on) next)
WritesAt n (Fault.viewing {h} {p = p} fell) = WritesOnly h n p
WritesAt n (Fault.arming {h} {p = p} fell) = WritesOnly h n p
WritesAt n (Fault.freeing {h} {p = p} fell) = WritesOnly h n p
WritesAt n (Fault.forgetting {h} {p = p} fell) = WritesOnly h n p
WritesAt n (Fault.forgetting_behind {h} {value} refused next gave later fell) =
    WritesOnly h n (if csr_read_only pc_number then refused else change (WriteReg h pc_number value) next)
WritesAt n (Fault.behind passed later fault) = WritesAt n fault
WritesAt n (Fault.stopping {h} {p = p} fell) = WritesOnly h n p
WritesAt n (Fault.loading_block may fell) = QuietLoads may
WritesAt n (Fault.storing_block stores fell) = QuietStores stores

-- and the chip is left so
abbrev pub LeftAt : Option ℕ → Origin → {p : Place} {old_count new_count : ℕ} {old new : Tells} {f : Failure} → Fault p old_count new_count old new f → Type 0
LeftAt n o (Fault.idcode {new = new} fell) = LeftWhole o new.far
LeftAt n o (Fault.looking {h} next {new = new} fell) = LeftLosing h n o new.far
LeftAt n o (Fault.halt {h} next {new = new} fell) = LeftLosing h n o new.far
LeftAt n o (Fault.resuming next {new = new} fell) = LeftWhole o new.far
LeftAt n o (Fault.stepping_over {h} stepped other {new = new} fell) = LeftLosing h n o new.far
LeftAt n o (Fault.stepping {h} stepped other {new = new} fell) = LeftLosing h n o new.far
LeftAt n o (Fault.stepping_from {h} stepped other {new = new} got fell) = LeftLosing h n o new.far
LeftAt n o (Fault.asking {h} {new = new} fell) = LeftLosing h n o new.far
LeftAt n o (Fault.asking_pending {h} next {new = new} fell) = LeftLosing h n o new.far
LeftAt n o (Fault.reading {h} {new = new} fell of) = LeftLosing h n o new.far
LeftAt n o (Fault.giving {h} refused next {new = new} fell) = LeftLosing h n o new.far
LeftAt n o (Fault.writing {h} next {new = new} got later fell) = LeftLosing h n o new.far
LeftAt n o (Fault.viewing {h} {new = new} fell) = LeftLosing h n o new.far
LeftAt n o (Fault.arming {h} {new = new} fell) = LeftLosing h n o new.far
LeftAt n o (Fault.freeing {h} {new = new} fell) = LeftLosing h n o new.far
LeftAt n o (Fault.forgetting {h} {new = new} fell) = LeftLosing h n o new.far
LeftAt n o (Fault.forgetting_behind {h} refused next {new = new} gave later fell) = LeftLosing h n o new.far
LeftAt n o (Fault.behind passed later fault) = LeftAt n o fault
LeftAt n o (Fault.stopping {h} {new = new} fell) = LeftLosing h n o new.far
LeftAt n o (Fault.loading_block {path} {h = h} {new = new} may fell) = LeftByPath path h o new.far
LeftAt n o (Fault.storing_block {path} {h = h} {new = new} stores fell) = LeftByPath path h o new.far

abbrev pub FaultsLeave : Type 0
FaultsLeave = (n : Option ℕ) (p : Place) (old_count new_count : ℕ) (old new : Tells) (f : Failure) (fault : Fault p old_count new_count old new f)
    → WritesAt n fault → (m : Machine) (o : Origin) (lines : List Line) → DealsAt m o p lines old.far → LeftAt n o fault

-- so a command that came so far is left so, whatever follows it
abbrev pub CommandsLeave : Type 0
CommandsLeave = (n : Option ℕ) (command : Command) (s : State) (said : List Line) (old_count new_count : ℕ) (old new : Tells) (f : Failure)
    (falls : Falls (before command s) said old_count new_count old new f) (next : State → Plan) → WritesAt n (falls.fault next)
    → (m : Machine) (o : Origin) (lines : List Line) → DealsAt m o (before command s next) lines old.far → LeftAt n o (falls.fault next)

-- ---- to a machine that nobody debugs

-- where a session began on a board, and was left so, the chip's machine is the undebugged run of the session's own entries, but for what is named
abbrev pub UndebuggedBut : Type 0
UndebuggedBut = (s : Spared) (plan : Plan) (board : Board) (t : Target) → StepsUnmasked board → EndsBut s (record { plan = plan; world = start board }) t
    → wiped s (machine_of t.board) ≡ wiped s (undebugged (machine_of board) (own (trace (replay plan (start board) t.journal))))
