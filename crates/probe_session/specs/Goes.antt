-- How a session went: steps from one place of the plan to another, and where it broke off.
-- It is this project's own.
use Rattle.std.specs.Prelude.{◌≡◌, ◌≤◌, ◌++◌, ℕ, Bool, true, List, [], Option, if◌then◌else◌}
use Rattle.jt_base.specs.Faults.{Rises}
use Rattle.jt_base.specs.Sink.{GrewByPrefix, grown}
use Rattle.rv_model.specs.declared.size.Size.{Size}
use Rattle.debug_model.specs.declared.command.Path.{Path}
use Rattle.abstract_debugger.specs.Debugger.{Seen, State, going, halting, look, one, showing_mip}
use Rattle.abstract_debugger.specs.Laws.{Quiet}
use Rattle.abstract_debugger.specs.Lines.{Line, any_error, text_of, text_of_all}
use Rattle.abstract_debugger.specs.Plan.{Plan}
use Rattle.abstract_debugger.specs.Plan.Change.{EbreakHalts, WriteReg}
use Rattle.abstract_debugger.specs.Plan.Plan.{change, say}
use Rattle.abstract_debugger.specs.Ways.{Way}
use Rattle.probe_run.specs.Acts.{Tells}
use Rattle.probe_trig.specs.declared.change.Change.TheVariants.{Forget}
use Rattle.debug_model.specs.declared.slot_use.SlotUse.{SlotUse}
use Rattle.probe_trig.specs.Runs.{ArmsAny, ChangesAny, FreesAny, ReadsAny}
use Rattle.rv_model.specs.DebugRegisters.{dcsr_number}
use Rattle.rv_model.specs.Registers.{csr_read_only, pc_number}
use Rattle.probe_session.specs.declared.fault.Failure.{Failure}
use Rattle.probe_session.specs.declared.fault.Failure.TheVariants as failure
use Rattle.probe_session.specs.Calls.{AskFell, FoundStop, Gave, GiveFell, Got, HaltFell, IdcodeFell, IsOfHarts, LookFell, StepFell, StepFromFell, StepOverFell}
use Rattle.probe_session.specs.Calls.{PendingFell, ReadFell, ResumeFell, SlotsFell, StopFell, WriteFell}
use Rattle.probe_session.specs.BlockCalls.{BlockLoadFell, BlockStoreFell}
use Rattle.probe_session.specs.Blocks.{MayLoad, Stores}
use Rattle.probe_session.specs.Places.{Place, idle, may_say, place, ready, spot, still}
use Rattle.probe_session.specs.Steps.{Step, with_ebreakm}

-- from one place to another, with these lines said on the way
pub data Goes (from : Place) (old : Tells) : List Line → Place → Tells → Type 0 where
  start : Goes from old [] from old
  step : {said more : List Line} {mid to : Place} {between new : Tells} → Goes from old said mid between → Step mid between more to new
      → Goes from old (said ++ more) to new

-- the same, whatever follows in the plan
pub record Went {K : Type 0} (before after : K → Place) (said : List Line) (old new : Tells) : Type 0 where
  pub goes : (next : K) → Goes (before next) old said (after next) new

-- ---- where a session broke off

-- a call that reads registers of the halted hart, which the plan does not see by itself
pub data Passing (h : ℕ) (old new : Tells) : Type 0 where
  got : {number value : ℕ} → Got h number value old new → Passing h old new
  found : {pc cause : ℕ} → FoundStop h pc cause old new → Passing h old new

-- the call that this place asks for failed; a register but mip may be read at any place of a halted hart,
-- and the IDCODE at any place
pub data Fault : Place → ℕ → ℕ → Tells → Tells → Failure → Type 0 where
  idcode : {p : Place} {old_count new_count : ℕ} {old new : Tells} {f : Failure} → IdcodeFell old_count new_count old new f
      → Fault p old_count new_count old new f
  looking : {h old_count new_count : ℕ} (next : Seen → Plan) {old new : Tells} {f : Failure} → LookFell h old_count new_count old new f
      → Fault (idle (look h next)) old_count new_count old new f
  halt : {h old_count new_count : ℕ} (next : Plan) {old new : Tells} {f : Failure} → HaltFell h old_count new_count old new f
      → Fault (idle (halting h next)) old_count new_count old new f
  resuming : {h old_count new_count : ℕ} (next : Plan) {old new : Tells} {f : Failure} → ResumeFell h old_count new_count old new f
      → Fault (ready h (going h next)) old_count new_count old new f
  stepping_over : {h old_count new_count : ℕ} (stepped other : Plan) {old new : Tells} {f : Failure} → StepOverFell h old_count new_count old new f
      → Fault (still h (one h stepped other)) old_count new_count old new f
  stepping : {h old_count new_count : ℕ} (stepped other : Plan) {old new : Tells} {f : Failure} → StepFell h old_count new_count old new f
      → Fault (ready h (one h stepped other)) old_count new_count old new f
  stepping_from : {h word old_count new_count : ℕ} (stepped other : Plan) {before old new : Tells} {f : Failure} → Got h dcsr_number word before old
      → StepFromFell h word old_count new_count old new f
      → Fault (ready h (one h stepped other)) old_count new_count old new f
  asking : {h number old_count new_count : ℕ} {p : Plan} {old new : Tells} {f : Failure} → AskFell h number old_count new_count old new f
      → Fault (still h p) old_count new_count old new f
  asking_pending : {h old_count new_count : ℕ} (next : Plan) {old new : Tells} {f : Failure} → PendingFell h old_count new_count old new f
      → Fault (still h (showing_mip h next)) old_count new_count old new f
  reading : {h number old_count new_count : ℕ} {p : Plan} {old new : Tells} {f : Failure} → ReadFell h number old_count new_count old new f → IsOfHarts number
      → Fault (still h p) old_count new_count old new f
  giving : {h number value old_count new_count : ℕ} (refused next : Plan) {old new : Tells} {f : Failure}
      → GiveFell h number value old_count new_count old new f
      → Fault (still h (if csr_read_only number then refused else change (WriteReg h number value) next)) old_count new_count old new f
  writing : {h word old_count count new_count : ℕ} {on : Bool} (next : Plan) {old mid new : Tells} {f : Failure} → Got h dcsr_number word old mid
      → old_count ≤ count
      → WriteFell h dcsr_number (with_ebreakm on word) count new_count mid new f
      → Fault (still h (change (EbreakHalts h on) next)) old_count new_count old new f
  viewing : {h old_count new_count : ℕ} {p : Plan} {old new : Tells} {f : Failure} → SlotsFell ReadsAny h old_count new_count old new f
      → Fault (still h p) old_count new_count old new f
  arming : {h old_count new_count : ℕ} {p : Plan} {meant : SlotUse} {old new : Tells} {f : Failure} → SlotsFell (ArmsAny meant) h old_count new_count old new f
      → Fault (still h p) old_count new_count old new f
  freeing : {h slot old_count new_count : ℕ} {p : Plan} {old new : Tells} {f : Failure} → SlotsFell (FreesAny slot) h old_count new_count old new f
      → Fault (still h p) old_count new_count old new f
  forgetting : {h old_count new_count : ℕ} {p : Plan} {old new : Tells} {f : Failure} → SlotsFell (ChangesAny Forget) h old_count new_count old new f
      → Fault (still h p) old_count new_count old new f
  forgetting_behind : {h value old_count count new_count : ℕ} (refused next : Plan) {old mid new : Tells} {f : Failure} → Gave h pc_number value old mid
      → old_count ≤ count
      → SlotsFell (ChangesAny Forget) h count new_count mid new f
      → Fault (still h (if csr_read_only pc_number then refused else change (WriteReg h pc_number value) next)) old_count new_count old new f
  behind : {h old_count count new_count : ℕ} {p : Plan} {old mid new : Tells} {f : Failure} → Passing h old mid → old_count ≤ count
      → Fault (still h p) count new_count mid new f
      → Fault (still h p) old_count new_count old new f
  stopping : {h old_count new_count : ℕ} {p : Plan} {old new : Tells} {f : Failure} → StopFell h old_count new_count old new f
      → Fault (still h p) old_count new_count old new f
  loading_block : {path : Path} {way : Way} {h address count old_count new_count : ℕ} {size : Size} {p : Plan} {old new : Tells} {f : Failure}
      → MayLoad path size address count p → BlockLoadFell path way h size address count old_count new_count old new f
      → Fault (place way h p) old_count new_count old new f
  storing_block : {path : Path} {way : Way} {h address old_count new_count : ℕ} {size : Size} {values : List ℕ} {p to : Plan} {old new : Tells}
      {f : Failure} → Stores path size address values p to → BlockStoreFell path way h size address values old_count new_count old new f
      → Fault (place way h p) old_count new_count old new f

-- it went so far, and there a call failed
pub record Falls {K : Type 0} (before : K → Place) (said : List Line) (old_count new_count : ℕ) (old new : Tells) (f : Failure) : Type 0 where
  pub at : K → Place
  pub mid : Tells
  pub count : ℕ
  pub went : Went before at said old mid
  pub later : old_count ≤ count
  pub fault : (next : K) → Fault (at next) count new_count mid new f

-- ---- what follows a line

-- what may follow a command or a line: no change up to the next point, so that a session whose sink failed has left nothing undone
abbrev pub CalmNext : (State → Plan) → Type 0
CalmNext next = (s : State) → Quiet (next s)

-- what follows a whole script is its own end
abbrev pub Anyhow : Unit {0} → Type 0
Anyhow _ = Unit {0}

-- ---- with what was written of it

-- some lines were said and written, and maybe one of them is an error line
pub record Spoke {K : Type 0} (before after : K → Place) (wrong : Bool) (old new : Tells) (was is : Option (List ℕ)) : Type 0 where
  pub said : List Line
  pub went : Went before after said old new
  pub put : is ≡ grown (text_of_all said) was
  pub wrong_is : any_error said ≡ wrong

-- All lines that were said were written, and there a call failed. Or a line could not be written, behind which nothing is changed up to the next point,
-- where what follows the whole is as T says: at that line; or among those of a block, all of whose elements had been accessed in front of its lines.
pub data Fell {K : Type 0} (T : K → Type 0) (before : K
    → Place) (old_count new_count : ℕ) (old new : Tells) (sink_old sink_new : ℕ) (was is : Option (List ℕ)) : Failure → Type 0 where
  in_call : {f : Failure} (said : List Line) → Falls before said old_count new_count old new f → is ≡ grown (text_of_all said) was
      → Fell T before old_count new_count old new sink_old sink_new was is f
  at_line : (said : List Line) (line : Line) (heard : Bool) (way : Way) (h : ℕ) (next : K → Plan) → may_say heard line ≡ true
      → ((k : K) → T k → Quiet (next k)) → Went before (λ k. spot heard way h (say line (next k))) said old new
      → GrewByPrefix (text_of line) (grown (text_of_all said) was) is → Rises sink_old sink_new
      → Fell T before old_count new_count old new sink_old sink_new was is failure.Sink
  among_lines : (said ahead : List Line) (way : Way) (h : ℕ) (next : K → Plan) → ((k : K) → T k → Quiet (next k))
      → Went before (λ k. place way h (next k)) (said ++ ahead) old new → GrewByPrefix (text_of_all ahead) (grown (text_of_all said) was) is
      → Rises sink_old sink_new
      → Fell T before old_count new_count old new sink_old sink_new was is failure.Sink
