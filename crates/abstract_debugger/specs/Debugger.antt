-- The abstract debugger: what each command of a script does, as a plan, with the hart and the path that are then selected.
-- It is this project's own (docs/SCRIPT.md). Behind a Look at a halted hart its registers and slots are read and written at once.
use Rattle.std.specs.Prelude.{ℕ, zero, suc, ◌+◌, ◌&&◌, Bool, true, false, List, [], ◌∷◌, ◌++◌, length, map, Option, Some, None, Result, Ok, Err, ⊤, unwrap_or}
use Rattle.std.specs.Prelude.{slice_get, if◌then◌else◌, ◌==◌}
use Rattle.std.specs.List.{range_with_len}
use Rattle.rv_model.specs.declared.cause.Cause.{Cause}
use Rattle.rv_model.specs.declared.cause.Cause.TheVariants as cause
use Rattle.rv_model.specs.declared.mem_fault.MemFault.{MemFault}
use Rattle.rv_model.specs.declared.size.Size.{Size}
use Rattle.rv_model.specs.declared.size.Size.TheVariants.{B1}
use Rattle.rv_model.specs.declared.slot.Slot.{Slot}
use Rattle.rv_model.specs.declared.version.Version.{Version}
use Rattle.rv_model.specs.Board.{Board, Hart}
use Rattle.rv_model.specs.Memory.{Memory, is_aligned, loaded, store_answer}
use Rattle.rv_model.specs.Registers.{csr_read_only, first_x_number, mip_number, mip_value, pc_number, reg_value}
use Rattle.rv_model.specs.Size.{count_of}
use Rattle.debug_model.specs.declared.command.Command.{Command}
use Rattle.debug_model.specs.declared.command.Command.TheVariants as command
use Rattle.debug_model.specs.declared.command.Path.{Path}
use Rattle.debug_model.specs.declared.command.Path.TheVariants.{Progbuf, Bus}
use Rattle.debug_model.specs.declared.point.Point.TheVariants.{Look, HaltReq, HaltClear, ResumeReq, Access}
use Rattle.debug_model.specs.Tap.{idcode}
use Rattle.abstract_debugger.specs.Lines.{Line}
use Rattle.abstract_debugger.specs.Plan.{Plan, is_step}
use Rattle.abstract_debugger.specs.Plan.Change.{WriteReg, WriteMem, ArmSlot, FreeSlot, StepOver, StepDone, EbreakHalts}
use Rattle.abstract_debugger.specs.Plan.Plan.{take, on_path, see, change, say, stop}
use Rattle.abstract_debugger.specs.Plan.PlanEnd.{Done, NoHalt, NoAck}
use Rattle.abstract_debugger.specs.Slots.{any_hit, first_free, hits_of, is_free, slots_at, trigger_has_hit, use_of}
use Rattle.abstract_debugger.specs.Slots.Use.{Armed, Unused}
use Rattle.abstract_debugger.specs.Trace.{What}
use Rattle.abstract_debugger.specs.Trace.What.{Break, Watch, Count}
use Rattle.rv_model.specs.Dcsr.{shown_cause}

-- what commands choose for those behind them
pub record State : Type 0 where
  pub hart : ℕ
  pub path : Path

-- ---- Looks

-- what a Look of a hart sees: whether it is there, whether it is halted, and its resume ack
pub data Seen : Type 0 where
  Absent : Seen
  Running : (ack : Bool) → Seen
  Halted : (ack : Bool) → Seen

abbrev pub seen_by : Option Cause → Bool → Seen
seen_by (Some why) ack = Halted ack
seen_by None ack = Running ack

abbrev pub seen_here : Option Hart → Seen
seen_here (Some hart) = seen_by hart.debug.halted hart.debug.resume_ack
seen_here None = Absent

abbrev pub seen_at : ℕ → Board → Seen
seen_at h b = seen_here (slice_get b.harts h)

abbrev pub sees_halted : Seen → Bool
sees_halted Absent = false
sees_halted (Running ack) = false
sees_halted (Halted ack) = true

abbrev pub sees_ack : Seen → Bool
sees_ack Absent = false
sees_ack (Running ack) = ack
sees_ack (Halted ack) = ack

-- the hart has gone, and has halted again
abbrev pub sees_both : Seen → Bool
sees_both s = sees_ack s && sees_halted s

abbrev pub by_state : (absent running halted : Plan) → Seen → Plan
by_state absent running halted Absent = absent
by_state absent running halted (Running ack) = running
by_state absent running halted (Halted ack) = halted

abbrev pub look : ℕ → (Seen → Plan) → Plan
look h next = take (Look h) (see (λ b. next (seen_at h b)))

-- the Looks that a debugger takes where it waits for a hart
abbrev pub most_looks : ℕ
most_looks = 64

-- Looks of hart h until one passes the test, at most so many; `last` is what the last one saw
unfoldable pub until : ℕ → ℕ → (test : Seen → Bool) → (failed : Seen → Plan) → (found : Plan) → (last : Seen) → Plan
until zero h test failed found last = failed last
until (suc n) h test failed found last = look h (λ s. if test s then found else until n h test failed found s)

-- what is taken for the last Look before the first
abbrev pub unseen : Seen
unseen = Absent

-- a command for a halted hart: a Look of it, and an error line where it sees another
abbrev pub at_halted : ℕ → (next body : Plan) → Plan
at_halted h next body = look h (by_state (say (Line.NoHart h) next) (say (Line.IsRunning h) next) body)

-- ---- the stop line

-- the slots with a hit are shown beside the cause trigger alone
abbrev pub shown_hits : Option Cause → List Slot → List Bool
shown_hits (Some cause.Trigger) slots = hits_of slots
shown_hits (Some cause.Ebreak) slots = []
shown_hits (Some cause.HaltReq) slots = []
shown_hits (Some cause.Step) slots = []
shown_hits (Some cause.Reset) slots = []
shown_hits None slots = []

abbrev pub stop_line_of : Option Hart → Line
stop_line_of (Some hart) = Line.Halted hart.core.pc (shown_cause hart.debug.halted) (shown_hits hart.debug.halted hart.debug.slots)
stop_line_of None = Line.Halted 0 0 []

abbrev pub stop_line : ℕ → (next : Plan) → Plan
stop_line h next = see (λ b. say (stop_line_of (slice_get b.harts h)) next)

-- ---- run control

abbrev pub halting : ℕ → (next : Plan) → Plan
halting h next = take (HaltReq h) (until most_looks h sees_halted (λ s. stop (NoHalt most_looks)) (take (HaltClear h) next) unseen)

-- lets hart h go
abbrev pub going : ℕ → (next : Plan) → Plan
going h next = take (ResumeReq h) (until most_looks h sees_ack (λ s. stop (NoAck most_looks)) next unseen)

-- after the last Look of a step
abbrev pub lost_step : Seen → Plan
lost_step s = if sees_ack s then stop (NoHalt most_looks) else stop (NoAck most_looks)

abbrev pub halted_of : Option Hart → Option Cause
halted_of (Some hart) = hart.debug.halted
halted_of None = None

-- one single step of the halted hart h with its slots that have a hit off; then `stepped` where it was a whole one, else `other`
abbrev pub one : ℕ → (stepped other : Plan) → Plan
one h stepped other =
    change (StepOver h) (take (ResumeReq h) (until most_looks h sees_both lost_step
    (change (StepDone h) (see (λ b. if is_step (halted_of (slice_get b.harts h)) then stepped else other))) unseen))

-- up to so many single steps; it ends behind one that stopped for another cause
unfoldable pub stepping : ℕ → ℕ → (next : Plan) → Plan
stepping zero h next = next
stepping (suc k) h next = one h (stepping k h next) next

-- Looks of hart h until one does not see it running, at most so many
unfoldable pub waiting : ℕ → ℕ → (absent running halted : Plan) → Plan
waiting zero h absent running halted = running
waiting (suc n) h absent running halted = look h (by_state absent (waiting n h absent running halted) halted)

-- ---- registers

abbrev pub value_here : Option Hart → ℕ → ℕ
value_here (Some hart) r = unwrap_or (reg_value hart.core r) 0
value_here None r = 0

abbrev pub register_line : ℕ → Board → ℕ → Line
register_line h b r = Line.Register r (value_here (slice_get b.harts h) r)

-- mip is told by memory, which other harts change: what it holds is that of the board which an access of its own meets
abbrev pub mip_here : Option Hart → Memory → ℕ
mip_here (Some hart) m = mip_value hart.core m
mip_here None m = 0

abbrev pub mip_line : ℕ → Board → Line
mip_line h b = Line.Register mip_number (mip_here (slice_get b.harts h) b.memory)

abbrev pub showing_mip : ℕ → (next : Plan) → Plan
showing_mip h next = take Access (see (λ b. say (mip_line h b) next))

-- each other register is shown as the last point left it
abbrev pub showing : ℕ → ℕ → (next : Plan) → Plan
showing h r next = if r == mip_number then showing_mip h next else see (λ b. say (register_line h b r) next)

abbrev pub saying : List Line → (next : Plan) → Plan
saying [] next = next
saying (l ∷ lines) next = say l (saying lines next)

-- pc, and x1 to x31
abbrev pub shown_registers : List ℕ
shown_registers = pc_number ∷ range_with_len (first_x_number + 1) 31

-- ---- memory

-- on the path by the program buffer memory is reached by a halted hart; the system bus needs no hart
abbrev pub by_path : Path → (halted free : Plan) → Plan
by_path Progbuf halted free = halted
by_path Bus halted free = free

abbrev pub at_path : State → (next body : Plan) → Plan
at_path s next body = by_path s.path (at_halted s.hart next body) body

abbrev pub at_aligned : ℕ → Size → (next body : Plan) → Plan
at_aligned a size next body = if is_aligned a size then body else say (Line.MemoryFault a) next

abbrev pub by_load : Result ℕ MemFault → (faulted : Plan) → (read : ℕ → Plan) → Plan
by_load (Ok v) faulted read = read v
by_load (Err fault) faulted read = faulted

abbrev pub by_store : Result ⊤ MemFault → (faulted stored : Plan) → Plan
by_store (Ok _) faulted stored = stored
by_store (Err fault) faulted stored = faulted

-- an access on a path, and what follows by the board that it met
abbrev pub access : Path → (next : Board → Plan) → Plan
access path next = on_path path (take Access (see next))

-- so many elements from an address on
unfoldable pub reading : Path → ℕ → Size → ℕ → (next : Plan) → Plan
reading path zero size a next = next
reading path (suc n) size a next = access path (λ b. by_load (loaded b.memory a size) (say (Line.MemoryFault a) next)
    (λ v. say (Line.Element a size v) (reading path n size (a + count_of size) next)))

-- a value stored so many times from an address on; what lies outside memory is refused, and nothing is written
unfoldable pub writing : Path → ℕ → Size → ℕ → ℕ → (next written : Plan) → Plan
writing path zero size a v next written = written
writing path (suc n) size a v next written = access path (λ b. by_store (store_answer b.memory a size) (say (Line.MemoryFault a) next)
    (change (WriteMem a (count_of size) v) (writing path n size (a + count_of size) v next written)))

abbrev pub row_bytes : ℕ
row_bytes = 16

-- the bytes that are read and not yet said, where there are any
abbrev pub saying_row : ℕ → List ℕ → (next : Plan) → Plan
saying_row first [] next = next
saying_row first (byte ∷ bytes) next = say (Line.Row first (byte ∷ bytes)) next

-- so many bytes, sixteen to a row, behind those of the row that begins at `first`
unfoldable pub dumping : Path → ℕ → ℕ → List ℕ → (next : Plan) → Plan
dumping path zero first bytes next = saying_row first bytes next
dumping path (suc n) first bytes next =
    access path (λ b. by_load (loaded b.memory (first + length bytes) B1)
    (saying_row first bytes (say (Line.MemoryFault (first + length bytes)) next))
    (λ v. if length bytes + 1 == row_bytes
    then say (Line.Row first (bytes ++ v ∷ [])) (dumping path n (first + row_bytes) [] next)
    else dumping path n first (bytes ++ v ∷ []) next))

-- ---- slots

abbrev pub arming_at : Option ℕ → ℕ → What → (next : Plan) → Plan
arming_at (Some slot) h what next = change (ArmSlot h slot what) (say (Line.Slot slot (Armed what) false) next)
arming_at None h what next = say Line.NoFreeSlot next

-- the lowest free slot of hart h
abbrev pub arming : ℕ → What → (next : Plan) → Plan
arming h what next = see (λ b. arming_at (first_free (slots_at h b)) h what next)

abbrev pub is_free_slot : Option Slot → Bool
is_free_slot (Some s) = is_free s.trigger
is_free_slot None = true

abbrev pub freeing : ℕ → ℕ → (next : Plan) → Plan
freeing h slot next =
    see (λ b. if is_free_slot (slice_get (slots_at h b) slot) then say (Line.SlotNotInUse slot) next
    else change (FreeSlot h slot) (say (Line.Slot slot Unused false) next))

-- a line for each slot of a chip of a release, from the number of the first one on
abbrev pub slot_lines : Version → ℕ → List Slot → List Line
slot_lines version first [] = []
slot_lines version first (s ∷ slots) = Line.Slot first (use_of version s) (trigger_has_hit s.trigger) ∷ slot_lines version (suc first) slots

abbrev pub slots_shown_of : Option Hart → List Line
slots_shown_of (Some hart) = slot_lines hart.debug.version 0 hart.debug.slots
slots_shown_of None = []

-- the lines of the slots of hart h
abbrev pub slots_shown_at : ℕ → Board → List Line
slots_shown_at h b = slots_shown_of (slice_get b.harts h)

-- ---- the commands

abbrev pub selecting : ℕ → State → (next : State → Plan) → Plan
selecting n s next = say (Line.Selected n) (next (record s { hart = n }))

-- a command in a state; `next` is what follows, by the state behind it
abbrev pub act : Command → State → (next : State → Plan) → Plan
act command.Idcode s next = say (Line.Idcode idcode) (next s)
act (command.Hart n) s next = look n (by_state (say (Line.NoHart n) (next s)) (selecting n s next) (selecting n s next))
act command.State s next = look s.hart (by_state (say (Line.NoHart s.hart) (next s)) (say Line.Running (next s)) (stop_line s.hart (next s)))
act command.Halt s next =
    look s.hart (by_state (say (Line.NoHart s.hart) (next s)) (halting s.hart (stop_line s.hart (next s))) (stop_line s.hart (next s)))
act command.Resume s next =
    at_halted s.hart (next s) (see (λ b. if any_hit (slots_at s.hart b)
    then one s.hart (going s.hart (say Line.Resumed (next s))) (stop_line s.hart (next s))
    else going s.hart (say Line.Resumed (next s))))
act (command.Step k) s next = at_halted s.hart (next s) (stepping k s.hart (stop_line s.hart (next s)))
act (command.Wait k) s next = waiting k s.hart (say (Line.NoHart s.hart) (next s)) (say Line.Running (next s)) (stop_line s.hart (next s))
act command.Regs s next = at_halted s.hart (next s) (see (λ b. saying (map (register_line s.hart b) shown_registers) (next s)))
act (command.Reg r) s next = at_halted s.hart (next s) (showing s.hart r.0 (next s))
act (command.SetReg r v) s next =
    at_halted s.hart (next s) (if csr_read_only r.0 then say (Line.RegisterRefused r.0) (next s)
    else change (WriteReg s.hart r.0 v) (showing s.hart r.0 (next s)))
act (command.Read size a count) s next = at_path s (next s) (at_aligned a size (next s) (reading s.path count size a (next s)))
act (command.Write size a v count) s next =
    at_path s (next s) (at_aligned a size (next s) (writing s.path count size a v (next s) (say (Line.Wrote count) (next s))))
act (command.Dump a count) s next = at_path s (next s) (dumping s.path count a [] (next s))
act (command.Via path) s next = say (Line.Via path) (next (record s { path = path }))
act (command.Break a) s next = at_halted s.hart (next s) (arming s.hart (Break a) (next s))
act (command.Watch kind a) s next = at_halted s.hart (next s) (arming s.hart (Watch kind a) (next s))
act (command.Count turns) s next = at_halted s.hart (next s) (arming s.hart (Count turns) (next s))
act (command.Clear slot) s next = at_halted s.hart (next s) (freeing s.hart slot (next s))
act command.Slots s next = at_halted s.hart (next s) (see (λ b. saying (slots_shown_at s.hart b) (next s)))
act (command.Ebreak is_on) s next = at_halted s.hart (next s) (change (EbreakHalts s.hart is_on) (say (Line.Ebreak is_on) (next s)))
act command.End s next = stop Done

abbrev pub commands : List Command → State → Plan
commands [] s = stop Done
commands (c ∷ cs) s = act c s (commands cs)

-- hart 0 and the program buffer
abbrev pub first_state : State
first_state = record { hart = 0; path = Progbuf }

-- the opening takes one Look, of hart 0
abbrev pub session : List Command → Plan
session script = look 0 (λ seen. commands script first_state)
