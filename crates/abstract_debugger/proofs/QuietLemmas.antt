-- Behind a line nothing is changed up to the next point: where no line is written any more, the board is left to the turns.
use Rattle.std.proofs.Common.{◌≡◌, ◌+◌, ℕ, zero, suc, Bool, true, false, List, [], ◌∷◌, ◌++◌, length, map, Option, Some, None, Result, Ok, Err}
use Rattle.std.proofs.Common.{slice_get, refl, if◌then◌else◌}
use Rattle.std.specs.Prelude.{◌==◌}
use Rattle.rv_model.specs.declared.mem_fault.MemFault.{MemFault}
use Rattle.rv_model.specs.declared.size.Size.{Size}
use Rattle.rv_model.specs.declared.size.Size.TheVariants.{B1}
use Rattle.rv_model.specs.Board.{Board}
use Rattle.rv_model.specs.Memory.{is_aligned, loaded, store_answer}
use Rattle.rv_model.specs.Registers.{csr_read_only, mip_number}
use Rattle.rv_model.specs.Size.{count_of}
use Rattle.debug_model.specs.Tap.{idcode}
use Rattle.debug_model.specs.declared.command.Command.{Command}
use Rattle.debug_model.specs.declared.command.Command.TheVariants as command
use Rattle.debug_model.specs.declared.command.Path.{Path}
use Rattle.debug_model.specs.declared.command.Path.TheVariants.{Progbuf, Bus}
use Rattle.debug_model.specs.declared.point.Point.{Point}
use Rattle.debug_model.specs.declared.point.Point.TheVariants.{Turn, Look, HaltClear, ResumeReq, Access}
use Rattle.abstract_debugger.specs.Debugger.{Seen, State, access, act, arming, arming_at, at_aligned, at_halted, at_path, by_load, by_path, by_state}
use Rattle.abstract_debugger.specs.Debugger.{by_store, commands, dumping, first_state, freeing, going, halted_of, halting, is_free_slot, look}
use Rattle.abstract_debugger.specs.Debugger.{lost_step, most_looks, one, reading, register_line, row_bytes, saying, saying_row, seen_at, sees_ack}
use Rattle.abstract_debugger.specs.Debugger.{sees_both, sees_halted, shown_registers, slots_shown_at, stepping, stop_line, stop_line_of, unseen, until}
use Rattle.abstract_debugger.specs.Debugger.{mip_line, showing, showing_mip, waiting, writing}
use Rattle.abstract_debugger.specs.Debugger.Seen.{Absent, Running, Halted}
use Rattle.abstract_debugger.specs.Laws.{CommandsAreQuiet, Quiet, QuietBoards, SaysQuietly, SessionsSayQuietly}
use Rattle.abstract_debugger.specs.Lines.{Line}
use Rattle.abstract_debugger.specs.Plan.{Change, Plan, PlanEnd, is_step}
use Rattle.abstract_debugger.specs.Plan.Change.{WriteReg, WriteMem, ArmSlot, FreeSlot, StepOver, StepDone, EbreakHalts}
use Rattle.abstract_debugger.specs.Plan.Plan.{take, on_path, see, change, say, stop}
use Rattle.abstract_debugger.specs.Plan.PlanEnd.{Done, NoAck, NoHalt}
use Rattle.abstract_debugger.specs.Slots.{any_hit, first_free, slots_at}
use Rattle.abstract_debugger.specs.Slots.Use.{Armed, Unused}
use Rattle.abstract_debugger.specs.Trace.{What}
use Rattle.abstract_debugger.specs.Trace.What.{Break, Watch, Count}
use Rattle.abstract_debugger.specs.Transcript.{Outcome, World, finish, passed, replay, said, taking}
use Rattle.abstract_debugger.specs.Turns.{after_turns, turns}

-- ---- boards

pub taking-board : (p : Point) (next : World → List Point → Outcome) (w : World) (hs : List ℕ)
    → (taking p next w (turns hs)).world.board ≡ after_turns hs w.board
taking-board p next w [] = refl
taking-board p next w (h ∷ hs) = taking-board p next (passed (Turn h) w) hs

pub finish-board : (e : PlanEnd) (w : World) (hs : List ℕ) → (finish e w (turns hs)).world.board ≡ after_turns hs w.board
finish-board e w [] = refl
finish-board e w (h ∷ hs) = finish-board e (passed (Turn h) w) hs

pub quiet_boards : QuietBoards
unfolding replay
quiet_boards (take p next) w hs is = taking-board p (replay next) w hs
quiet_boards (on_path path next) w hs is = quiet_boards next w hs is
quiet_boards (see next) w hs is = quiet_boards (next w.board) w hs (is w.board)
quiet_boards (change c next) w hs is = absurd is
quiet_boards (say line next) w hs is = quiet_boards next (said line w) hs is
quiet_boards (stop e) w hs is = finish-board e w hs

-- ---- how plans are put together

-- what follows each of its lines is quiet
pub record Says (p : Plan) : Type 0 where
  pub says : SaysQuietly p

-- and it is quiet itself
pub record Calm (p : Plan) : Type 0 where
  pub quiet : Quiet p
  pub says : SaysQuietly p

pub says_of : (p : Plan) → Calm p → Says p
says_of p c = record { says = c.says }

pub calm-take : (q : Point) (next : Plan) → Says next → Calm (take q next)
calm-take q next s = record { quiet = tt; says = s.says }

pub says-take : (q : Point) (next : Plan) → Says next → Says (take q next)
says-take q next s = record { says = s.says }

calm-on_path : (path : Path) (next : Plan) → Calm next → Calm (on_path path next)
calm-on_path path next c = record { quiet = c.quiet; says = c.says }

pub says-see : (next : Board → Plan) → ((b : Board) → Says (next b)) → Says (see next)
says-see next s = record { says = λ b. (s b).says }

pub says-change : (c : Change) (next : Plan) → Says next → Says (change c next)
says-change c next s = record { says = s.says }

pub calm-say : (line : Line) (next : Plan) → Calm next → Calm (say line next)
calm-say line next c = record { quiet = c.quiet; says = (c.quiet, c.says) }

pub says-say : (line : Line) (next : Plan) → Calm next → Says (say line next)
says-say line next c = record { says = (c.quiet, c.says) }

pub calm-stop : (e : PlanEnd) → Calm (stop e)
calm-stop e = record { quiet = tt; says = tt }

pub says-if : (b : Bool) (p q : Plan) → Says p → Says q → Says (if b then p else q)
says-if true p q sp sq = sp
says-if false p q sp sq = sq

pub calm-if : (b : Bool) (p q : Plan) → Calm p → Calm q → Calm (if b then p else q)
calm-if true p q cp cq = cp
calm-if false p q cp cq = cq

-- ---- Looks

pub calm-look : (h : ℕ) (next : Seen → Plan) → ((s : Seen) → Says (next s)) → Calm (look h next)
calm-look h next s = calm-take (Look h) (see (λ b. next (seen_at h b))) (says-see (λ b. next (seen_at h b)) (λ b. s (seen_at h b)))

says-by_state : (absent running halted : Plan) → Says absent → Says running → Says halted → (s : Seen) → Says (by_state absent running halted s)
says-by_state absent running halted sa sr sh Absent = sa
says-by_state absent running halted sa sr sh (Running ack) = sr
says-by_state absent running halted sa sr sh (Halted ack) = sh

pub calm-look_by : (h : ℕ) (absent running halted : Plan) → Says absent → Says running → Says halted → Calm (look h (by_state absent running halted))
calm-look_by h absent running halted sa sr sh = calm-look h (by_state absent running halted) (says-by_state absent running halted sa sr sh)

calm-until : (n h : ℕ) (test : Seen → Bool) (failed : Seen → Plan) (found : Plan) (last : Seen) → ((s : Seen) → Calm (failed s)) → Says found
    → Calm (until n h test failed found last)
unfolding until
calm-until zero h test failed found last cf s = cf last
calm-until (suc n) h test failed found last cf s =
    calm-look h (λ t. if test t then found else until n h test failed found t)
    (λ t. says-if (test t) found (until n h test failed found t) s (says_of (until n h test failed found t) (calm-until n h test failed found t cf s)))

calm-waiting : (n h : ℕ) (absent running halted : Plan) → Says absent → Calm running → Says halted → Calm (waiting n h absent running halted)
unfolding waiting
calm-waiting zero h absent running halted sa cr sh = cr
calm-waiting (suc n) h absent running halted sa cr sh =
    calm-look_by h absent (waiting n h absent running halted) halted sa (says_of (waiting n h absent running halted)
    (calm-waiting n h absent running halted sa cr sh)) sh

pub calm-halted : (h : ℕ) (next body : Plan) → Calm next → Says body → Calm (at_halted h next body)
calm-halted h next body c s =
    calm-look_by h (say (Line.NoHart h) next) (say (Line.IsRunning h) next) body (says-say (Line.NoHart h) next c) (says-say (Line.IsRunning h) next c) s

-- ---- run control

pub says-stop_line : (h : ℕ) (next : Plan) → Calm next → Says (stop_line h next)
says-stop_line h next c = says-see (λ b. say (stop_line_of (slice_get b.harts h)) next) (λ b. says-say (stop_line_of (slice_get b.harts h)) next c)

says-halting : (h : ℕ) (next : Plan) → Says next → Says (halting h next)
says-halting h next s =
    says-take _ _ (says_of _ (calm-until most_looks h sees_halted (λ t. stop (NoHalt most_looks)) (take (HaltClear h) next) unseen
    (λ t. calm-stop (NoHalt most_looks)) (says-take (HaltClear h) next s)))

pub says-going : (h : ℕ) (next : Plan) → Says next → Says (going h next)
says-going h next s = says-take _ _ (says_of _ (calm-until most_looks h sees_ack (λ t. stop (NoAck most_looks)) next unseen
    (λ t. calm-stop (NoAck most_looks)) s))

pub says-one : (h : ℕ) (stepped other : Plan) → Says stepped → Says other → Says (one h stepped other)
says-one h stepped other ss so =
    says-change (StepOver h) _ (says-take (ResumeReq h) _ (says_of _ (calm-until most_looks h sees_both lost_step
    (change (StepDone h) (see (λ b. if is_step (halted_of (slice_get b.harts h)) then stepped else other))) unseen
    (λ t. calm-if (sees_ack t) (stop (NoHalt most_looks)) (stop (NoAck most_looks)) (calm-stop (NoHalt most_looks)) (calm-stop (NoAck most_looks)))
    (says-change (StepDone h) _ (says-see (λ b. if is_step (halted_of (slice_get b.harts h)) then stepped else other)
    (λ b. says-if (is_step (halted_of (slice_get b.harts h))) stepped other ss so))))))

says-stepping : (k h : ℕ) (next : Plan) → Says next → Says (stepping k h next)
unfolding stepping
says-stepping zero h next s = s
says-stepping (suc k) h next s = says-one h (stepping k h next) next (says-stepping k h next s) s

-- ---- lines and accesses

calm-access : (path : Path) (next : Board → Plan) → ((b : Board) → Says (next b)) → Calm (access path next)
calm-access path next s = calm-on_path path (take Access (see next)) (calm-take Access (see next) (says-see next s))

says-saying : (lines : List Line) (next : Plan) → Calm next → Calm (saying lines next)
says-saying [] next c = c
says-saying (l ∷ lines) next c = calm-say l (saying lines next) (says-saying lines next c)

pub says-by_load : (r : Result ℕ MemFault) (faulted : Plan) (read : ℕ → Plan) → Says faulted → ((v : ℕ) → Says (read v)) → Says (by_load r faulted read)
says-by_load (Ok v) faulted read sf s = s v
says-by_load (Err fault) faulted read sf s = sf

calm-reading : (path : Path) (n : ℕ) (size : Size) (a : ℕ) (next : Plan) → Calm next → Calm (reading path n size a next)
unfolding reading
calm-reading path zero size a next c = c
calm-reading path (suc n) size a next c =
    calm-access path _ (λ b. says-by_load (loaded b.memory a size) (say (Line.MemoryFault a) next)
    (λ v. say (Line.Element a size v) (reading path n size (a + count_of size) next))
    (says-say (Line.MemoryFault a) next c) (λ v. says-say (Line.Element a size v) (reading path n size (a + count_of size) next)
    (calm-reading path n size (a + count_of size) next c)))

says-by_store : (r : Result _ MemFault) (faulted stored : Plan) → Says faulted → Says stored → Says (by_store r faulted stored)
says-by_store (Ok _) faulted stored sf s = s
says-by_store (Err fault) faulted stored sf s = sf

calm-writing : (path : Path) (n : ℕ) (size : Size) (a v : ℕ) (next written : Plan) → Calm next → Calm written → Calm (writing path n size a v next written)
unfolding writing
calm-writing path zero size a v next written c cw = cw
calm-writing path (suc n) size a v next written c cw =
    calm-access path _ (λ b. says-by_store (store_answer b.memory a size) (say (Line.MemoryFault a) next)
    (change (WriteMem a (count_of size) v) (writing path n size (a + count_of size) v next written))
    (says-say (Line.MemoryFault a) next c) (says-change (WriteMem a (count_of size) v) (writing path n size (a + count_of size) v next written)
    (says_of (writing path n size (a + count_of size) v next written) (calm-writing path n size (a + count_of size) v next written c cw))))

calm-row : (first : ℕ) (bytes : List ℕ) (next : Plan) → Calm next → Calm (saying_row first bytes next)
calm-row first [] next c = c
calm-row first (byte ∷ bytes) next c = calm-say (Line.Row first (byte ∷ bytes)) next c

calm-dumping : (path : Path) (n first : ℕ) (bytes : List ℕ) (next : Plan) → Calm next → Calm (dumping path n first bytes next)
unfolding dumping
calm-dumping path zero first bytes next c = calm-row first bytes next c
calm-dumping path (suc n) first bytes next c =
    calm-access path _ (λ b. says-by_load (loaded b.memory (first + length bytes) B1)
    (saying_row first bytes (say (Line.MemoryFault (first + length bytes)) next))
    (λ v. if length bytes + 1 == row_bytes then say (Line.Row first (bytes ++ v ∷ [])) (dumping path n (first + row_bytes) [] next) else dumping path n first
    (bytes ++ v ∷ []) next)
    (says_of _ (calm-row first bytes (say (Line.MemoryFault (first + length bytes)) next) (calm-say (Line.MemoryFault (first + length bytes)) next c)))
    (λ v. says-if (length bytes + 1 == row_bytes) (say (Line.Row first (bytes ++ v ∷ [])) (dumping path n (first + row_bytes) [] next))
    (dumping path n first (bytes ++ v ∷ []) next)
    (says-say (Line.Row first (bytes ++ v ∷ [])) (dumping path n (first + row_bytes) [] next) (calm-dumping path n (first + row_bytes) [] next c))
    (says_of (dumping path n first (bytes ++ v ∷ []) next) (calm-dumping path n first (bytes ++ v ∷ []) next c))))

calm-path : (s : State) (next body : Plan) → Calm next → Calm body → Calm (at_path s next body)
calm-path s next body c cb = by s.path
  where
    by : (path : Path) → Calm (by_path path (at_halted s.hart next body) body)
    by Progbuf = calm-halted s.hart next body c (says_of body cb)
    by Bus = cb

calm-aligned : (a : ℕ) (size : Size) (next body : Plan) → Calm next → Calm body → Calm (at_aligned a size next body)
calm-aligned a size next body c cb = calm-if (is_aligned a size) body (say (Line.MemoryFault a) next) cb (calm-say (Line.MemoryFault a) next c)

-- ---- slots

says-arming_at : (o : Option ℕ) (h : ℕ) (what : What) (next : Plan) → Calm next → Says (arming_at o h what next)
says-arming_at (Some slot) h what next c = says-change (ArmSlot h slot what) (say (Line.Slot slot (Armed what) false) next)
    (says-say (Line.Slot slot (Armed what) false) next c)
says-arming_at None h what next c = says-say Line.NoFreeSlot next c

says-arming : (h : ℕ) (what : What) (next : Plan) → Calm next → Says (arming h what next)
says-arming h what next c = says-see (λ b. arming_at (first_free (slots_at h b)) h what next) (λ b. says-arming_at (first_free (slots_at h b)) h what next c)

says-freeing : (h slot : ℕ) (next : Plan) → Calm next → Says (freeing h slot next)
says-freeing h slot next c =
    says-see (λ b. if is_free_slot (slice_get (slots_at h b) slot) then say (Line.SlotNotInUse slot) next else change (FreeSlot h slot)
    (say (Line.Slot slot Unused false) next))
    (λ b. says-if (is_free_slot (slice_get (slots_at h b) slot)) (say (Line.SlotNotInUse slot) next)
    (change (FreeSlot h slot) (say (Line.Slot slot Unused false) next))
    (says-say (Line.SlotNotInUse slot) next c) (says-change (FreeSlot h slot) (say (Line.Slot slot Unused false) next)
    (says-say (Line.Slot slot Unused false) next c)))

says-seen : (lines : Board → List Line) (next : Plan) → Calm next → Says (see (λ b. saying (lines b) next))
says-seen lines next c = says-see (λ b. saying (lines b) next) (λ b. says_of (saying (lines b) next) (says-saying (lines b) next c))

says-showing : (h r : ℕ) (next : Plan) → Calm next → Says (showing h r next)
says-showing h r next c = says-if (r == mip_number) (showing_mip h next) (see (λ b. say (register_line h b r) next))
    (says-take Access (see (λ b. say (mip_line h b) next)) (says-seen (λ b. mip_line h b ∷ []) next c))
    (says-seen (λ b. register_line h b r ∷ []) next c)

pub says-resumed : (h : ℕ) (next : Plan) → Calm next → Says (going h (say Line.Resumed next))
says-resumed h next c = says-going h (say Line.Resumed next) (says-say Line.Resumed next c)

-- ---- the commands

pub act-calm : (c : Command) (s : State) (next : State → Plan) → ((t : State) → Calm (next t)) → Calm (act c s next)
act-calm command.Idcode s next f = calm-say (Line.Idcode idcode) (next s) (f s)
act-calm (command.Hart n) s next f =
    calm-look_by n (say (Line.NoHart n) (next s)) (say (Line.Selected n) (next (record s { hart = n }))) (say (Line.Selected n) (next (record s { hart = n })))
    (says-say (Line.NoHart n) (next s) (f s)) (says-say (Line.Selected n) (next (record s { hart = n })) (f (record s { hart = n })))
    (says-say (Line.Selected n) (next (record s { hart = n })) (f (record s { hart = n })))
act-calm command.State s next f =
    calm-look_by s.hart (say (Line.NoHart s.hart) (next s)) (say Line.Running (next s)) (stop_line s.hart (next s))
    (says-say (Line.NoHart s.hart) (next s) (f s)) (says-say Line.Running (next s) (f s)) (says-stop_line s.hart (next s) (f s))
act-calm command.Halt s next f =
    calm-look_by s.hart (say (Line.NoHart s.hart) (next s)) (halting s.hart (stop_line s.hart (next s))) (stop_line s.hart (next s))
    (says-say (Line.NoHart s.hart) (next s) (f s)) (says-halting s.hart (stop_line s.hart (next s)) (says-stop_line s.hart (next s) (f s)))
    (says-stop_line s.hart (next s) (f s))
act-calm command.Resume s next f = calm-halted s.hart (next s) _ (f s) (says-see _ (λ b.
    says-if (any_hit (slots_at s.hart b)) (one s.hart (going s.hart (say Line.Resumed (next s))) (stop_line s.hart (next s)))
    (going s.hart (say Line.Resumed (next s)))
    (says-one s.hart (going s.hart (say Line.Resumed (next s))) (stop_line s.hart (next s)) (says-resumed s.hart (next s) (f s))
    (says-stop_line s.hart (next s) (f s)))
    (says-resumed s.hart (next s) (f s))))
act-calm (command.Step k) s next f =
    calm-halted s.hart (next s) (stepping k s.hart (stop_line s.hart (next s))) (f s)
    (says-stepping k s.hart (stop_line s.hart (next s)) (says-stop_line s.hart (next s) (f s)))
act-calm (command.Wait k) s next f =
    calm-waiting k s.hart (say (Line.NoHart s.hart) (next s)) (say Line.Running (next s)) (stop_line s.hart (next s))
    (says-say (Line.NoHart s.hart) (next s) (f s)) (calm-say Line.Running (next s) (f s)) (says-stop_line s.hart (next s) (f s))
act-calm command.Regs s next f = calm-halted s.hart (next s) _ (f s) (says-seen (λ b. map (register_line s.hart b) shown_registers) (next s) (f s))
act-calm (command.Reg r) s next f = calm-halted s.hart (next s) _ (f s) (says-showing s.hart r.0 (next s) (f s))
act-calm (command.SetReg r v) s next f = calm-halted s.hart (next s) _ (f s)
    (says-if (csr_read_only r.0) (say (Line.RegisterRefused r.0) (next s)) (change (WriteReg s.hart r.0 v) (showing s.hart r.0 (next s)))
    (says-say (Line.RegisterRefused r.0) (next s) (f s)) (says-change (WriteReg s.hart r.0 v) (showing s.hart r.0 (next s))
    (says-showing s.hart r.0 (next s) (f s))))
act-calm (command.Read size a count) s next f = calm-path s (next s) (at_aligned a size (next s) (reading s.path count size a (next s))) (f s)
    (calm-aligned a size (next s) (reading s.path count size a (next s)) (f s) (calm-reading s.path count size a (next s) (f s)))
act-calm (command.Write size a v count) s next f = calm-path s (next s) (at_aligned a size (next s)
    (writing s.path count size a v (next s) (say (Line.Wrote count) (next s)))) (f s)
    (calm-aligned a size (next s) (writing s.path count size a v (next s) (say (Line.Wrote count) (next s))) (f s)
    (calm-writing s.path count size a v (next s) (say (Line.Wrote count) (next s)) (f s) (calm-say (Line.Wrote count) (next s) (f s))))
act-calm (command.Dump a count) s next f = calm-path s (next s) (dumping s.path count a [] (next s)) (f s) (calm-dumping s.path count a [] (next s) (f s))
act-calm (command.Via path) s next f = calm-say (Line.Via path) (next (record s { path = path })) (f (record s { path = path }))
act-calm (command.Break a) s next f = calm-halted s.hart (next s) (arming s.hart (Break a) (next s)) (f s) (says-arming s.hart (Break a) (next s) (f s))
act-calm (command.Watch kind a) s next f = calm-halted s.hart (next s) (arming s.hart (Watch kind a) (next s)) (f s)
    (says-arming s.hart (Watch kind a) (next s) (f s))
act-calm (command.Count turns) s next f = calm-halted s.hart (next s) (arming s.hart (Count turns) (next s)) (f s)
    (says-arming s.hart (Count turns) (next s) (f s))
act-calm (command.Clear slot) s next f = calm-halted s.hart (next s) (freeing s.hart slot (next s)) (f s) (says-freeing s.hart slot (next s) (f s))
act-calm command.Slots s next f = calm-halted s.hart (next s) _ (f s) (says-seen (slots_shown_at s.hart) (next s) (f s))
act-calm (command.Ebreak is_on) s next f = calm-halted s.hart (next s) (change (EbreakHalts s.hart is_on) (say (Line.Ebreak is_on) (next s))) (f s)
    (says-change (EbreakHalts s.hart is_on) (say (Line.Ebreak is_on) (next s)) (says-say (Line.Ebreak is_on) (next s) (f s)))
act-calm command.End s next f = calm-stop Done

commands-calm : (script : List Command) (s : State) → Calm (commands script s)
commands-calm [] s = calm-stop Done
commands-calm (c ∷ cs) s = act-calm c s (commands cs) (commands-calm cs)

pub commands_are_quiet : CommandsAreQuiet
commands_are_quiet script s = (commands-calm script s).quiet

pub sessions_say_quietly : SessionsSayQuietly
sessions_say_quietly script = (calm-look 0 (λ seen. commands script first_state)
    (λ seen. says_of (commands script first_state) (commands-calm script first_state))).says
