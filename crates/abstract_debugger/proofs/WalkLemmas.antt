-- Two plans walked side by side, command by command: a relation of plans that each way of putting plans together keeps holds of every command's plan.
-- A property of one plan is walked as a relation that looks at the first alone.
use Rattle.std.proofs.Common.{◌+◌, ℕ, zero, suc, Bool, true, false, List, [], ◌∷◌, ◌++◌, length, map, Option, Some, None, Result, Ok, Err, slice_get}
use Rattle.std.proofs.Common.{if◌then◌else◌}
use Rattle.std.specs.Prelude.{◌==◌}
use Rattle.rv_model.specs.declared.mem_fault.MemFault.{MemFault}
use Rattle.rv_model.specs.declared.size.Size.{Size}
use Rattle.rv_model.specs.declared.size.Size.TheVariants.{B1}
use Rattle.rv_model.specs.Board.{Board}
use Rattle.rv_model.specs.Memory.{is_aligned, loaded, store_answer}
use Rattle.rv_model.specs.Registers.{csr_read_only, mip_number}
use Rattle.rv_model.specs.Size.{count_of}
use Rattle.debug_model.specs.Tap.{idcode}
use Rattle.debug_model.specs.declared.command.Command.{Command}
use Rattle.debug_model.specs.declared.command.Command.TheVariants as command
use Rattle.debug_model.specs.declared.command.Path.{Path}
use Rattle.debug_model.specs.declared.command.Path.TheVariants.{Progbuf, Bus}
use Rattle.debug_model.specs.declared.point.Point.{Point}
use Rattle.debug_model.specs.declared.point.Point.TheVariants.{Look, HaltReq, HaltClear, ResumeReq, Access}
use Rattle.abstract_debugger.specs.Debugger.{Seen, State, access, act, arming, arming_at, at_aligned, at_halted, at_path, by_load, by_path, by_state}
use Rattle.abstract_debugger.specs.Debugger.{by_store, dumping, freeing, going, halted_of, halting, is_free_slot, look}
use Rattle.abstract_debugger.specs.Debugger.{lost_step, most_looks, one, reading, register_line, row_bytes, saying, saying_row, seen_at, sees_ack}
use Rattle.abstract_debugger.specs.Debugger.{sees_both, sees_halted, shown_registers, slots_shown_at, stepping, stop_line, stop_line_of, unseen, until}
use Rattle.abstract_debugger.specs.Debugger.{mip_line, showing, showing_mip, waiting, writing}
use Rattle.abstract_debugger.specs.Debugger.Seen.{Absent, Running, Halted}
use Rattle.abstract_debugger.specs.Lines.{Line}
use Rattle.abstract_debugger.specs.Plan.{Change, Plan, PlanEnd, is_step}
use Rattle.abstract_debugger.specs.Plan.Change.{WriteReg, WriteMem, ArmSlot, FreeSlot, StepOver, StepDone, EbreakHalts, Patch}
use Rattle.abstract_debugger.specs.Plan.Plan.{take, on_path, see, change, say, stop}
use Rattle.abstract_debugger.specs.Plan.PlanEnd.{Done, NoAck, NoHalt}
use Rattle.abstract_debugger.specs.Slots.{any_hit, first_free, slots_at}
use Rattle.abstract_debugger.specs.Slots.Use.{Armed, Unused}
use Rattle.abstract_debugger.specs.Trace.{What}

-- how a plan stops where its Looks were in vain
abbrev pub IsLost : PlanEnd → Type 0
IsLost Done = ⊥
IsLost (NoHalt looks) = Unit {0}
IsLost (NoAck looks) = Unit {0}

-- a change that many a command makes; the switch of ebreaks and patches stand alone
abbrev pub IsUsual : Change → Type 0
IsUsual (WriteReg h r v) = Unit {0}
IsUsual (WriteMem a count v) = Unit {0}
IsUsual (ArmSlot h slot what) = Unit {0}
IsUsual (FreeSlot h slot) = Unit {0}
IsUsual (StepOver h) = Unit {0}
IsUsual (StepDone h) = Unit {0}
IsUsual (EbreakHalts h on) = ⊥
IsUsual (Patch a original covers) = ⊥

-- a relation that plans keep however they are put together, of the commands that A allows
pub record Walks (A : Command → Type 0) (R : Plan → Plan → Type 0) : Type 0 where
  pub takes : (q : Point) (next more : Plan) → R next more → R (take q next) (take q more)
  pub paths : (path : Path) (next more : Plan) → R next more → R (on_path path next) (on_path path more)
  pub sees : (next more : Board → Plan) → ((b : Board) → R (next b) (more b)) → R (see next) (see more)
  pub says : (line : Line) (next more : Plan) → R next more → R (say line next) (say line more)
  pub changes : (c : Change) → IsUsual c → (next more : Plan) → R next more → R (change c next) (change c more)
  pub ebreaks : (h : ℕ) (on : Bool) → A (command.Ebreak on) → (next more : Plan) → R next more → R (change (EbreakHalts h on) next) (change
      (EbreakHalts h on) more)
  pub loses : (e : PlanEnd) → IsLost e → R (stop e) (stop e)
  pub ends : A command.End → R (stop Done) (stop Done)

pub walk-if : {A : Command → Type 0} {R : Plan → Plan → Type 0} → Walks A R
    → (b : Bool) (p q p' q' : Plan) → R p p' → R q q' → R (if b then p else q) (if b then p' else q')
walk-if ws true p q p' q' fp fq = fp
walk-if ws false p q p' q' fp fq = fq

-- ---- Looks

pub walk-look : {A : Command → Type 0} {R : Plan → Plan → Type 0} → Walks A R
    → (h : ℕ) (next more : Seen → Plan) → ((s : Seen) → R (next s) (more s)) → R (look h next) (look h more)
walk-look ws h next more f = ws.takes (Look h) (see (λ b. next (seen_at h b))) (see (λ b. more (seen_at h b)))
    (ws.sees (λ b. next (seen_at h b)) (λ b. more (seen_at h b)) (λ b. f (seen_at h b)))

pub walk-by_state : {A : Command → Type 0} {R : Plan → Plan → Type 0} → Walks A R
    → (a r h a' r' h' : Plan) → R a a' → R r r' → R h h' → (s : Seen) → R (by_state a r h s) (by_state a' r' h' s)
walk-by_state ws a r h a' r' h' fa fr fh Absent = fa
walk-by_state ws a r h a' r' h' fa fr fh (Running ack) = fr
walk-by_state ws a r h a' r' h' fa fr fh (Halted ack) = fh

pub walk-look_by : {A : Command → Type 0} {R : Plan → Plan → Type 0} → Walks A R
    → (n : ℕ) (a r h a' r' h' : Plan) → R a a' → R r r' → R h h' → R (look n (by_state a r h)) (look n (by_state a' r' h'))
walk-look_by ws n a r h a' r' h' fa fr fh = walk-look ws n (by_state a r h) (by_state a' r' h') (walk-by_state ws a r h a' r' h' fa fr fh)

pub walk-until : {A : Command → Type 0} {R : Plan → Plan → Type 0} → Walks A R
    → (n h : ℕ) (test : Seen → Bool) (failed failed' : Seen → Plan) (found found' : Plan) (last : Seen) → ((s : Seen) → R (failed s) (failed' s))
    → R found found'
    → R (until n h test failed found last) (until n h test failed' found' last)
unfolding until
walk-until ws zero h test failed failed' found found' last ff f = ff last
walk-until ws (suc n) h test failed failed' found found' last ff f =
    walk-look ws h (λ s. if test s then found else until n h test failed found s) (λ s. if test s then found' else until n h test failed' found' s)
    (λ s. walk-if ws (test s) found (until n h test failed found s) found' (until n h test failed' found' s) f
    (walk-until ws n h test failed failed' found found' s ff f))

pub walk-waiting : {A : Command → Type 0} {R : Plan → Plan → Type 0} → Walks A R
    → (n k : ℕ) (a r h a' r' h' : Plan) → R a a' → R r r' → R h h' → R (waiting n k a r h) (waiting n k a' r' h')
unfolding waiting
walk-waiting ws zero k a r h a' r' h' fa fr fh = fr
walk-waiting ws (suc n) k a r h a' r' h' fa fr fh =
    walk-look_by ws k a (waiting n k a r h) h a' (waiting n k a' r' h') h' fa (walk-waiting ws n k a r h a' r' h' fa fr fh) fh

pub walk-halted : {A : Command → Type 0} {R : Plan → Plan → Type 0} → Walks A R
    → (h : ℕ) (next body next' body' : Plan) → R next next' → R body body' → R (at_halted h next body) (at_halted h next' body')
walk-halted ws h next body next' body' f fb =
    walk-look_by ws h (say (Line.NoHart h) next) (say (Line.IsRunning h) next) body (say (Line.NoHart h) next') (say (Line.IsRunning h) next') body'
    (ws.says (Line.NoHart h) next next' f) (ws.says (Line.IsRunning h) next next' f) fb

-- ---- run control

pub walk-stop_line : {A : Command → Type 0} {R : Plan → Plan → Type 0} → Walks A R
    → (h : ℕ) (next more : Plan) → R next more → R (stop_line h next) (stop_line h more)
walk-stop_line ws h next more f = ws.sees (λ b. say (stop_line_of (slice_get b.harts h)) next) (λ b. say (stop_line_of (slice_get b.harts h)) more)
    (λ b. ws.says (stop_line_of (slice_get b.harts h)) next more f)

pub walk-halting : {A : Command → Type 0} {R : Plan → Plan → Type 0} → Walks A R
    → (h : ℕ) (next more : Plan) → R next more → R (halting h next) (halting h more)
walk-halting ws h next more f =
    ws.takes (HaltReq h) _ _ (walk-until ws most_looks h sees_halted (λ t. stop (NoHalt most_looks)) (λ t. stop (NoHalt most_looks)) (take (HaltClear h) next)
    (take (HaltClear h) more) unseen
    (λ t. ws.loses (NoHalt most_looks) tt) (ws.takes (HaltClear h) next more f))

pub walk-going : {A : Command → Type 0} {R : Plan → Plan → Type 0} → Walks A R → (h : ℕ) (next more : Plan) → R next more → R (going h next) (going h more)
walk-going ws h next more f =
    ws.takes (ResumeReq h) _ _ (walk-until ws most_looks h sees_ack (λ t. stop (NoAck most_looks)) (λ t. stop (NoAck most_looks)) next more unseen
    (λ t. ws.loses (NoAck most_looks) tt) f)

pub walk-lost_step : {A : Command → Type 0} {R : Plan → Plan → Type 0} → Walks A R → (s : Seen) → R (lost_step s) (lost_step s)
walk-lost_step ws s =
    walk-if ws (sees_ack s) (stop (NoHalt most_looks)) (stop (NoAck most_looks)) (stop (NoHalt most_looks)) (stop (NoAck most_looks))
    (ws.loses (NoHalt most_looks) tt) (ws.loses (NoAck most_looks) tt)

pub walk-one : {A : Command → Type 0} {R : Plan → Plan → Type 0} → Walks A R
    → (h : ℕ) (stepped other stepped' other' : Plan) → R stepped stepped' → R other other' → R (one h stepped other) (one h stepped' other')
walk-one ws h stepped other stepped' other' fs fo =
    ws.changes (StepOver h) tt _ _ (ws.takes (ResumeReq h) _ _ (walk-until ws most_looks h sees_both lost_step lost_step
    (change (StepDone h) (see (λ b. if is_step (halted_of (slice_get b.harts h)) then stepped else other)))
    (change (StepDone h) (see (λ b. if is_step (halted_of (slice_get b.harts h)) then stepped' else other')))
    unseen (walk-lost_step ws) (ws.changes (StepDone h) tt _ _ (ws.sees (λ b. if is_step (halted_of (slice_get b.harts h)) then stepped else other)
    (λ b. if is_step (halted_of (slice_get b.harts h)) then stepped' else other')
    (λ b. walk-if ws (is_step (halted_of (slice_get b.harts h))) stepped other stepped' other' fs fo)))))

pub walk-stepping : {A : Command → Type 0} {R : Plan → Plan → Type 0} → Walks A R
    → (k h : ℕ) (next more : Plan) → R next more → R (stepping k h next) (stepping k h more)
unfolding stepping
walk-stepping ws zero h next more f = f
walk-stepping ws (suc k) h next more f = walk-one ws h (stepping k h next) next (stepping k h more) more (walk-stepping ws k h next more f) f

-- ---- lines and accesses

pub walk-access : {A : Command → Type 0} {R : Plan → Plan → Type 0} → Walks A R
    → (path : Path) (next more : Board → Plan) → ((b : Board) → R (next b) (more b)) → R (access path next) (access path more)
walk-access ws path next more f = ws.paths path (take Access (see next)) (take Access (see more)) (ws.takes Access (see next) (see more)
    (ws.sees next more f))

pub walk-saying : {A : Command → Type 0} {R : Plan → Plan → Type 0} → Walks A R
    → (lines : List Line) (next more : Plan) → R next more → R (saying lines next) (saying lines more)
walk-saying ws [] next more f = f
walk-saying ws (l ∷ lines) next more f = ws.says l (saying lines next) (saying lines more) (walk-saying ws lines next more f)

pub walk-by_load : {A : Command → Type 0} {R : Plan → Plan → Type 0} → Walks A R
    → (r : Result ℕ MemFault) (faulted faulted' : Plan) (read read' : ℕ → Plan) → R faulted faulted' → ((v : ℕ) → R (read v) (read' v))
    → R (by_load r faulted read) (by_load r faulted' read')
walk-by_load ws (Ok v) faulted faulted' read read' ff f = f v
walk-by_load ws (Err fault) faulted faulted' read read' ff f = ff

pub walk-reading : {A : Command → Type 0} {R : Plan → Plan → Type 0} → Walks A R
    → (path : Path) (n : ℕ) (size : Size) (a : ℕ) (next more : Plan) → R next more → R (reading path n size a next) (reading path n size a more)
unfolding reading
walk-reading ws path zero size a next more f = f
walk-reading ws path (suc n) size a next more f =
    walk-access ws path _ _ (λ b. walk-by_load ws (loaded b.memory a size) (say (Line.MemoryFault a) next) (say (Line.MemoryFault a) more)
    (λ v. say (Line.Element a size v) (reading path n size (a + count_of size) next))
    (λ v. say (Line.Element a size v) (reading path n size (a + count_of size) more))
    (ws.says (Line.MemoryFault a) next more f)
    (λ v. ws.says (Line.Element a size v) (reading path n size (a + count_of size) next) (reading path n size (a + count_of size) more)
    (walk-reading ws path n size (a + count_of size) next more f)))

pub walk-by_store : {A : Command → Type 0} {R : Plan → Plan → Type 0} → Walks A R
    → (r : Result _ MemFault) (faulted stored faulted' stored' : Plan) → R faulted faulted' → R stored stored'
    → R (by_store r faulted stored) (by_store r faulted' stored')
walk-by_store ws (Ok _) faulted stored faulted' stored' ff f = f
walk-by_store ws (Err fault) faulted stored faulted' stored' ff f = ff

pub walk-writing : {A : Command → Type 0} {R : Plan → Plan → Type 0} → Walks A R
    → (path : Path) (n : ℕ) (size : Size) (a v : ℕ) (next written next' written' : Plan) → R next next' → R written written'
    → R (writing path n size a v next written) (writing path n size a v next' written')
unfolding writing
walk-writing ws path zero size a v next written next' written' f fw = fw
walk-writing ws path (suc n) size a v next written next' written' f fw =
    walk-access ws path _ _ (λ b. walk-by_store ws (store_answer b.memory a size)
    (say (Line.MemoryFault a) next) (change (WriteMem a (count_of size) v) (writing path n size (a + count_of size) v next written))
    (say (Line.MemoryFault a) next') (change (WriteMem a (count_of size) v) (writing path n size (a + count_of size) v next' written'))
    (ws.says (Line.MemoryFault a) next next' f)
    (ws.changes (WriteMem a (count_of size) v) tt (writing path n size (a + count_of size) v next written) (writing path n size
    (a + count_of size) v next' written')
    (walk-writing ws path n size (a + count_of size) v next written next' written' f fw)))

pub walk-row : {A : Command → Type 0} {R : Plan → Plan → Type 0} → Walks A R
    → (first : ℕ) (bytes : List ℕ) (next more : Plan) → R next more → R (saying_row first bytes next) (saying_row first bytes more)
walk-row ws first [] next more f = f
walk-row ws first (byte ∷ bytes) next more f = ws.says (Line.Row first (byte ∷ bytes)) next more f

pub walk-dumping : {A : Command → Type 0} {R : Plan → Plan → Type 0} → Walks A R
    → (path : Path) (n first : ℕ) (bytes : List ℕ) (next more : Plan) → R next more
    → R (dumping path n first bytes next) (dumping path n first bytes more)
unfolding dumping
walk-dumping ws path zero first bytes next more f = walk-row ws first bytes next more f
walk-dumping ws path (suc n) first bytes next more f =
    walk-access ws path _ _ (λ b. walk-by_load ws (loaded b.memory (first + length bytes) B1)
    (saying_row first bytes (say (Line.MemoryFault (first + length bytes)) next)) (saying_row first bytes (say (Line.MemoryFault
    (first + length bytes)) more))
    (λ v. if length bytes + 1 == row_bytes then say (Line.Row first (bytes ++ v ∷ [])) (dumping path n (first + row_bytes) [] next) else dumping path n first
    (bytes ++ v ∷ []) next)
    (λ v. if length bytes + 1 == row_bytes then say (Line.Row first (bytes ++ v ∷ [])) (dumping path n (first + row_bytes) [] more) else dumping path n first
    (bytes ++ v ∷ []) more)
    (walk-row ws first bytes (say (Line.MemoryFault (first + length bytes)) next) (say (Line.MemoryFault (first + length bytes)) more)
    (ws.says (Line.MemoryFault (first + length bytes)) next more f))
    (λ v. walk-if ws (length bytes + 1 == row_bytes)
    (say (Line.Row first (bytes ++ v ∷ [])) (dumping path n (first + row_bytes) [] next)) (dumping path n first (bytes ++ v ∷ []) next)
    (say (Line.Row first (bytes ++ v ∷ [])) (dumping path n (first + row_bytes) [] more)) (dumping path n first (bytes ++ v ∷ []) more)
    (ws.says (Line.Row first (bytes ++ v ∷ [])) (dumping path n (first + row_bytes) [] next) (dumping path n (first + row_bytes) [] more)
    (walk-dumping ws path n (first + row_bytes) [] next more f))
    (walk-dumping ws path n first (bytes ++ v ∷ []) next more f)))

pub walk-path : {A : Command → Type 0} {R : Plan → Plan → Type 0} → Walks A R
    → (s : State) (next body next' body' : Plan) → R next next' → R body body' → R (at_path s next body) (at_path s next' body')
walk-path {R = R} ws s next body next' body' f fb = by s.path
  where
    by : (path : Path) → R (by_path path (at_halted s.hart next body) body) (by_path path (at_halted s.hart next' body') body')
    by Progbuf = walk-halted ws s.hart next body next' body' f fb
    by Bus = fb

pub walk-aligned : {A : Command → Type 0} {R : Plan → Plan → Type 0} → Walks A R
    → (a : ℕ) (size : Size) (next body next' body' : Plan) → R next next' → R body body'
    → R (at_aligned a size next body) (at_aligned a size next' body')
walk-aligned ws a size next body next' body' f fb =
    walk-if ws (is_aligned a size) body (say (Line.MemoryFault a) next) body' (say (Line.MemoryFault a) next') fb (ws.says (Line.MemoryFault a) next next' f)

-- ---- slots

pub walk-arming_at : {A : Command → Type 0} {R : Plan → Plan → Type 0} → Walks A R
    → (o : Option ℕ) (h : ℕ) (what : What) (next more : Plan) → R next more → R (arming_at o h what next) (arming_at o h what more)
walk-arming_at ws (Some slot) h what next more f =
    ws.changes (ArmSlot h slot what) tt (say (Line.Slot slot (Armed what) false) next) (say (Line.Slot slot (Armed what) false) more)
    (ws.says (Line.Slot slot (Armed what) false) next more f)
walk-arming_at ws None h what next more f = ws.says Line.NoFreeSlot next more f

pub walk-arming : {A : Command → Type 0} {R : Plan → Plan → Type 0} → Walks A R
    → (h : ℕ) (what : What) (next more : Plan) → R next more → R (arming h what next) (arming h what more)
walk-arming ws h what next more f =
    ws.sees (λ b. arming_at (first_free (slots_at h b)) h what next) (λ b. arming_at (first_free (slots_at h b)) h what more)
    (λ b. walk-arming_at ws (first_free (slots_at h b)) h what next more f)

pub walk-freeing : {A : Command → Type 0} {R : Plan → Plan → Type 0} → Walks A R
    → (h slot : ℕ) (next more : Plan) → R next more → R (freeing h slot next) (freeing h slot more)
walk-freeing ws h slot next more f =
    ws.sees (λ b. if is_free_slot (slice_get (slots_at h b) slot) then say (Line.SlotNotInUse slot) next else change (FreeSlot h slot)
    (say (Line.Slot slot Unused false) next))
    (λ b. if is_free_slot (slice_get (slots_at h b) slot) then say (Line.SlotNotInUse slot) more else change (FreeSlot h slot)
    (say (Line.Slot slot Unused false) more))
    (λ b. walk-if ws (is_free_slot (slice_get (slots_at h b) slot))
    (say (Line.SlotNotInUse slot) next) (change (FreeSlot h slot) (say (Line.Slot slot Unused false) next)) (say (Line.SlotNotInUse slot) more)
    (change (FreeSlot h slot) (say (Line.Slot slot Unused false) more))
    (ws.says (Line.SlotNotInUse slot) next more f)
    (ws.changes (FreeSlot h slot) tt (say (Line.Slot slot Unused false) next) (say (Line.Slot slot Unused false) more)
    (ws.says (Line.Slot slot Unused false) next more f)))

pub walk-seen : {A : Command → Type 0} {R : Plan → Plan → Type 0} → Walks A R
    → (lines : Board → List Line) (next more : Plan) → R next more → R (see (λ b. saying (lines b) next)) (see (λ b. saying (lines b) more))
walk-seen ws lines next more f = ws.sees (λ b. saying (lines b) next) (λ b. saying (lines b) more) (λ b. walk-saying ws (lines b) next more f)

pub walk-showing : {A : Command → Type 0} {R : Plan → Plan → Type 0} → Walks A R
    → (h r : ℕ) (next more : Plan) → R next more → R (showing h r next) (showing h r more)
walk-showing ws h r next more f =
    walk-if ws (r == mip_number) (showing_mip h next) (see (λ b. say (register_line h b r) next)) (showing_mip h more)
    (see (λ b. say (register_line h b r) more))
    (ws.takes Access _ _ (walk-seen ws (λ b. mip_line h b ∷ []) next more f)) (walk-seen ws (λ b. register_line h b r ∷ []) next more f)

pub walk-resumed : {A : Command → Type 0} {R : Plan → Plan → Type 0} → Walks A R
    → (h : ℕ) (next more : Plan) → R next more → R (going h (say Line.Resumed next)) (going h (say Line.Resumed more))
walk-resumed ws h next more f = walk-going ws h (say Line.Resumed next) (say Line.Resumed more) (ws.says Line.Resumed next more f)

-- ---- the commands

pub act-walks : {A : Command → Type 0} {R : Plan → Plan → Type 0} → Walks A R
    → (c : Command) (s : State) (next more : State → Plan) → A c → ((t : State) → R (next t) (more t)) → R (act c s next) (act c s more)
act-walks ws command.Idcode s next more allowed f = ws.says (Line.Idcode idcode) (next s) (more s) (f s)
act-walks ws (command.Hart n) s next more allowed f =
    walk-look_by ws n (say (Line.NoHart n) (next s)) (say (Line.Selected n) (next (record s { hart = n }))) (say (Line.Selected n) (next
    (record s { hart = n })))
    (say (Line.NoHart n) (more s)) (say (Line.Selected n) (more (record s { hart = n }))) (say (Line.Selected n) (more (record s { hart = n })))
    (ws.says (Line.NoHart n) (next s) (more s) (f s))
    (ws.says (Line.Selected n) (next (record s { hart = n })) (more (record s { hart = n })) (f (record s { hart = n })))
    (ws.says (Line.Selected n) (next (record s { hart = n })) (more (record s { hart = n })) (f (record s { hart = n })))
act-walks ws command.State s next more allowed f =
    walk-look_by ws s.hart (say (Line.NoHart s.hart) (next s)) (say Line.Running (next s)) (stop_line s.hart (next s)) (say (Line.NoHart s.hart) (more s))
    (say Line.Running (more s)) (stop_line s.hart (more s))
    (ws.says (Line.NoHart s.hart) (next s) (more s) (f s)) (ws.says Line.Running (next s) (more s) (f s)) (walk-stop_line ws s.hart (next s) (more s) (f s))
act-walks ws command.Halt s next more allowed f =
    walk-look_by ws s.hart (say (Line.NoHart s.hart) (next s)) (halting s.hart (stop_line s.hart (next s))) (stop_line s.hart (next s))
    (say (Line.NoHart s.hart) (more s)) (halting s.hart (stop_line s.hart (more s))) (stop_line s.hart (more s))
    (ws.says (Line.NoHart s.hart) (next s) (more s) (f s)) (walk-halting ws s.hart (stop_line s.hart (next s)) (stop_line s.hart (more s))
    (walk-stop_line ws s.hart (next s) (more s) (f s)))
    (walk-stop_line ws s.hart (next s) (more s) (f s))
act-walks ws command.Resume s next more allowed f = walk-halted ws s.hart (next s) _ (more s) _ (f s) (ws.sees _ _ (λ b.
    walk-if ws (any_hit (slots_at s.hart b)) (one s.hart (going s.hart (say Line.Resumed (next s))) (stop_line s.hart (next s)))
    (going s.hart (say Line.Resumed (next s)))
    (one s.hart (going s.hart (say Line.Resumed (more s))) (stop_line s.hart (more s))) (going s.hart (say Line.Resumed (more s)))
    (walk-one ws s.hart (going s.hart (say Line.Resumed (next s))) (stop_line s.hart (next s)) (going s.hart (say Line.Resumed (more s)))
    (stop_line s.hart (more s))
    (walk-resumed ws s.hart (next s) (more s) (f s)) (walk-stop_line ws s.hart (next s) (more s) (f s)))
    (walk-resumed ws s.hart (next s) (more s) (f s))))
act-walks ws (command.Step k) s next more allowed f =
    walk-halted ws s.hart (next s) (stepping k s.hart (stop_line s.hart (next s))) (more s) (stepping k s.hart (stop_line s.hart (more s))) (f s)
    (walk-stepping ws k s.hart (stop_line s.hart (next s)) (stop_line s.hart (more s)) (walk-stop_line ws s.hart (next s) (more s) (f s)))
act-walks ws (command.Wait k) s next more allowed f =
    walk-waiting ws k s.hart (say (Line.NoHart s.hart) (next s)) (say Line.Running (next s)) (stop_line s.hart (next s))
    (say (Line.NoHart s.hart) (more s)) (say Line.Running (more s)) (stop_line s.hart (more s))
    (ws.says (Line.NoHart s.hart) (next s) (more s) (f s)) (ws.says Line.Running (next s) (more s) (f s)) (walk-stop_line ws s.hart (next s) (more s) (f s))
act-walks ws command.Regs s next more allowed f = walk-halted ws s.hart (next s) _ (more s) _ (f s)
    (walk-seen ws (λ b. map (register_line s.hart b) shown_registers) (next s) (more s) (f s))
act-walks ws (command.Reg r) s next more allowed f = walk-halted ws s.hart (next s) _ (more s) _ (f s)
    (walk-showing ws s.hart r.0 (next s) (more s) (f s))
act-walks ws (command.SetReg r v) s next more allowed f = walk-halted ws s.hart (next s) _ (more s) _ (f s)
    (walk-if ws (csr_read_only r.0) (say (Line.RegisterRefused r.0) (next s)) (change (WriteReg s.hart r.0 v) (showing s.hart r.0 (next s)))
    (say (Line.RegisterRefused r.0) (more s)) (change (WriteReg s.hart r.0 v) (showing s.hart r.0 (more s)))
    (ws.says (Line.RegisterRefused r.0) (next s) (more s) (f s)) (ws.changes (WriteReg s.hart r.0 v) tt _ _
    (walk-showing ws s.hart r.0 (next s) (more s) (f s))))
act-walks ws (command.Read size a count) s next more allowed f =
    walk-path ws s (next s) (at_aligned a size (next s) (reading s.path count size a (next s))) (more s)
    (at_aligned a size (more s) (reading s.path count size a (more s))) (f s)
    (walk-aligned ws a size (next s) (reading s.path count size a (next s)) (more s) (reading s.path count size a (more s)) (f s)
    (walk-reading ws s.path count size a (next s) (more s) (f s)))
act-walks ws (command.Write size a v count) s next more allowed f =
    walk-path ws s (next s) (at_aligned a size (next s) (writing s.path count size a v (next s) (say (Line.Wrote count) (next s)))) (more s)
    (at_aligned a size (more s) (writing s.path count size a v (more s) (say (Line.Wrote count) (more s)))) (f s)
    (walk-aligned ws a size (next s) (writing s.path count size a v (next s) (say (Line.Wrote count) (next s))) (more s)
    (writing s.path count size a v (more s) (say (Line.Wrote count) (more s))) (f s)
    (walk-writing ws s.path count size a v (next s) (say (Line.Wrote count) (next s)) (more s) (say (Line.Wrote count) (more s)) (f s)
    (ws.says (Line.Wrote count) (next s) (more s) (f s))))
act-walks ws (command.Dump a count) s next more allowed f = walk-path ws s (next s) (dumping s.path count a [] (next s)) (more s)
    (dumping s.path count a [] (more s)) (f s)
    (walk-dumping ws s.path count a [] (next s) (more s) (f s))
act-walks ws (command.Via path) s next more allowed f = ws.says (Line.Via path) (next (record s { path = path })) (more (record s { path = path }))
    (f (record s { path = path }))
act-walks ws (command.Break a) s next more allowed f = walk-halted ws s.hart (next s) _ (more s) _ (f s) (walk-arming ws s.hart (What.Break a)
    (next s) (more s) (f s))
act-walks ws (command.Watch kind a) s next more allowed f = walk-halted ws s.hart (next s) _ (more s) _ (f s) (walk-arming ws s.hart
    (What.Watch kind a) (next s) (more s) (f s))
act-walks ws (command.Count turns) s next more allowed f = walk-halted ws s.hart (next s) _ (more s) _ (f s) (walk-arming ws s.hart
    (What.Count turns) (next s) (more s) (f s))
act-walks ws (command.Clear slot) s next more allowed f = walk-halted ws s.hart (next s) _ (more s) _ (f s) (walk-freeing ws s.hart slot (next s)
    (more s) (f s))
act-walks ws command.Slots s next more allowed f = walk-halted ws s.hart (next s) _ (more s) _ (f s) (walk-seen ws (slots_shown_at s.hart) (next s) (more s) (f s))
act-walks ws (command.Ebreak is_on) s next more allowed f = walk-halted ws s.hart (next s) _ (more s) _ (f s)
    (ws.ebreaks s.hart is_on allowed (say (Line.Ebreak is_on) (next s)) (say (Line.Ebreak is_on) (more s))
    (ws.says (Line.Ebreak is_on) (next s) (more s) (f s)))
act-walks ws command.End s next more allowed f = ws.ends allowed
