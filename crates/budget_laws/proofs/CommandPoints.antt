-- How many points each command takes at most, and a script.
use Rattle.std.proofs.Common.{◌≡◌, ℕ, zero, suc, ◌+◌, ◌*◌, ◌<◌, ◌≤◌, List, [], ◌∷◌, ◌++◌, length, Bool, if◌then◌else◌, Option, Some, None}
use Rattle.std.proofs.Common.{arith}
use Rattle.std.specs.Prelude.{Result, Ok, Err, ⊤, map, sum_by, ◌==◌}
use Rattle.std.proofs.lemmas.List.Sums.{sum_by-cons}
use Rattle.rv_model.specs.declared.mem_fault.MemFault.{MemFault}
use Rattle.rv_model.specs.declared.size.Size.{Size}
use Rattle.rv_model.specs.Board.{Board}
use Rattle.rv_model.specs.Memory.{is_aligned}
use Rattle.rv_model.specs.Registers.{csr_read_only, mip_number}
use Rattle.debug_model.specs.declared.command.Command.{Command}
use Rattle.debug_model.specs.declared.command.Command.TheVariants as command
use Rattle.debug_model.specs.declared.command.Path.{Path}
use Rattle.debug_model.specs.declared.command.Path.TheVariants.{Progbuf, Bus}
use Rattle.debug_model.specs.declared.point.Point.TheVariants.{HaltReq, HaltClear, ResumeReq, Access}
use Rattle.abstract_debugger.specs.Debugger.{Seen, State, access, act, arming, arming_at, at_aligned, at_halted, at_path, by_load, by_path, by_state, by_store}
use Rattle.abstract_debugger.specs.Debugger.{commands, dumping, first_state, freeing, going, halting, lost_step, most_looks, one, reading, saying, saying_row}
use Rattle.abstract_debugger.specs.Debugger.{register_line, row_bytes, sees_ack, session, showing, shown_registers, slots_shown_at, stepping, stop_line, until, unseen, waiting, writing}
use Rattle.abstract_debugger.specs.Debugger.Seen.{Absent, Running, Halted}
use Rattle.abstract_debugger.specs.Lines.{Line}
use Rattle.abstract_debugger.specs.Plan.{Plan}
use Rattle.abstract_debugger.specs.Plan.Plan.{say}
use Rattle.abstract_debugger.specs.Plan.PlanEnd.{Done}
use Rattle.abstract_debugger.specs.Trace.{What}
use Rattle.abstract_debugger.specs.Transcript.{start}
use Rattle.budget_laws.specs.ScriptPoints.{ScriptsTakeFewPoints, command_points, request_points, script_points}
use Rattle.budget_laws.proofs.FewPoints.{Few, few_change, few_either, few_look, few_more, few_on_path, few_say, few_see, few_stop, few_take}

-- ---- Looks

by_state_few : (n : ℕ) (absent running halted : Plan) (s : Seen) → Few n absent → Few n running → Few n halted → Few n (by_state absent running halted s)
by_state_few n absent running halted Absent a r h = a
by_state_few n absent running halted (Running ack) a r h = r
by_state_few n absent running halted (Halted ack) a r h = h

until_few : (k n m h : ℕ) (test : Seen → Bool) (failed : Seen → Plan) (found : Plan) (last : Seen) → k + n ≤ m → ((s : Seen) → Few n (failed s)) → Few n found
    → Few m (until k h test failed found last)
unfolding until
until_few zero n m h test failed found last more lost f = few_more n m _ (omega (arith, more)) (lost last)
until_few (suc k) n m h test failed found last more lost f =
    few_look (k + n) m h _ (omega (arith, more)) (λ s. few_either (k + n) (test s) found _ (few_more n (k + n) found (omega arith) f)
    (until_few k n (k + n) h test failed found s (omega arith) lost f))

at_halted_few : (n m h : ℕ) (next body : Plan) → n < m → Few n next → Few n body → Few m (at_halted h next body)
at_halted_few n m h next body more f g =
    few_look n m h _ more (λ s. by_state_few n _ _ _ s (few_say n (Line.NoHart h) next f) (few_say n (Line.IsRunning h) next f) g)

stop_line_few : (n h : ℕ) (next : Plan) → Few n next → Few n (stop_line h next)
stop_line_few n h next f = few_see n _ (λ b. few_say n _ next f)

-- ---- run control

halting_few : (n m h : ℕ) (next : Plan) → request_points + 1 + n ≤ m → Few n next → Few m (halting h next)
halting_few n m h next more f =
    few_take (most_looks + 1 + n) m (HaltReq h) _ (omega (arith, more)) (until_few most_looks (1 + n) (most_looks + 1 + n) h _ _ _ unseen (omega arith)
    (λ s. few_stop (1 + n) _) (few_take n (1 + n) (HaltClear h) next (omega arith) f))

going_few : (n m h : ℕ) (next : Plan) → request_points + n ≤ m → Few n next → Few m (going h next)
going_few n m h next more f =
    few_take (most_looks + n) m (ResumeReq h) _ (omega (arith, more))
    (until_few most_looks n (most_looks + n) h _ _ next unseen (omega arith) (λ s. few_stop n _) f)

lost_step_few : (n : ℕ) (s : Seen) → Few n (lost_step s)
lost_step_few n s = few_either n (sees_ack s) _ _ (few_stop n _) (few_stop n _)

one_few : (n m h : ℕ) (stepped other : Plan) → request_points + n ≤ m → Few n stepped → Few n other → Few m (one h stepped other)
one_few n m h stepped other more f g =
    few_change m _ _ (few_take (most_looks + n) m (ResumeReq h) _ (omega (arith, more))
    (until_few most_looks n (most_looks + n) h _ _ _ unseen (omega arith) (lost_step_few n)
    (few_change n _ _ (few_see n _ (λ b. few_either n _ stepped other f g)))))

stepping_few : (k n m h : ℕ) (next : Plan) → request_points * k + n ≤ m → Few n next → Few m (stepping k h next)
unfolding stepping
stepping_few zero n m h next more f = few_more n m _ (omega (arith, more)) f
stepping_few (suc k) n m h next more f =
    one_few (request_points * k + n) m h (stepping k h next) next (omega (arith, more)) (stepping_few k n (request_points * k + n) h next (omega arith) f)
    (few_more n (request_points * k + n) next (omega arith) f)

waiting_few : (k n m h : ℕ) (absent running halted : Plan) → k + n ≤ m → Few n absent → Few n running → Few n halted
    → Few m (waiting k h absent running halted)
unfolding waiting
waiting_few zero n m h absent running halted more a r f = few_more n m _ (omega (arith, more)) r
waiting_few (suc k) n m h absent running halted more a r f =
    few_look (k + n) m h _ (omega (arith, more)) (λ s. by_state_few (k + n) _ _ _ s (few_more n (k + n) absent (omega arith) a)
    (waiting_few k n (k + n) h absent running halted (omega arith) a r f) (few_more n (k + n) halted (omega arith) f))

-- ---- registers

showing_few : (n m h r : ℕ) (next : Plan) → n < m → Few n next → Few m (showing h r next)
showing_few n m h r next more f =
    few_either m (r == mip_number) _ _ (few_take n m Access _ more (few_see n _ (λ b. few_say n _ next f)))
    (few_more n m _ (omega (arith, more)) (few_see n _ (λ b. few_say n _ next f)))

saying_few : (n : ℕ) (lines : List Line) (next : Plan) → Few n next → Few n (saying lines next)
saying_few n [] next f = f
saying_few n (l ∷ lines) next f = few_say n l _ (saying_few n lines next f)

-- ---- memory

access_few : (n m : ℕ) (path : Path) (next : Board → Plan) → n < m → ((b : Board) → Few n (next b)) → Few m (access path next)
access_few n m path next more f = few_on_path m path _ (few_take n m Access _ more (few_see n next f))

by_load_few : (n : ℕ) (r : Result ℕ MemFault) (faulted : Plan) (read : ℕ → Plan) → Few n faulted → ((v : ℕ) → Few n (read v)) → Few n (by_load r faulted read)
by_load_few n (Ok v) faulted read f g = g v
by_load_few n (Err fault) faulted read f g = f

by_store_few : (n : ℕ) (r : Result ⊤ MemFault) (faulted stored : Plan) → Few n faulted → Few n stored → Few n (by_store r faulted stored)
by_store_few n (Ok v) faulted stored f g = g
by_store_few n (Err fault) faulted stored f g = f

at_path_few : (n m : ℕ) (s : State) (next body : Plan) → n < m → Few n next → Few n body → Few m (at_path s next body)
at_path_few n m s next body more f g = by s.path where
  by : (path : Path) → Few m (by_path path (at_halted s.hart next body) body)
  by Progbuf = at_halted_few n m s.hart next body more f g
  by Bus = few_more n m body (omega (arith, more)) g

at_aligned_few : (n a : ℕ) (size : Size) (next body : Plan) → Few n next → Few n body → Few n (at_aligned a size next body)
at_aligned_few n a size next body f g = few_either n (is_aligned a size) body _ g (few_say n _ next f)

reading_few : (path : Path) (k n m : ℕ) (size : Size) (a : ℕ) (next : Plan) → k + n ≤ m → Few n next → Few m (reading path k size a next)
unfolding reading
reading_few path zero n m size a next more f = few_more n m _ (omega (arith, more)) f
reading_few path (suc k) n m size a next more f =
    access_few (k + n) m path _ (omega (arith, more)) (λ b. by_load_few (k + n) _ _ _ (few_say (k + n) _ next (few_more n (k + n) next (omega arith) f))
    (λ v. few_say (k + n) _ _ (reading_few path k n (k + n) size _ next (omega arith) f)))

writing_few : (path : Path) (k n m : ℕ) (size : Size) (a v : ℕ) (next written : Plan) → k + n ≤ m → Few n next → Few n written
    → Few m (writing path k size a v next written)
unfolding writing
writing_few path zero n m size a v next written more f g = few_more n m _ (omega (arith, more)) g
writing_few path (suc k) n m size a v next written more f g =
    access_few (k + n) m path _ (omega (arith, more)) (λ b. by_store_few (k + n) _ _ _ (few_say (k + n) _ next (few_more n (k + n) next (omega arith) f))
    (few_change (k + n) _ _ (writing_few path k n (k + n) size _ v next written (omega arith) f g)))

saying_row_few : (n first : ℕ) (bytes : List ℕ) (next : Plan) → Few n next → Few n (saying_row first bytes next)
saying_row_few n first [] next f = f
saying_row_few n first (byte ∷ bytes) next f = few_say n _ next f

dumping_few : (path : Path) (k n m first : ℕ) (bytes : List ℕ) (next : Plan) → k + n ≤ m → Few n next → Few m (dumping path k first bytes next)
unfolding dumping
dumping_few path zero n m first bytes next more f = few_more n m _ (omega (arith, more)) (saying_row_few n first bytes next f)
dumping_few path (suc k) n m first bytes next more f =
    access_few (k + n) m path _ (omega (arith, more)) (λ b. by_load_few (k + n) _ _ _
    (saying_row_few (k + n) first bytes _ (few_say (k + n) _ next (few_more n (k + n) next (omega arith) f)))
    (λ v. few_either (k + n) (length bytes + 1 == row_bytes) _ _ (few_say (k + n) _ _ (dumping_few path k n (k + n) _ [] next (omega arith) f))
    (dumping_few path k n (k + n) first (bytes ++ v ∷ []) next (omega arith) f)))

-- ---- slots

arming_at_few : (n : ℕ) (slot : Option ℕ) (h : ℕ) (what : What) (next : Plan) → Few n next → Few n (arming_at slot h what next)
arming_at_few n (Some slot) h what next f = few_change n _ _ (few_say n _ next f)
arming_at_few n None h what next f = few_say n _ next f

arming_few : (n h : ℕ) (what : What) (next : Plan) → Few n next → Few n (arming h what next)
arming_few n h what next f = few_see n _ (λ b. arming_at_few n _ h what next f)

freeing_few : (n h slot : ℕ) (next : Plan) → Few n next → Few n (freeing h slot next)
freeing_few n h slot next f = few_see n _ (λ b. few_either n _ _ _ (few_say n _ next f) (few_change n _ _ (few_say n _ next f)))

-- ---- the commands

at_slot_few : (n h : ℕ) (what : What) (next : Plan) → Few n next → Few (1 + n) (at_halted h next (arming h what next))
at_slot_few n h what next f = at_halted_few n (1 + n) h next _ (omega arith) f (arming_few n h what next f)

resume_few : (n m h : ℕ) (next : Plan) (b : Bool) → 2 * request_points + n ≤ m → Few n next
    → Few m (if b then one h (going h (say Line.Resumed next)) (stop_line h next) else going h (say Line.Resumed next))
resume_few n m h next b more f =
    few_either m b _ _
    (one_few (request_points + n) m h _ _ (omega (arith, more)) (going_few n (request_points + n) h _ (omega arith) (few_say n _ next f))
    (few_more n (request_points + n) _ (omega arith) (stop_line_few n h next f)))
    (going_few n m h _ (omega (arith, more)) (few_say n _ next f))

act_few : (n : ℕ) (c : Command) (s : State) (next : State → Plan) → ((t : State) → Few n (next t)) → Few (command_points c + n) (act c s next)
act_few n command.Idcode s next f = few_more n (0 + n) _ (omega arith) (few_say n _ _ (f s))
act_few n (command.Hart m) s next f =
    few_look n (1 + n) m _ (omega arith) (λ seen. by_state_few n _ _ _ seen (few_say n (Line.NoHart m) _ (f s)) (few_say n (Line.Selected m) _ (f (record s { hart = m })))
    (few_say n (Line.Selected m) _ (f (record s { hart = m }))))
act_few n command.State s next f =
    few_look n (1 + n) s.hart _ (omega arith)
    (λ seen. by_state_few n _ _ _ seen (few_say n (Line.NoHart s.hart) _ (f s)) (few_say n Line.Running _ (f s)) (stop_line_few n s.hart _ (f s)))
act_few n command.Halt s next f =
    few_look (request_points + 1 + n) (request_points + 2 + n) s.hart _ (omega arith) (λ seen. by_state_few (request_points + 1 + n) _ _ _ seen
    (few_more n (request_points + 1 + n) _ (omega arith) (few_say n (Line.NoHart s.hart) _ (f s)))
    (halting_few n (request_points + 1 + n) s.hart _ (omega arith) (stop_line_few n s.hart _ (f s)))
    (few_more n (request_points + 1 + n) _ (omega arith) (stop_line_few n s.hart _ (f s))))
act_few n command.Resume s next f =
    at_halted_few (2 * request_points + n) (2 * request_points + 1 + n) s.hart (next s) _ (omega arith)
    (few_more n (2 * request_points + n) _ (omega arith) (f s))
    (few_see (2 * request_points + n) _ (λ b. resume_few n (2 * request_points + n) s.hart (next s) _ (omega arith) (f s)))
act_few n (command.Step k) s next f =
    at_halted_few (request_points * k + n) (request_points * k + 1 + n) s.hart (next s) _ (omega arith)
    (few_more n (request_points * k + n) _ (omega arith) (f s))
    (stepping_few k n (request_points * k + n) s.hart _ (omega arith) (stop_line_few n s.hart _ (f s)))
act_few n (command.Wait k) s next f =
    waiting_few k n (k + n) s.hart _ _ _ (omega arith) (few_say n _ _ (f s)) (few_say n _ _ (f s)) (stop_line_few n s.hart _ (f s))
act_few n command.Regs s next f = at_halted_few n (1 + n) s.hart (next s) _ (omega arith) (f s) (few_see n _ (λ b. saying_few n (map (register_line s.hart b) shown_registers) _ (f s)))
act_few n (command.Reg r) s next f =
    at_halted_few (1 + n) (2 + n) s.hart (next s) _ (omega arith) (few_more n (1 + n) _ (omega arith) (f s))
    (showing_few n (1 + n) s.hart r.0 _ (omega arith) (f s))
act_few n (command.SetReg r v) s next f =
    at_halted_few (1 + n) (2 + n) s.hart (next s) _ (omega arith) (few_more n (1 + n) _ (omega arith) (f s))
    (few_either (1 + n) (csr_read_only r.0) _ _ (few_say (1 + n) _ _ (few_more n (1 + n) _ (omega arith) (f s)))
    (few_change (1 + n) _ _ (showing_few n (1 + n) s.hart r.0 _ (omega arith) (f s))))
act_few n (command.Read size a count) s next f =
    at_path_few (count + n) (count + 1 + n) s (next s) _ (omega arith) (few_more n (count + n) _ (omega arith) (f s)) (at_aligned_few (count + n) a size (next s) _
    (few_more n (count + n) _ (omega arith) (f s)) (reading_few s.path count n (count + n) size a _ (omega arith) (f s)))
act_few n (command.Write size a v count) s next f =
    at_path_few (count + n) (count + 1 + n) s (next s) _ (omega arith) (few_more n (count + n) _ (omega arith) (f s)) (at_aligned_few (count + n) a size (next s) _
    (few_more n (count + n) _ (omega arith) (f s)) (writing_few s.path count n (count + n) size a v _ _ (omega arith) (f s) (few_say n _ _ (f s))))
act_few n (command.Dump a count) s next f =
    at_path_few (count + n) (count + 1 + n) s (next s) _ (omega arith) (few_more n (count + n) _ (omega arith) (f s))
    (dumping_few s.path count n (count + n) a [] _ (omega arith) (f s))
act_few n (command.Via path) s next f = few_more n (0 + n) _ (omega arith) (few_say n _ _ (f _))
act_few n (command.Break a) s next f = at_slot_few n s.hart _ (next s) (f s)
act_few n (command.Watch kind a) s next f = at_slot_few n s.hart _ (next s) (f s)
act_few n (command.Count turns) s next f = at_slot_few n s.hart _ (next s) (f s)
act_few n (command.Clear slot) s next f = at_halted_few n (1 + n) s.hart (next s) _ (omega arith) (f s) (freeing_few n s.hart slot _ (f s))
act_few n command.Slots s next f =
    at_halted_few n (1 + n) s.hart (next s) _ (omega arith) (f s) (few_see n _ (λ b. saying_few n (slots_shown_at s.hart b) _ (f s)))
act_few n (command.Ebreak is_on) s next f = at_halted_few n (1 + n) s.hart (next s) _ (omega arith) (f s) (few_change n _ _ (few_say n _ _ (f s)))
act_few n command.End s next f = few_stop (0 + n) Done

commands_few : (script : List Command) (s : State) → Few (sum_by command_points script) (commands script s)
commands_few [] s = few_stop (sum_by command_points []) Done
commands_few (c ∷ cs) s =
    few_more (command_points c + sum_by command_points cs) (sum_by command_points (c ∷ cs)) _
    (let is : sum_by command_points (c ∷ cs) ≡ command_points c + sum_by command_points cs = sum_by-cons command_points c cs in omega (arith, is))
    (act_few (sum_by command_points cs) c s (commands cs) (commands_few cs))

session_few : (script : List Command) → Few (script_points script) (session script)
session_few script =
    few_look (sum_by command_points script) (script_points script) 0 _ (omega arith) (λ seen. commands_few script first_state)

pub scripts_take_few_points : ScriptsTakeFewPoints
scripts_take_few_points board script journal ends = (session_few script).goes (start board) journal ends
