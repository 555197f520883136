-- Behind a line of a session with software breakpoints nothing is changed up to the next point, as its plan is lowered.
use Rattle.std.proofs.Common.{ℕ, zero, suc, Bool, true, false, List, [], ◌∷◌, length, if◌then◌else◌}
use Rattle.std.specs.Prelude.{◌==◌}
use Rattle.rv_model.specs.declared.size.Size.{Size}
use Rattle.rv_model.specs.Memory.{is_aligned}
use Rattle.debug_model.specs.declared.command.Command.{Command}
use Rattle.debug_model.specs.declared.command.Command.TheVariants as command
use Rattle.debug_model.specs.declared.command.Path.{Path}
use Rattle.debug_model.specs.declared.command.Path.TheVariants.{Progbuf, Bus}
use Rattle.debug_model.specs.declared.soft_command.SoftCommand.{SoftCommand}
use Rattle.debug_model.specs.declared.soft_command.SoftCommand.TheVariants.{Plain, Soft, Unsoft}
use Rattle.abstract_debugger.specs.Debugger.{State, act, at_aligned, at_halted, by_path, dumping, reading, stop_line, waiting, writing}
use Rattle.abstract_debugger.specs.Laws.{Quiet}
use Rattle.abstract_debugger.specs.Lines.{Line}
use Rattle.abstract_debugger.specs.Plan.{Plan}
use Rattle.abstract_debugger.specs.Plan.Plan.{take, on_path, see, change, say, stop}
use Rattle.abstract_debugger.specs.Plan.PlanEnd.{Done}
use Rattle.soft_laws.specs.Lowered.{Table, hidden_board, lower}
use Rattle.soft_laws.specs.SoftBreaks.{is_listed, without}
use Rattle.soft_laws.specs.SoftDebugger.{SoftState, closing, lifting, most_planted, planting, prepared, preparing, put_in, soft_act, soft_commands}
use Rattle.soft_session.specs.Cuts.{AreQuiet}

pub lower_quiet : (p : Plan) (t : Table) → Quiet p → Quiet (lower p t)
unfolding lower
lower_quiet (take q next) t is = tt
lower_quiet (on_path path next) t is = lower_quiet next t is
lower_quiet (see next) t is = λ b. lower_quiet (next (hidden_board t b)) t (is (hidden_board t b))
lower_quiet (change c next) t is = absurd is
lower_quiet (say line next) t is = lower_quiet next t is
lower_quiet (stop end) t is = tt

quiet_if : (b : Bool) (p q : Plan) → Quiet p → Quiet q → Quiet (if b then p else q)
quiet_if true p q x y = x
quiet_if false p q x y = y

closing_quiet : (ps : List ℕ) → Quiet (closing ps (stop Done))
closing_quiet [] = tt
closing_quiet (a ∷ ps) = tt

preparing_quiet : (n : ℕ) (next ready : Plan) → Quiet ready → Quiet (preparing n 0 next ready)
unfolding preparing
preparing_quiet zero next ready is = is
preparing_quiet (suc n) next ready is = tt

prepared_quiet : (ps : List ℕ) (next ready : Plan) → Quiet ready → Quiet (prepared ps next ready)
prepared_quiet [] next ready is = preparing_quiet 1024 next ready is
prepared_quiet (a ∷ ps) next ready is = is

setting_quiet : (a : ℕ) (s : SoftState) (next : SoftState → Plan) → AreQuiet next → Quiet (soft_act (Soft a) s next)
setting_quiet a s next quiet =
    let set : SoftState = record s { planted = put_in a s.planted } in
    quiet_if (is_listed s.planted a) (say (Line.SoftIsSet a) (next s))
    (if length s.planted == most_planted then say Line.NoFreeSoftBreak (next s) else prepared s.planted (next s) (planting a (next s) (next set)))
    (quiet s) (quiet_if (length s.planted == most_planted) (say Line.NoFreeSoftBreak (next s)) (prepared s.planted (next s) (planting a (next s) (next set)))
    (quiet s) (prepared_quiet s.planted (next s) (planting a (next s) (next set)) tt))

clearing_quiet : (a : ℕ) (s : SoftState) (next : SoftState → Plan) → AreQuiet next → Quiet (soft_act (Unsoft a) s next)
clearing_quiet a s next quiet =
    let cleared : SoftState = record s { planted = without a s.planted } in
    quiet_if (is_listed s.planted a) (lifting a (λ original. say (Line.SoftClear a) (next cleared))) (say (Line.SoftNotSet a) (next s)) tt (quiet s)

-- ---- the commands of every script

waiting_quiet : (n h : ℕ) (absent running halted : Plan) → Quiet running → Quiet (waiting n h absent running halted)
unfolding waiting
waiting_quiet zero h absent running halted is = is
waiting_quiet (suc n) h absent running halted is = tt

reading_quiet : (path : Path) (n : ℕ) (size : Size) (a : ℕ) (next : Plan) → Quiet next → Quiet (reading path n size a next)
unfolding reading
reading_quiet path zero size a next is = is
reading_quiet path (suc n) size a next is = tt

writing_quiet : (path : Path) (n : ℕ) (size : Size) (a v : ℕ) (next written : Plan) → Quiet written → Quiet (writing path n size a v next written)
unfolding writing
writing_quiet path zero size a v next written is = is
writing_quiet path (suc n) size a v next written is = tt

dumping_quiet : (path : Path) (n a : ℕ) (next : Plan) → Quiet next → Quiet (dumping path n a [] next)
unfolding dumping
dumping_quiet path zero a next is = is
dumping_quiet path (suc n) a next is = tt

path_quiet : (path : Path) (h : ℕ) (next body : Plan) → Quiet body → Quiet (by_path path (at_halted h next body) body)
path_quiet Progbuf h next body is = tt
path_quiet Bus h next body is = is

-- one that is as it was, or reaches memory
as_before_quiet : (c : Command) (s : State) (next : State → Plan) → ((t : State) → Quiet (next t)) → Quiet (act c s next)
as_before_quiet command.Idcode s next quiet = quiet s
as_before_quiet (command.Hart n) s next quiet = tt
as_before_quiet command.State s next quiet = tt
as_before_quiet command.Halt s next quiet = tt
as_before_quiet command.Resume s next quiet = tt
as_before_quiet (command.Step k) s next quiet = tt
as_before_quiet (command.Wait k) s next quiet =
    waiting_quiet k s.hart (say (Line.NoHart s.hart) (next s)) (say Line.Running (next s)) (stop_line s.hart (next s)) (quiet s)
as_before_quiet command.Regs s next quiet = tt
as_before_quiet (command.Reg r) s next quiet = tt
as_before_quiet (command.SetReg r v) s next quiet = tt
as_before_quiet (command.Read size a count) s next quiet = path_quiet s.path s.hart (next s) (at_aligned a size (next s) (reading s.path count size a (next s)))
    (quiet_if (is_aligned a size) (reading s.path count size a (next s)) (say (Line.MemoryFault a) (next s))
    (reading_quiet s.path count size a (next s) (quiet s)) (quiet s))
as_before_quiet (command.Write size a v count) s next quiet =
    path_quiet s.path s.hart (next s) (at_aligned a size (next s) (writing s.path count size a v (next s) (say (Line.Wrote count) (next s))))
    (quiet_if (is_aligned a size) (writing s.path count size a v (next s) (say (Line.Wrote count) (next s))) (say (Line.MemoryFault a) (next s))
    (writing_quiet s.path count size a v (next s) (say (Line.Wrote count) (next s)) (quiet s)) (quiet s))
as_before_quiet (command.Dump a count) s next quiet =
    path_quiet s.path s.hart (next s) (dumping s.path count a [] (next s)) (dumping_quiet s.path count a (next s) (quiet s))
as_before_quiet (command.Via path) s next quiet = quiet (record s { path = path })
as_before_quiet (command.Break a) s next quiet = tt
as_before_quiet (command.Watch kind a) s next quiet = tt
as_before_quiet (command.Count turns) s next quiet = tt
as_before_quiet (command.Clear slot) s next quiet = tt
as_before_quiet command.Slots s next quiet = tt
as_before_quiet (command.Ebreak is_on) s next quiet = tt
as_before_quiet command.End s next quiet = tt

plain_quiet : (c : Command) (s : SoftState) (next : SoftState → Plan) → AreQuiet next → Quiet (soft_act (Plain c) s next)
plain_quiet command.Resume s next quiet = tt
plain_quiet (command.Step k) s next quiet = tt
plain_quiet (command.Ebreak on) s next quiet = tt
plain_quiet command.End s next quiet = closing_quiet s.planted
plain_quiet command.Idcode s next quiet = as_before_quiet command.Idcode s.plain (λ t. next (record s { plain = t })) (λ t. quiet (record s { plain = t }))
plain_quiet (command.Hart n) s next quiet = as_before_quiet (command.Hart n) s.plain (λ t. next (record s { plain = t })) (λ t. quiet (record s { plain = t }))
plain_quiet command.State s next quiet = as_before_quiet command.State s.plain (λ t. next (record s { plain = t })) (λ t. quiet (record s { plain = t }))
plain_quiet command.Halt s next quiet = as_before_quiet command.Halt s.plain (λ t. next (record s { plain = t })) (λ t. quiet (record s { plain = t }))
plain_quiet (command.Wait k) s next quiet = as_before_quiet (command.Wait k) s.plain (λ t. next (record s { plain = t })) (λ t. quiet (record s { plain = t }))
plain_quiet command.Regs s next quiet = as_before_quiet command.Regs s.plain (λ t. next (record s { plain = t })) (λ t. quiet (record s { plain = t }))
plain_quiet (command.Reg r) s next quiet = as_before_quiet (command.Reg r) s.plain (λ t. next (record s { plain = t })) (λ t. quiet (record s { plain = t }))
plain_quiet (command.SetReg r v) s next quiet = as_before_quiet (command.SetReg r v) s.plain (λ t. next (record s { plain = t })) (λ t. quiet
    (record s { plain = t }))
plain_quiet (command.Read size a count) s next quiet = as_before_quiet (command.Read size a count) s.plain (λ t. next (record s { plain = t })) (λ t. quiet
    (record s { plain = t }))
plain_quiet (command.Write size a v count) s next quiet = as_before_quiet (command.Write size a v count) s.plain (λ t. next (record s { plain = t }))
    (λ t. quiet (record s { plain = t }))
plain_quiet (command.Dump a count) s next quiet = as_before_quiet (command.Dump a count) s.plain (λ t. next (record s { plain = t })) (λ t. quiet
    (record s { plain = t }))
plain_quiet (command.Via path) s next quiet = as_before_quiet (command.Via path) s.plain (λ t. next (record s { plain = t })) (λ t. quiet
    (record s { plain = t }))
plain_quiet (command.Break a) s next quiet = as_before_quiet (command.Break a) s.plain (λ t. next (record s { plain = t })) (λ t. quiet
    (record s { plain = t }))
plain_quiet (command.Watch kind a) s next quiet = as_before_quiet (command.Watch kind a) s.plain (λ t. next (record s { plain = t })) (λ t. quiet
    (record s { plain = t }))
plain_quiet (command.Count turns) s next quiet = as_before_quiet (command.Count turns) s.plain (λ t. next (record s { plain = t })) (λ t. quiet
    (record s { plain = t }))
plain_quiet (command.Clear slot) s next quiet = as_before_quiet (command.Clear slot) s.plain (λ t. next (record s { plain = t })) (λ t. quiet
    (record s { plain = t }))
plain_quiet command.Slots s next quiet = as_before_quiet command.Slots s.plain (λ t. next (record s { plain = t })) (λ t. quiet (record s { plain = t }))

pub commands_quiet : (script : List SoftCommand) → AreQuiet (soft_commands script)
commands_quiet [] s = closing_quiet s.planted
commands_quiet (Plain c ∷ cs) s = plain_quiet c s (soft_commands cs) (commands_quiet cs)
commands_quiet (Soft a ∷ cs) s = setting_quiet a s (soft_commands cs) (commands_quiet cs)
commands_quiet (Unsoft a ∷ cs) s = clearing_quiet a s (soft_commands cs) (commands_quiet cs)
