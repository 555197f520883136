-- Behind a line of a session with software breakpoints nothing is changed up to the next point, at the chip as in its plan.
use Rattle.std.proofs.Common.{◌+◌, ℕ, zero, suc, Bool, true, false, not, ◌&&◌, ◌||◌, List, [], ◌∷◌, length, sym, subst, if◌then◌else◌}
use Rattle.std.specs.Prelude.{◌==◌}
use Rattle.rv_model.specs.declared.size.Size.TheVariants.{B4}
use Rattle.rv_model.specs.Memory.{loaded}
use Rattle.debug_model.specs.declared.command.Command.{Command}
use Rattle.debug_model.specs.declared.command.Command.TheVariants as command
use Rattle.debug_model.specs.declared.point.Point.TheVariants.{Access}
use Rattle.abstract_debugger.specs.Debugger.{act, by_load, going, one, stop_line}
use Rattle.abstract_debugger.specs.Laws.{Quiet, SaysQuietly}
use Rattle.abstract_debugger.specs.Lines.{Line}
use Rattle.abstract_debugger.specs.Plan.{Plan}
use Rattle.abstract_debugger.specs.Plan.Change.{EbreakHalts, Patch}
use Rattle.abstract_debugger.specs.Plan.Plan.{take, on_path, see, change, say, stop}
use Rattle.abstract_debugger.specs.Plan.PlanEnd.{Done}
use Rattle.abstract_debugger.specs.Slots.{any_hit, slots_at}
use Rattle.abstract_debugger.proofs.QuietLemmas.{Calm, Says, act-calm, calm-halted, calm-if, calm-look, calm-look_by, calm-say, calm-stop, calm-take}
use Rattle.abstract_debugger.proofs.QuietLemmas.{says-by_load, says-change, says-if, says-one, says-resumed, says-say, says-see, says-stop_line, says_of}
use Rattle.soft_laws.specs.Laws.{LoweredSessionsSayQuietly}
use Rattle.soft_laws.specs.Lowered.{Table, hidden_board, lower, no_table}
use Rattle.soft_laws.specs.SoftBreaks.{has_some, is_listed, without}
use Rattle.debug_model.specs.declared.soft_command.SoftCommand.{SoftCommand}
use Rattle.soft_laws.specs.SoftDebugger.{SoftState, clearing, closing, covering, first_soft_state, lifting, most_harts, most_planted, one_by}
use Rattle.soft_laws.specs.SoftDebugger.{pc_at, plain_act, planting, prepared, preparing, put_in, setting, soft_commands, soft_one, soft_resuming}
use Rattle.soft_laws.specs.SoftDebugger.{soft_session, soft_stepping, switching, word_at}
use Rattle.debug_model.specs.declared.soft_command.SoftCommand.TheVariants.{Plain, Soft, Unsoft}
use Rattle.soft_laws.proofs.StepHides.{lowered-change, table_of}

-- ---- lowered plans

lower-quiet : (p : Plan) (t : Table) → Quiet p → Quiet (lower p t)
unfolding lower
lower-quiet (take q next) t is = tt
lower-quiet (on_path path next) t is = lower-quiet next t is
lower-quiet (see next) t is = λ b. lower-quiet (next (hidden_board t b)) t (is (hidden_board t b))
lower-quiet (change c next) t is = absurd is
lower-quiet (say line next) t is = lower-quiet next t is
lower-quiet (stop end) t is = tt

lower-says : (p : Plan) (t : Table) → SaysQuietly p → SaysQuietly (lower p t)
unfolding lower
lower-says (take q next) t is = lower-says next t is
lower-says (on_path path next) t is = lower-says next t is
lower-says (see next) t is = λ b. lower-says (next (hidden_board t b)) t (is (hidden_board t b))
lower-says (change c next) t is = subst SaysQuietly (sym (lowered-change c t (lower next))) (lower-says next (table_of c t) is)
lower-says (say line next) t is = (lower-quiet next t is.0, lower-says next t is.1)
lower-says (stop end) t is = tt

-- ---- patches

lifting-calm : (a : ℕ) (next : ℕ → Plan) → ((o : ℕ) → Says (next o)) → Calm (lifting a next)
lifting-calm a next s =
    calm-take Access (see (λ b. change (Patch a (word_at a b) false) (next (word_at a b))))
    (says-see (λ b. change (Patch a (word_at a b) false) (next (word_at a b)))
    (λ b. says-change (Patch a (word_at a b) false) (next (word_at a b)) (s (word_at a b))))

covering-calm : (a original : ℕ) (next : Plan) → Says next → Calm (covering a original next)
covering-calm a original next s =
    calm-take Access (see (λ b. change (Patch a original true) next))
    (says-see (λ b. change (Patch a original true) next) (λ b. says-change (Patch a original true) next s))

closing-calm : (ps : List ℕ) → Calm (closing ps (stop Done))
closing-calm [] = calm-stop Done
closing-calm (a ∷ ps) = lifting-calm a (λ o. closing ps (stop Done)) (λ o. says_of (closing ps (stop Done)) (closing-calm ps))

-- ---- steps

one_by-says : (b : Bool) (pc h : ℕ) (stepped other : Plan) → Says stepped → Says other → Says (one_by b pc h stepped other)
one_by-says false pc h stepped other ss so = says-one h stepped other ss so
one_by-says true pc h stepped other ss so =
    says_of (lifting pc (λ o. one h (covering pc o stepped) (covering pc o other)))
    (lifting-calm pc (λ o. one h (covering pc o stepped) (covering pc o other)) (λ o.
    says-one h (covering pc o stepped) (covering pc o other) (says_of (covering pc o stepped) (covering-calm pc o stepped ss))
    (says_of (covering pc o other) (covering-calm pc o other so))))

soft_one-says : (ps : List ℕ) (h : ℕ) (stepped other : Plan) → Says stepped → Says other → Says (soft_one ps h stepped other)
soft_one-says ps h stepped other ss so =
    says-see (λ b. one_by (is_listed ps (pc_at h b)) (pc_at h b) h stepped other)
    (λ b. one_by-says (is_listed ps (pc_at h b)) (pc_at h b) h stepped other ss so)

stepping-says : (k : ℕ) (ps : List ℕ) (h : ℕ) (next : Plan) → Says next → Says (soft_stepping k ps h next)
unfolding soft_stepping
stepping-says zero ps h next s = s
stepping-says (suc k) ps h next s = soft_one-says ps h (soft_stepping k ps h next) next (stepping-says k ps h next s) s

resuming-says : (ps : List ℕ) (h : ℕ) (next : Plan) → Calm next → Says (see (soft_resuming ps h next))
resuming-says ps h next c =
    says-see (soft_resuming ps h next) (λ b.
    says-if (any_hit (slots_at h b) || is_listed ps (pc_at h b)) (soft_one ps h (going h (say Line.Resumed next)) (stop_line h next))
    (going h (say Line.Resumed next))
    (soft_one-says ps h (going h (say Line.Resumed next)) (stop_line h next) (says-resumed h next c) (says-stop_line h next c)) (says-resumed h next c))

-- ---- the first breakpoint

preparing-calm : (n h : ℕ) (next ready : Plan) → Calm next → Calm ready → Calm (preparing n h next ready)
unfolding preparing
preparing-calm zero h next ready cn cr = cr
preparing-calm (suc n) h next ready cn cr =
    calm-look_by h ready (say (Line.IsRunning h) next) (change (EbreakHalts h true) (preparing n (h + 1) next ready)) (says_of ready cr)
    (says-say (Line.IsRunning h) next cn)
    (says-change (EbreakHalts h true) (preparing n (h + 1) next ready) (says_of (preparing n (h + 1) next ready) (preparing-calm n (h + 1) next ready cn cr)))

prepared-calm : (ps : List ℕ) (next ready : Plan) → Calm next → Calm ready → Calm (prepared ps next ready)
prepared-calm [] next ready cn cr = preparing-calm most_harts 0 next ready cn cr
prepared-calm (a ∷ ps) next ready cn cr = cr

planting-calm : (a : ℕ) (next set : Plan) → Calm next → Calm set → Calm (planting a next set)
planting-calm a next set cn cs =
    calm-take Access _ (says-see
    (λ b. by_load (loaded b.memory a B4) (say (Line.MemoryFault a) next) (λ original. covering a original (say (Line.SoftSet a) set)))
    (λ b. says-by_load (loaded b.memory a B4) (say (Line.MemoryFault a) next) (λ original. covering a original (say (Line.SoftSet a) set))
    (says-say (Line.MemoryFault a) next cn)
    (λ original. says_of (covering a original (say (Line.SoftSet a) set))
    (covering-calm a original (say (Line.SoftSet a) set) (says-say (Line.SoftSet a) set cs)))))

-- ---- the commands

setting-calm : (a : ℕ) (s : SoftState) (next : SoftState → Plan) → ((t : SoftState) → Calm (next t)) → Calm (setting a s next)
setting-calm a s next f =
    calm-if (is_listed s.planted a) (say (Line.SoftIsSet a) (next s)) full (calm-say (Line.SoftIsSet a) (next s) (f s))
    (calm-if (length s.planted == most_planted) (say Line.NoFreeSoftBreak (next s)) (prepared s.planted (next s) (planting a (next s) later))
    (calm-say Line.NoFreeSoftBreak (next s) (f s))
    (prepared-calm s.planted (next s) (planting a (next s) later) (f s)
    (planting-calm a (next s) later (f s) (f (record s { planted = put_in a s.planted })))))
  where
    later : Plan
    later = next (record s { planted = put_in a s.planted })

    full : Plan
    full = if length s.planted == most_planted then say Line.NoFreeSoftBreak (next s) else prepared s.planted (next s) (planting a (next s) later)

clearing-calm : (a : ℕ) (s : SoftState) (next : SoftState → Plan) → ((t : SoftState) → Calm (next t)) → Calm (clearing a s next)
clearing-calm a s next f =
    calm-if (is_listed s.planted a) (lifting a (λ original. say (Line.SoftClear a) (next later))) (say (Line.SoftNotSet a) (next s))
    (lifting-calm a (λ original. say (Line.SoftClear a) (next later)) (λ original. says-say (Line.SoftClear a) (next later) (f later)))
    (calm-say (Line.SoftNotSet a) (next s) (f s))
  where
    later : SoftState
    later = record s { planted = without a s.planted }

switching-calm : (on : Bool) (s : SoftState) (next : SoftState → Plan) → ((t : SoftState) → Calm (next t)) → Calm (switching on s next)
switching-calm on s next f =
    calm-halted h (next s) (if not on && has_some s.planted then say Line.SoftBreaksAreSet (next s)
    else change (EbreakHalts h on) (say (Line.Ebreak on) (next s))) (f s)
    (says-if (not on && has_some s.planted) (say Line.SoftBreaksAreSet (next s)) (change (EbreakHalts h on) (say (Line.Ebreak on) (next s)))
    (says-say Line.SoftBreaksAreSet (next s) (f s))
    (says-change (EbreakHalts h on) (say (Line.Ebreak on) (next s)) (says-say (Line.Ebreak on) (next s) (f s))))
  where
    h : ℕ
    h = s.plain.hart

-- a command that is as it was
as_it_was : (c : Command) (s : SoftState) (next : SoftState → Plan) → ((t : SoftState) → Calm (next t))
    → Calm (act c s.plain (λ t. next (record s { plain = t })))
as_it_was c s next f = act-calm c s.plain (λ t. next (record s { plain = t })) (λ t. f (record s { plain = t }))

plain-calm : (c : Command) (s : SoftState) (next : SoftState → Plan) → ((t : SoftState) → Calm (next t)) → Calm (plain_act c s next)
plain-calm command.Resume s next f =
    calm-halted s.plain.hart (next s) (see (soft_resuming s.planted s.plain.hart (next s))) (f s) (resuming-says s.planted s.plain.hart (next s) (f s))
plain-calm (command.Step k) s next f =
    calm-halted s.plain.hart (next s) (soft_stepping k s.planted s.plain.hart (stop_line s.plain.hart (next s))) (f s)
    (stepping-says k s.planted s.plain.hart (stop_line s.plain.hart (next s)) (says-stop_line s.plain.hart (next s) (f s)))
plain-calm (command.Ebreak on) s next f = switching-calm on s next f
plain-calm command.End s next f = closing-calm s.planted
plain-calm command.Idcode s next f = as_it_was command.Idcode s next f
plain-calm (command.Hart n) s next f = as_it_was (command.Hart n) s next f
plain-calm command.State s next f = as_it_was command.State s next f
plain-calm command.Halt s next f = as_it_was command.Halt s next f
plain-calm (command.Wait k) s next f = as_it_was (command.Wait k) s next f
plain-calm command.Regs s next f = as_it_was command.Regs s next f
plain-calm (command.Reg r) s next f = as_it_was (command.Reg r) s next f
plain-calm (command.SetReg r v) s next f = as_it_was (command.SetReg r v) s next f
plain-calm (command.Read size a count) s next f = as_it_was (command.Read size a count) s next f
plain-calm (command.Write size a v count) s next f = as_it_was (command.Write size a v count) s next f
plain-calm (command.Dump a count) s next f = as_it_was (command.Dump a count) s next f
plain-calm (command.Via path) s next f = as_it_was (command.Via path) s next f
plain-calm (command.Break a) s next f = as_it_was (command.Break a) s next f
plain-calm (command.Watch kind a) s next f = as_it_was (command.Watch kind a) s next f
plain-calm (command.Count turns) s next f = as_it_was (command.Count turns) s next f
plain-calm (command.Clear slot) s next f = as_it_was (command.Clear slot) s next f
plain-calm command.Slots s next f = as_it_was command.Slots s next f

commands-calm : (script : List SoftCommand) (s : SoftState) → Calm (soft_commands script s)
commands-calm [] s = closing-calm s.planted
commands-calm (Plain c ∷ cs) s = plain-calm c s (soft_commands cs) (commands-calm cs)
commands-calm (Soft a ∷ cs) s = setting-calm a s (soft_commands cs) (commands-calm cs)
commands-calm (Unsoft a ∷ cs) s = clearing-calm a s (soft_commands cs) (commands-calm cs)

-- ---- sessions

pub sessions_say_quietly : LoweredSessionsSayQuietly
sessions_say_quietly script =
    lower-says (soft_session script) no_table (calm-look 0 (λ seen. soft_commands script first_soft_state)
    (λ seen. says_of (soft_commands script first_soft_state) (commands-calm script first_soft_state))).says
