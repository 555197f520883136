-- The abstract debugger with software breakpoints: `soft`, `unsoft`, and what the other commands do beside them, as plans.
-- It is this project's own. A breakpoint that is set is planted; while a hart steps over it, it is lifted, and the word is covered again behind the step.
use Rattle.std.specs.Prelude.{ℕ, zero, suc, ◌+◌, Bool, true, false, not, ◌&&◌, ◌||◌, ◌==◌, nat_lt, List, [], ◌∷◌, length, Option, Some, None}
use Rattle.std.specs.Prelude.{slice_get, unwrap_or, if◌then◌else◌}
use Rattle.rv_model.specs.declared.size.Size.TheVariants.{B4}
use Rattle.rv_model.specs.Board.{Board, Hart}
use Rattle.rv_model.specs.Memory.{loaded, value_at}
use Rattle.debug_model.specs.declared.command.Command.{Command}
use Rattle.debug_model.specs.declared.command.Command.TheVariants as command
use Rattle.debug_model.specs.declared.soft_command.SoftCommand.{SoftCommand}
use Rattle.debug_model.specs.declared.soft_command.SoftCommand.TheVariants.{Plain, Soft, Unsoft}
use Rattle.debug_model.specs.declared.point.Point.{Point}
use Rattle.debug_model.specs.declared.point.Point.TheVariants.{Access}
use Rattle.abstract_debugger.specs.Debugger.{State, act, at_halted, by_load, by_state, first_state, going, look, one, stop_line}
use Rattle.abstract_debugger.specs.Lines.{Line}
use Rattle.abstract_debugger.specs.Plan.{Plan, patch_bytes}
use Rattle.abstract_debugger.specs.Plan.Change.{EbreakHalts, Patch}
use Rattle.abstract_debugger.specs.Plan.Plan.{take, see, change, say, stop}
use Rattle.abstract_debugger.specs.Plan.PlanEnd.{Done}
use Rattle.abstract_debugger.specs.Slots.{any_hit, slots_at}
use Rattle.abstract_debugger.specs.Transcript.{Outcome, start}
use Rattle.soft_laws.specs.SoftBreaks.{has_some, is_listed, without}
use Rattle.soft_laws.specs.SoftReplay.{soft_replay}

-- what commands choose for those behind them, and the addresses at which breakpoints are planted, upwards
pub record SoftState : Type 0 where
  pub plain : State
  pub planted : List ℕ

-- ---- limits

-- as many breakpoints are planted at most
abbrev pub most_planted : ℕ
most_planted = 32

-- as many harts are looked for at most
abbrev pub most_harts : ℕ
most_harts = 1024

-- ---- one patch

-- an address put into a list that goes upwards
abbrev pub put_in : ℕ → List ℕ → List ℕ
put_in a [] = a ∷ []
put_in a (c ∷ cs) = if nat_lt a c then a ∷ c ∷ cs else c ∷ put_in a cs

-- the word at an address, 0 where memory has none
abbrev pub word_at : ℕ → Board → ℕ
word_at a b = unwrap_or (value_at b.memory.bytes a patch_bytes) 0

-- the word is uncovered by one Access; what follows knows it
abbrev pub lifting : ℕ → (next : ℕ → Plan) → Plan
lifting a next = take Access (see (λ b. change (Patch a (word_at a b) false) (next (word_at a b))))

-- the word is covered by one Access, and is known to be this
abbrev pub covering : (a original : ℕ) → (next : Plan) → Plan
covering a original next = take Access (see (λ b. change (Patch a original true) next))

-- every breakpoint is taken out, upwards
abbrev pub closing : List ℕ → (next : Plan) → Plan
closing [] next = next
closing (a ∷ planted) next = lifting a (λ original. closing planted next)

-- ---- a step over a breakpoint

abbrev pub pc_here : Option Hart → ℕ
pc_here (Some hart) = hart.core.pc
pc_here None = 0

abbrev pub pc_at : ℕ → Board → ℕ
pc_at h b = pc_here (slice_get b.harts h)

-- one single step of hart h, whose pc is planted or not: the breakpoint is lifted for the step alone
abbrev pub one_by : (planted : Bool) → (pc h : ℕ) → (stepped other : Plan) → Plan
one_by true pc h stepped other = lifting pc (λ original. one h (covering pc original stepped) (covering pc original other))
one_by false pc h stepped other = one h stepped other

abbrev pub soft_one : List ℕ → ℕ → (stepped other : Plan) → Plan
soft_one planted h stepped other = see (λ b. one_by (is_listed planted (pc_at h b)) (pc_at h b) h stepped other)

-- up to so many single steps; it ends behind one that stopped for another cause
unfoldable pub soft_stepping : ℕ → List ℕ → ℕ → (next : Plan) → Plan
soft_stepping zero planted h next = next
soft_stepping (suc k) planted h next = soft_one planted h (soft_stepping k planted h next) next

abbrev pub soft_resuming : List ℕ → ℕ → (next : Plan) → Board → Plan
soft_resuming planted h next b =
    if any_hit (slots_at h b) || is_listed planted (pc_at h b)
    then soft_one planted h (going h (say Line.Resumed next)) (stop_line h next)
    else going h (say Line.Resumed next)

-- ---- the first breakpoint

-- a Look of each hart from h on, up to the first absent one, so many at most: each that is halted will halt at an ebreak, and a running one ends it
unfoldable pub preparing : ℕ → ℕ → (next ready : Plan) → Plan
preparing zero h next ready = ready
preparing (suc n) h next ready =
    look h (by_state ready (say (Line.IsRunning h) next) (change (EbreakHalts h true) (preparing n (h + 1) next ready)))

abbrev pub prepared : List ℕ → (next ready : Plan) → Plan
prepared [] next ready = preparing most_harts 0 next ready
prepared (a ∷ planted) next ready = ready

-- the word is read by one Access, and covered by another
abbrev pub planting : ℕ → (next set : Plan) → Plan
planting a next set =
    take Access (see (λ b. by_load (loaded b.memory a B4) (say (Line.MemoryFault a) next) (λ original. covering a original (say (Line.SoftSet a) set))))

-- ---- the commands

abbrev pub setting : ℕ → SoftState → (next : SoftState → Plan) → Plan
setting a s next =
    if is_listed s.planted a then say (Line.SoftIsSet a) (next s)
    else (if length s.planted == most_planted then say Line.NoFreeSoftBreak (next s)
    else prepared s.planted (next s) (planting a (next s) (next (record s { planted = put_in a s.planted }))))

abbrev pub clearing : ℕ → SoftState → (next : SoftState → Plan) → Plan
clearing a s next =
    if is_listed s.planted a
    then lifting a (λ original. say (Line.SoftClear a) (next (record s { planted = without a s.planted })))
    else say (Line.SoftNotSet a) (next s)

-- ebreaks go on halting where breakpoints need it
abbrev pub switching : Bool → SoftState → (next : SoftState → Plan) → Plan
switching on s next =
    at_halted s.plain.hart (next s) (if not on && has_some s.planted then say Line.SoftBreaksAreSet (next s)
    else change (EbreakHalts s.plain.hart on) (say (Line.Ebreak on) (next s)))

-- all but these four are as they are without breakpoints
abbrev pub plain_act : Command → SoftState → (next : SoftState → Plan) → Plan
plain_act command.Resume s next = at_halted s.plain.hart (next s) (see (soft_resuming s.planted s.plain.hart (next s)))
plain_act (command.Step k) s next = at_halted s.plain.hart (next s) (soft_stepping k s.planted s.plain.hart (stop_line s.plain.hart (next s)))
plain_act (command.Ebreak on) s next = switching on s next
plain_act command.End s next = closing s.planted (stop Done)
plain_act c s next = act c s.plain (λ t. next (record s { plain = t }))

abbrev pub soft_act : SoftCommand → SoftState → (next : SoftState → Plan) → Plan
soft_act (Plain c) s next = plain_act c s next
soft_act (Soft a) s next = setting a s next
soft_act (Unsoft a) s next = clearing a s next

abbrev pub soft_commands : List SoftCommand → SoftState → Plan
soft_commands [] s = closing s.planted (stop Done)
soft_commands (c ∷ cs) s = soft_act c s (soft_commands cs)

abbrev pub first_soft_state : SoftState
first_soft_state = record { plain = first_state; planted = [] }

-- the opening takes one Look, of hart 0
abbrev pub soft_session : List SoftCommand → Plan
soft_session script = look 0 (λ seen. soft_commands script first_soft_state)

-- what a session with software breakpoints prints, makes of a board without patches, and how it ends
abbrev pub soft_transcript : Board → List SoftCommand → List Point → Outcome
soft_transcript board script journal = soft_replay (soft_session script) (start board) journal
