-- Where a command begins, and where it ends.
-- It is this project's own.
use Rattle.std.specs.Prelude.{ℕ, Bool, if◌then◌else◌}
use Rattle.rv_model.specs.Registers.{csr_read_only}
use Rattle.debug_model.specs.declared.command.Command.{Command}
use Rattle.debug_model.specs.Tap.{idcode}
use Rattle.abstract_debugger.specs.Debugger.{State, act, arming, freeing, going, one, showing, stop_line}
use Rattle.abstract_debugger.specs.Lines.{Line}
use Rattle.abstract_debugger.specs.Plan.{Plan}
use Rattle.abstract_debugger.specs.Plan.Change.{EbreakHalts, WriteReg}
use Rattle.abstract_debugger.specs.Plan.Plan.{change, say, see}
use Rattle.abstract_debugger.specs.Slots.{any_hit, slots_at}
use Rattle.abstract_debugger.specs.Trace.{What}
use Rattle.probe_session.specs.declared.session.Session.{Session}
use Rattle.probe_session.specs.Places.{Place, at_say, idle, still}

-- what the session has chosen for the commands to come
abbrev pub state_of : Session → State
state_of s = record { hart = s.hart; path = s.path }

-- in front of a command, whatever follows it
abbrev pub before : Command → State → (State → Plan) → Place
before command s next = idle (act command s next)

-- at the line that ends a command
abbrev pub at_line : Line → State → (State → Plan) → Place
at_line line s next = at_say line (next s)

-- behind it
abbrev pub behind : State → (State → Plan) → Place
behind s next = idle (next s)

-- ---- the same of what a halted hart does

-- at the last line, and nothing more of the hart
abbrev pub ends_with : Line → Plan → Place
ends_with line next = at_say line next

abbrev pub at_stop_line : ℕ → Plan → Place
at_stop_line h next = still h (stop_line h next)

abbrev pub shown : ℕ → ℕ → Plan → Plan
shown number h next = showing h number next

abbrev pub at_register : ℕ → ℕ → Plan → Place
at_register h number next = still h (shown number h next)

abbrev pub written_and_shown : ℕ → ℕ → ℕ → Plan → Plan
written_and_shown number value h next =
    if csr_read_only number then say (Line.RegisterRefused number) next else change (WriteReg h number value) (shown number h next)

abbrev pub at_written_register : ℕ → ℕ → ℕ → Plan → Place
at_written_register h number value next = still h (written_and_shown number value h next)

abbrev pub ebreak_set : Bool → ℕ → Plan → Plan
ebreak_set on h next = change (EbreakHalts h on) (say (Line.Ebreak on) next)

abbrev pub at_ebreak : ℕ → Bool → Plan → Place
at_ebreak h on next = still h (ebreak_set on h next)

abbrev pub armed : What → ℕ → Plan → Plan
armed what h next = arming h what next

abbrev pub at_arming : ℕ → What → Plan → Place
at_arming h what next = still h (armed what h next)

abbrev pub freed : ℕ → ℕ → Plan → Plan
freed slot h next = freeing h slot next

abbrev pub at_freeing : ℕ → ℕ → Plan → Place
at_freeing h slot next = still h (freed slot h next)

-- a hart is let go; where slots have a hit it is stepped over them first
abbrev pub let_go : ℕ → Plan → Plan
let_go h next = see (λ b. if any_hit (slots_at h b) then one h (going h (say Line.Resumed next)) (stop_line h next) else going h (say Line.Resumed next))

abbrev pub at_letting_go : ℕ → Plan → Place
at_letting_go h next = still h (let_go h next)

abbrev pub at_idcode : Plan → Place
at_idcode next = idle (say (Line.Idcode idcode) next)
