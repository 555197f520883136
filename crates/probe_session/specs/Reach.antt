-- The way on which a command reaches memory, and the place of a session that goes it.
-- It is this project's own.
use Rattle.std.specs.Prelude.{ℕ, List, [], map}
use Rattle.rv_model.specs.declared.size.Size.{Size}
use Rattle.debug_model.specs.declared.command.Path.{Path}
use Rattle.debug_model.specs.declared.command.Path.TheVariants.{Progbuf, Bus}
use Rattle.debug_model.specs.Kept.{DmiSeen}
use Rattle.abstract_debugger.specs.Debugger.{State, at_aligned, at_path, dumping, reading, register_line, saying, shown_registers, slots_shown_at}
use Rattle.abstract_debugger.specs.Debugger.{stepping, stop_line, writing}
use Rattle.abstract_debugger.specs.Lines.{Line}
use Rattle.abstract_debugger.specs.Plan.{Plan}
use Rattle.abstract_debugger.specs.Plan.Plan.{say, see}
use Rattle.abstract_debugger.specs.Ways.{Way}
use Rattle.abstract_debugger.specs.Ways.Way.{Idle, Still}
use Rattle.probe_run.specs.Acts.{Tells}
use Rattle.probe_session.specs.declared.reach.Reach.{Reach}
use Rattle.probe_session.specs.declared.reach.Reach.TheVariants as reach
use Rattle.probe_session.specs.declared.reach.Reached.{Reached}
use Rattle.probe_session.specs.declared.reach.Reached.TheVariants as reached
use Rattle.probe_session.specs.Goes.{Went}
use Rattle.probe_session.specs.Links.{Attached, AttachedHalted}
use Rattle.probe_session.specs.Places.{Place, at_say, idle, place}
use Rattle.probe_session.specs.Said.{said_by}

abbrev pub way_by : Reach → Way
way_by (reach.Hart x) = Still
way_by reach.Bus = Idle

abbrev pub hart_by : Reach → ℕ
hart_by (reach.Hart x) = x.number
hart_by reach.Bus = 0

abbrev pub path_by : Reach → Path
path_by (reach.Hart x) = Progbuf
path_by reach.Bus = Bus

abbrev pub place_by : Reach → Plan → Place
place_by r p = place (way_by r) (hart_by r) p

abbrev pub AttachedBy : Reach → DmiSeen → Type 0
AttachedBy (reach.Hart x) s = AttachedHalted x.number s
AttachedBy reach.Bus s = Attached s

-- what is left of a command that reaches memory, by the path that it takes, and what follows it
pub record MemoryRest : Type 0 where
  pub body : Path → Plan
  pub next : Plan

abbrev pub before_reach : State → MemoryRest → Place
before_reach s r = idle (at_path s r.next (r.body s.path))

abbrev pub ReachedAs : State → (old new : Tells) → Reached → Type 0
ReachedAs s old new (reached.By r) = Went (before_reach s) (λ rest. place_by r (rest.body (path_by r))) [] old new
ReachedAs s old new (reached.Says line) = Went (before_reach s) (λ rest. at_say (said_by line) rest.next) [] old new

abbrev pub AttachedReached : Reached → DmiSeen → Type 0
AttachedReached (reached.By r) s = AttachedBy r s
AttachedReached (reached.Says line) s = Attached s

-- ---- the bodies of the commands that reach memory

abbrev pub written : Size → ℕ → ℕ → ℕ → Path → Plan → Plan
written size address value count path next = at_aligned address size next (writing path count size address value next (say (Line.Wrote count) next))

abbrev pub read : Size → ℕ → ℕ → Path → Plan → Plan
read size address count path next = at_aligned address size next (reading path count size address next)

abbrev pub dumped : ℕ → ℕ → Path → Plan → Plan
dumped address count path next = dumping path count address [] next

-- ---- and of those that a halted hart does, with several lines or steps

abbrev pub all_shown : ℕ → Plan → Plan
all_shown h next = see (λ b. saying (map (register_line h b) shown_registers) next)

abbrev pub some_shown : ℕ → List ℕ → Plan → Plan
some_shown h numbers next = see (λ b. saying (map (register_line h b) numbers) next)

abbrev pub slots_shown : ℕ → Plan → Plan
slots_shown h next = see (λ b. saying (slots_shown_at h b) next)

abbrev pub stepped : ℕ → ℕ → Plan → Plan
stepped count h next = stepping count h (stop_line h next)
