-- What a command shows: where its lines stand in the plan, and what the session finds of its link in front of them.
-- It is this project's own.
use Rattle.std.specs.Prelude.{◌≡◌, [], Option, Some, None}
use Rattle.rv_model.specs.Size.{count_of}
use Rattle.debug_model.specs.declared.command.Command.{Command}
use Rattle.debug_model.specs.declared.command.Command.TheVariants as command
use Rattle.debug_model.specs.Command.{IsBlock}
use Rattle.debug_model.specs.Kept.{DmiSeen}
use Rattle.abstract_debugger.specs.Debugger.{State}
use Rattle.abstract_debugger.specs.Plan.{Plan}
use Rattle.probe_run.specs.Acts.{Tells}
use Rattle.probe_session.specs.declared.shown.Shown.{Shown}
use Rattle.probe_session.specs.declared.shown.Shown.TheVariants as shown
use Rattle.probe_session.specs.Commands.{before}
use Rattle.probe_session.specs.Goes.{Went}
use Rattle.probe_session.specs.Links.{Attached, AttachedHalted}
use Rattle.probe_session.specs.Places.{Place, at_say}
use Rattle.probe_session.specs.Reach.{AttachedBy}
use Rattle.probe_session.specs.Said.{said_by}
use Rattle.probe_session.specs.Showing.{at_all_registers, at_dump, at_read, at_slots}

-- in front of its lines, and what follows them
abbrev pub at_lines_of : Shown → Plan → Place
at_lines_of (shown.Line line) next = at_say (said_by line) next
at_lines_of (shown.Registers x) next = at_all_registers x.number next
at_lines_of (shown.Slots x) next = at_slots x.number next
at_lines_of (shown.Elements r size address count) next = at_read r size address count next
at_lines_of (shown.Bytes r address count) next = at_dump r address count next

-- the same, whatever follows the command, by the state that it leaves
abbrev pub at_shown : Shown → State → (State → Plan) → Place
at_shown x s next = at_lines_of x (next s)

-- the hart that is to be read is halted
abbrev pub AttachedShown : Shown → DmiSeen → Type 0
AttachedShown (shown.Line line) s = Attached s
AttachedShown (shown.Registers x) s = AttachedHalted x.number s
AttachedShown (shown.Slots x) s = AttachedHalted x.number s
AttachedShown (shown.Elements r size address count) s = AttachedBy r s
AttachedShown (shown.Bytes r address count) s = AttachedBy r s

-- what is read of memory lies within 64 bits of addresses
abbrev pub IsOfBlock : Shown → Type 0
IsOfBlock (shown.Line line) = Unit {0}
IsOfBlock (shown.Registers x) = Unit {0}
IsOfBlock (shown.Slots x) = Unit {0}
IsOfBlock (shown.Elements r size address count) = IsBlock (count_of size) address count
IsOfBlock (shown.Bytes r address count) = IsBlock 1 address count

-- a fact that holds behind a line
abbrev pub IfLine : Shown → Type 0 → Type 0
IfLine (shown.Line line) P = P
IfLine (shown.Registers x) P = Unit {0}
IfLine (shown.Slots x) P = Unit {0}
IfLine (shown.Elements r size address count) P = Unit {0}
IfLine (shown.Bytes r address count) P = Unit {0}

-- ---- of a command: nothing is shown of the one that ends a session, which does nothing

pub record Ends (c : Command) (s t : State) (old new : Tells) : Type 0 where
  pub ends : c ≡ command.End
  pub state : t ≡ s
  pub link : new ≡ old

-- it was done up to what it shows
abbrev pub DoneUpTo : Command → (s t : State) → (old new : Tells) → Option Shown → Type 0
DoneUpTo c s t old new (Some x) = Went (before c s) (at_shown x t) [] old new
DoneUpTo c s t old new None = Ends c s t old new

abbrev pub AttachedUpTo : Option Shown → DmiSeen → Type 0
AttachedUpTo (Some x) s = AttachedShown x s
AttachedUpTo None s = Attached s
