-- What follows the opening of a session: a script, or the loading of an ELF file and then a script.
-- It is this project's own.
use Rattle.std.specs.Prelude.{ℕ, List}
use Rattle.abstract_debugger.specs.Debugger.{commands, first_state}
use Rattle.abstract_debugger.specs.Plan.{Plan}
use Rattle.debug_model.specs.declared.command.Command.{Command}
use Rattle.elf_session.specs.Loading.{elf_plan}
use Rattle.probe_session.specs.declared.ended.Ended.{Ended as End}
use Rattle.wire_session.specs.Seen.{SinkSeen, WireSeen}
use Rattle.wire_session.specs.WireSession.{WireUpTo}

pub data Sequel : Type 0 where
  of_script : (script : List Command) → Sequel
  of_elf : (file : List ℕ) → (script : List Command) → Sequel

-- the plan behind the opening
abbrev pub sequel_plan : Sequel → Plan
sequel_plan (of_script script) = commands script first_state
sequel_plan (of_elf file script) = elf_plan file script

-- Which command was under way where the session broke off: those in front of it were done, and all their lines are printed.
-- Of a session that loads a file nothing is said here.
abbrev pub UpTo : Sequel → (old new : WireSeen) → (was is : SinkSeen) → (closed : End) → Type 0
UpTo (of_script script) old new was is closed = WireUpTo script old new was is closed
UpTo (of_elf file script) old new was is closed = Unit {0}
