-- What a session knows of its hart from one command to the next: said of the chip, where that is told.
-- It is this project's own.
use Rattle.std.specs.Prelude.{◌≡◌, ℕ, Bool, true, false, Option, Some, IfSome, slice_get, if◌then◌else◌, ◌==◌}
use Rattle.rv_model.specs.declared.cause.Cause.TheVariants.{Step}
use Rattle.rv_model.specs.Cause.{cause_number}
use Rattle.abstract_debugger.specs.Debugger.{halted_of}
use Rattle.abstract_debugger.specs.Plan.{is_step}
use Rattle.printed_lines.specs.declared.line.Line.{Line as PrintedLine}
use Rattle.printed_lines.specs.declared.line.Line.TheVariants as printed
use Rattle.probe_run.specs.Told.{Serving}
use Rattle.debug_model.specs.declared.command.Command.{Command}
use Rattle.debug_model.specs.declared.command.Command.TheVariants as command
use Rattle.debug_model.specs.declared.command.Path.{Path}
use Rattle.debug_model.specs.declared.command.Path.TheVariants.{Progbuf, Bus}
use Rattle.debug_model.specs.Told.{Far, Selects, site_of}
use Rattle.probe_session.specs.declared.acted.Acted.{Acted}
use Rattle.probe_session.specs.declared.acted.Acted.TheVariants as acted
use Rattle.probe_session.specs.declared.known.Known.{Known}
use Rattle.probe_session.specs.declared.known.Known.TheVariants as known
use Rattle.probe_session.specs.declared.session.Session.{Session}
use Rattle.probe_session.specs.declared.shown.Shown.{Shown}
use Rattle.probe_session.specs.declared.shown.Shown.TheVariants as shown

-- where the chip is told, hart h has halted behind a whole step
abbrev pub IsWhole : ℕ → Option Far → Type 0
IsWhole h told = IfSome told (λ f. is_step (halted_of (slice_get (site_of f).board.harts h)) ≡ true)

-- it is selected, and nothing is under way
pub record StandsStepped (h : ℕ) (far : Option Far) : Type 0 where
  pub serving : Serving h far
  pub whole : IsWhole h far

abbrev pub Knows : Known → ℕ → Option Far → Type 0
Knows known.Nothing h far = Unit {0}
Knows known.Selected h far = Selects h far
Knows known.Stepped h far = StandsStepped h far

-- ---- behind a command

abbrev pub is_selected : Known → Bool
is_selected known.Nothing = false
is_selected known.Selected = true
is_selected known.Stepped = true

abbrev pub is_stepped : Known → Bool
is_stepped known.Nothing = false
is_stepped known.Selected = false
is_stepped known.Stepped = true

-- where the hart may have gone on
abbrev pub without_step : Known → Known
without_step known.Nothing = known.Nothing
without_step known.Selected = known.Selected
without_step known.Stepped = known.Selected

-- of one that reaches memory: no hart takes part in an access by the bus
abbrev pub known_by : Path → Known → Known
known_by Progbuf k = known.Selected
known_by Bus k = without_step k

-- a line that says that the hart halted behind a whole step
abbrev pub says_step : PrintedLine → Bool
says_step (printed.Halted pc cause hits) = cause == cause_number Step
says_step _ = false

abbrev pub shows_step : Option Shown → Bool
shows_step (Some (shown.Line line)) = says_step line
shows_step _ = false

-- of one that was done and shows this, which left the session with this hart and path, and had found it with this knowledge
abbrev pub known_behind : Command → Option Shown → (hart : ℕ) → Path → Known → Known
known_behind command.Idcode s h path k = without_step k
known_behind (command.Hart n) s h path k = if n == h then known.Selected else known.Nothing
known_behind (command.Step count) s h path k = if shows_step s then known.Stepped else known.Selected
known_behind (command.Read size address count) s h path k = known_by path k
known_behind (command.Write size address value count) s h path k = known_by path k
known_behind (command.Dump address count) s h path k = known_by path k
known_behind (command.Via chosen) s h path k = without_step k
known_behind command.End s h path k = without_step k
known_behind _ s h path k = known.Selected

-- a hart that is to be read to show the rest may be known to be selected, and no more
abbrev pub IsKnownBeside : Option Shown → Known → Type 0
IsKnownBeside s known.Nothing = Unit {0}
IsKnownBeside s known.Selected = Unit {0}
IsKnownBeside s known.Stepped = shows_step s ≡ true

-- a session that goes on knows this
abbrev pub KnowsAfter : Acted → Session → Option Far → Type 0
KnowsAfter acted.Done s far = Knows s.known s.hart far
KnowsAfter acted.Error s far = Knows s.known s.hart far
KnowsAfter acted.End s far = Knows s.known s.hart far
KnowsAfter (acted.Wire why) s far = Unit {0}
KnowsAfter (acted.Lost why) s far = Unit {0}
KnowsAfter acted.Sink s far = Unit {0}
