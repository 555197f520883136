-- How the parts of a loading went, each from its place in the plan to the line that says what became of it.
-- It is this project's own.
use Rattle.std.specs.Prelude.{◌≡◌, ℕ, Bool, true, false, List, [], if◌then◌else◌}
use Rattle.debug_model.specs.Kept.{DmiSeen}
use Rattle.abstract_debugger.specs.Debugger.{at_halted}
use Rattle.abstract_debugger.specs.Lines.{Line, is_error}
use Rattle.abstract_debugger.specs.Plan.{Plan}
use Rattle.elf_load.specs.declared.element.Element.{Element}
use Rattle.printed_lines.specs.declared.line.Line.{Line as PrintedLine}
use Rattle.printed_lines.specs.Line.{line_of}
use Rattle.probe_run.specs.Acts.{Tells}
use Rattle.probe_session.specs.Goes.{Went}
use Rattle.probe_session.specs.Links.{Attached, AttachedHalted}
use Rattle.probe_session.specs.Places.{Place, at_say, idle, still}
use Rattle.probe_session.specs.Said.{said_by}
use Rattle.elf_session.specs.declared.loading.Stored.{Stored}
use Rattle.elf_session.specs.declared.loading.Stored.TheVariants as stored
use Rattle.elf_session.specs.Loading.{Loading, entering, loading, loading_hart, not_loaded, storing_each}

-- ---- where each part begins, whatever follows it

abbrev pub before_loading : Loading → Plan → Place
before_loading l next = idle (loading l next)

-- the hart was seen halted
abbrev pub at_elements : List Element → Plan → Place
at_elements es next = still loading_hart (storing_each es next)

abbrev pub before_entry : (entry size : ℕ) → Plan → Place
before_entry entry size next = idle (at_halted loading_hart not_loaded (entering loading_hart entry size next))

abbrev pub at_entry : (hart entry size : ℕ) → Plan → Place
at_entry h entry size next = still h (entering h entry size next)

-- ---- where it ends

-- behind a line of an error the script does not run
abbrev pub follows : (wrong : Bool) → Plan → Plan
follows wrong next = if wrong then not_loaded else next

-- at the line that says what became of it
abbrev pub at_loaded : PrintedLine → Plan → Place
at_loaded line next = at_say (said_by line) (follows (is_error (line_of line)) next)

-- and behind it
abbrev pub behind_loading : (wrong : Bool) → Plan → Place
behind_loading wrong next = idle (follows wrong next)

-- all elements were stored, with so many bytes; or memory refused the one at this address
abbrev pub StoredAs : Loading → (old new : Tells) → Stored → Type 0
StoredAs l old new (stored.All size) = (size ≡ l.size) × Went (at_elements l.elements) (still loading_hart) [] old new
StoredAs l old new (stored.UpTo at) = Went (at_elements l.elements) (λ next. at_say (Line.MemoryFault at) not_loaded) [] old new

-- ---- the link: where the program is loaded its hart is halted

abbrev pub AttachedIf : (wrong : Bool) → DmiSeen → Type 0
AttachedIf true s = Attached s
AttachedIf false s = AttachedHalted loading_hart s

abbrev pub AttachedLoaded : PrintedLine → DmiSeen → Type 0
AttachedLoaded line s = AttachedIf (is_error (line_of line)) s
