-- The debug module: what a read or a write of each of its addresses gives, changes in module and board, and appends to the journal.
-- RISC-V Debug Specification 1.0, "Debug Module Registers", "Selecting Harts", "Run Control". That only hartsello and dmactive are kept, that requests of
-- harts outlive a reset of the module, and that a busy module ignores dmcontrol, are this project's own choices (docs/DEBUG_MODULE.md).
use Rattle.std.specs.Prelude.{ℕ, ◌==◌, Bool, true, false, if◌then◌else◌, nat_lt, List, [], ◌∷◌, ◌++◌, map, Option, Some, None, is_some, slice_get}
use Rattle.jt_base.specs.BitList.{number_of}
use Rattle.rv_model.specs.declared.version.Version.{Version}
use Rattle.rv_model.specs.Board.{Board, DebugPart, Hart}
use Rattle.rv_model.specs.Version.{version_number}
use Rattle.debug_model.specs.Addresses.{data0_address, data1_address, dmcontrol_address, dmstatus_address, abstractcs_address, command_address}
use Rattle.debug_model.specs.Addresses.{abstractauto_address, progbuf0_address, progbuf1_address, progbuf2_address, progbuf3_address, sbcs_address}
use Rattle.debug_model.specs.Addresses.{sbaddress0_address, sbaddress1_address, sbdata0_address, sbdata1_address, haltsum0_address}
use Rattle.debug_model.specs.declared.command_word.CommandWord.TheVariants as word
use Rattle.debug_model.specs.declared.dmcontrol.Dmcontrol.{Dmcontrol}
use Rattle.debug_model.specs.declared.dmi_op.DmiOp.{DmiOp}
use Rattle.debug_model.specs.declared.dmi_op.DmiOp.TheVariants.{Read, Write}
use Rattle.debug_model.specs.declared.dmstatus.Dmstatus.{Dmstatus}
use Rattle.debug_model.specs.declared.module_register.ModuleRegister.{ModuleRegister}
use Rattle.debug_model.specs.declared.module_register.ModuleRegister.TheVariants.{Word, Dmcontrol as dmcontrol, Dmstatus as dmstatus, Abstractcs, Command}
use Rattle.debug_model.specs.declared.module_register.ModuleRegister.TheVariants.{Abstractauto, Sbcs, Sbaddress0, Sbaddress1, Sbdata0, Sbdata1, Haltsum0}
use Rattle.debug_model.specs.declared.module_register.ModuleRegister.TheVariants.{Nothing}
use Rattle.debug_model.specs.declared.point.Point.{Point}
use Rattle.debug_model.specs.declared.point.Point.TheVariants.{Look, HaltReq, HaltClear, ResumeReq}
use Rattle.debug_model.specs.Commands.{CommandUnit, reset_commands, busy, word_in, word_read, word_written, abstractcs_shown, abstractcs_written}
use Rattle.debug_model.specs.Commands.{command_written, abstractauto_written, low_half, high_half}
use Rattle.debug_model.specs.Journal.{after_journal, debug_changed}
use Rattle.debug_model.specs.ModuleWords.{abstractauto_word, abstractcs_word, dmcontrol_of, dmcontrol_word, dmstatus_word, sbcs_word}
use Rattle.debug_model.specs.SystemBus.{BusUnit, reset_bus, sbcs_shown, sbcs_written, bus_looked, sbdata0_read, sbaddress0_written, sbaddress1_written}
use Rattle.debug_model.specs.SystemBus.{sbdata0_written, sbdata1_written}

pub record DebugModule : Type 0 where
  pub version : Version  -- of the specification that the module follows: it never changes
  pub active : Bool  -- dmactive
  pub hartsel : ℕ  -- hartsello, below 2^10
  pub commands : CommandUnit
  pub bus : BusUnit

abbrev pub reset_module : Version → DebugModule
reset_module version = record { version = version; active = false; hartsel = 0; commands = reset_commands; bus = reset_bus }

-- all that stands behind the transport
pub record Site : Type 0 where
  pub unit : DebugModule
  pub board : Board
  pub journal : List Point

-- ---- the addresses

-- what stands at an address
unfoldable pub register_at : ℕ → ModuleRegister
register_at a =
    if a == data0_address then Word word.Data0
    else (if a == data1_address then Word word.Data1
    else (if a == dmcontrol_address then dmcontrol
    else (if a == dmstatus_address then dmstatus
    else (if a == abstractcs_address then Abstractcs
    else (if a == command_address then Command
    else (if a == abstractauto_address then Abstractauto
    else (if a == progbuf0_address then Word word.Progbuf0
    else (if a == progbuf1_address then Word word.Progbuf1
    else (if a == progbuf2_address then Word word.Progbuf2
    else (if a == progbuf3_address then Word word.Progbuf3
    else (if a == sbcs_address then Sbcs
    else (if a == sbaddress0_address then Sbaddress0
    else (if a == sbaddress1_address then Sbaddress1
    else (if a == sbdata0_address then Sbdata0
    else (if a == sbdata1_address then Sbdata1
    else (if a == haltsum0_address then Haltsum0 else Nothing))))))))))))))))

-- ---- what a read shows

-- by the release that the module follows
abbrev pub hart_status : Version → Option Hart → Dmstatus
hart_status version (Some hart) = record {
  havereset = hart.debug.have_reset;
  resumeack = hart.debug.resume_ack;
  nonexistent = false;
  running = if is_some hart.debug.halted then false else true;
  halted = is_some hart.debug.halted;
  authenticated = true;
  version = version_number version;
}
hart_status version None = record {
  havereset = false;
  resumeack = false;
  nonexistent = true;
  running = false;
  halted = false;
  authenticated = true;
  version = version_number version;
}

abbrev pub selected_hart : Site → Option Hart
selected_hart s = slice_get s.board.harts s.unit.hartsel

abbrev pub dmcontrol_shown : DebugModule → Dmcontrol
dmcontrol_shown m = record { haltreq = false; resumereq = false; ackhavereset = false; hartsello = m.hartsel; dmactive = m.active }

abbrev pub is_halted : Hart → Bool
is_halted hart = is_some hart.debug.halted

-- harts are numbered from 0, and a group has 32 of them
abbrev pub group_size : ℕ
group_size = 32

-- bit h is 1 where hart h is halted; a group without harts shows 0
abbrev pub haltsum : ℕ → List Hart → ℕ
haltsum selected harts = if nat_lt selected group_size then number_of (map is_halted harts) else 0

-- what a read of a register gives where the module is active
abbrev pub shown : ModuleRegister → Site → ℕ
shown (Word w) s = word_in w s.unit.commands
shown dmcontrol s = dmcontrol_word (dmcontrol_shown s.unit)
shown dmstatus s = dmstatus_word (hart_status s.unit.version (selected_hart s))
shown Abstractcs s = abstractcs_word (abstractcs_shown s.unit.commands)
shown Command s = 0
shown Abstractauto s = abstractauto_word s.unit.commands.auto
shown Sbcs s = sbcs_word (sbcs_shown s.unit.bus)
shown Sbaddress0 s = low_half s.unit.bus.address
shown Sbaddress1 s = high_half s.unit.bus.address
shown Sbdata0 s = low_half s.unit.bus.value
shown Sbdata1 s = high_half s.unit.bus.value
shown Haltsum0 s = haltsum s.unit.hartsel s.board.harts
shown Nothing s = 0

-- while it is not, every register but dmcontrol reads 0
abbrev pub shown_inactive : ModuleRegister → Site → ℕ
shown_inactive dmcontrol s = dmcontrol_word (dmcontrol_shown s.unit)
shown_inactive _ s = 0

abbrev pub result_by : Bool → ModuleRegister → Site → ℕ
result_by true r s = shown r s
result_by false r s = shown_inactive r s

-- the result of a read of an address
abbrev pub result_of : ℕ → Site → ℕ
result_of a s = result_by s.unit.active (register_at a) s

-- ---- what a read changes

abbrev pub with_commands : (CommandUnit → CommandUnit) → Site → Site
with_commands change s = record s { unit = record s.unit { commands = change s.unit.commands } }

abbrev pub with_bus : (BusUnit → BusUnit) → Site → Site
with_bus change s = record s { unit = record s.unit { bus = change s.unit.bus } }

-- these points happen to the board, and the journal has them
abbrev pub noted : List Point → Site → Site
noted ps s = record s { board = after_journal ps s.board; journal = s.journal ++ ps }

abbrev pub read_by : ModuleRegister → Site → Site
read_by (Word w) s = with_commands (word_read w (selected_hart s)) s
read_by dmcontrol s = s
read_by dmstatus s = noted (Look s.unit.hartsel ∷ []) s
read_by Abstractcs s = s
read_by Command s = s
read_by Abstractauto s = s
read_by Sbcs s = s
read_by Sbaddress0 s = with_bus bus_looked s
read_by Sbaddress1 s = with_bus bus_looked s
read_by Sbdata0 s = with_bus sbdata0_read s
read_by Sbdata1 s = with_bus bus_looked s
read_by Haltsum0 s = s
read_by Nothing s = s

-- the site behind a read of an address
abbrev pub after_read : ℕ → Site → Site
after_read a s = if s.unit.active then read_by (register_at a) s else s

-- ---- what a write changes

abbrev pub halt_points : Bool → Bool → ℕ → List Point
halt_points true request h = HaltReq h ∷ []
halt_points false true h = HaltClear h ∷ []
halt_points false false h = []

abbrev pub resume_points : Bool → Bool → ℕ → List Point
resume_points false true h = ResumeReq h ∷ []
resume_points false false h = []
resume_points true resumes h = []

-- the requests that a write of dmcontrol makes of the hart that it selects, where there is one
abbrev pub control_points : Dmcontrol → Option Hart → List Point
control_points k (Some hart) = halt_points k.haltreq hart.debug.halt_request k.hartsello ++ resume_points k.haltreq k.resumereq k.hartsello
control_points k None = []

abbrev pub reset_known : Bool → DebugPart → DebugPart
reset_known true d = record d { have_reset = false }
reset_known false d = d

abbrev pub with_selection : ℕ → Site → Site
with_selection h s = record s { unit = record s.unit { active = true; hartsel = h } }

-- first the hart is selected, then it is asked
abbrev pub asked : Dmcontrol → Site → Site
asked k s = noted (control_points k (slice_get s.board.harts k.hartsello)) (with_selection k.hartsello s)

abbrev pub acknowledged : Dmcontrol → Site → Site
acknowledged k s = record s { board = debug_changed (reset_known k.ackhavereset) k.hartsello s.board }

-- a write with dmactive 0 resets the module and stops what is under way; the release that it follows, the board and its requests stay
abbrev pub controlled_by : Bool → Dmcontrol → Site → Site
controlled_by true k s = if busy s.unit.commands then s else acknowledged k (asked k s)
controlled_by false k s = record s { unit = reset_module s.unit.version }

abbrev pub controlled : ℕ → Site → Site
controlled v s = controlled_by (dmcontrol_of v).dmactive (dmcontrol_of v) s

-- of registers other than dmcontrol
abbrev pub written_by : ModuleRegister → ℕ → Site → Site
written_by (Word w) v s = with_commands (word_written w v (selected_hart s)) s
written_by dmcontrol v s = s
written_by dmstatus v s = s
written_by Abstractcs v s = with_commands (abstractcs_written v) s
written_by Command v s = with_commands (command_written v (selected_hart s)) s
written_by Abstractauto v s = with_commands (abstractauto_written v) s
written_by Sbcs v s = with_bus (sbcs_written v) s
written_by Sbaddress0 v s = with_bus (sbaddress0_written v) s
written_by Sbaddress1 v s = with_bus (sbaddress1_written v) s
written_by Sbdata0 v s = with_bus (sbdata0_written v) s
written_by Sbdata1 v s = with_bus (sbdata1_written v) s
written_by Haltsum0 v s = s
written_by Nothing v s = s

abbrev pub write_by : ModuleRegister → ℕ → Site → Site
write_by dmcontrol v s = controlled v s
write_by r v s = if s.unit.active then written_by r v s else s

-- the site behind a write of a word to an address
abbrev pub after_write : ℕ → ℕ → Site → Site
after_write a v s = write_by (register_at a) v s

-- ---- operations

-- the site behind an operation
abbrev pub operated : DmiOp → Site → Site
operated (Read a) s = after_read a s
operated (Write a v) s = after_write a v s

-- its result, taken of the site before it; a write's is the word that is written
abbrev pub operation_result : DmiOp → Site → ℕ
operation_result (Read a) s = result_of a s
operation_result (Write a v) s = v
