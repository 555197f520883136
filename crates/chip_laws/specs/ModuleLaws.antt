-- Laws of the debug module in the standard's words: who may ask a hart, what a read leaves, and whom a command touches.
-- RISC-V Debug Specification 1.0, "Selecting Harts", "Run Control" and "Abstract Commands".
use Rattle.std.specs.Prelude.{◌≡◌, ◌≢◌, ℕ, ⊤, ◌<◌, true, false, List, length, Some, None, slice_get}
use Rattle.std.specs.Option.{option_map_or}
use Rattle.rv_model.specs.declared.cause.Cause.{Cause}
use Rattle.rv_model.specs.Board.{Board, Hart}
use Rattle.rv_model.specs.Fields.{bit}
use Rattle.rv_model.specs.Memory.{Memory}
use Rattle.rv_model.specs.Turn.{memory_after, place_of}
use Rattle.debug_model.specs.declared.dmi_op.DmiOp.{DmiOp}
use Rattle.debug_model.specs.declared.dmi_op.DmiOp.TheVariants.{Read, Write}
use Rattle.debug_model.specs.declared.module_register.ModuleRegister.{ModuleRegister}
use Rattle.debug_model.specs.declared.module_register.ModuleRegister.TheVariants.{Word, Dmcontrol, Dmstatus, Abstractcs, Command, Abstractauto, Sbcs}
use Rattle.debug_model.specs.declared.module_register.ModuleRegister.TheVariants.{Sbaddress0, Sbaddress1, Sbdata0, Sbdata1, Haltsum0, Nothing}
use Rattle.debug_model.specs.declared.point.Point.TheVariants.{ResumeReq}
use Rattle.debug_model.specs.Commands.{busy}
use Rattle.debug_model.specs.Deeds.{command_stepped}
use Rattle.debug_model.specs.Journal.{after_point}
use Rattle.debug_model.specs.Module.{Site, after_read, controlled, group_size, haltsum, is_halted, operated, register_at, reset_module}
use Rattle.debug_model.specs.ModuleWords.{dmcontrol_of}

-- ---- harts are asked by dmcontrol alone

abbrev pub AsksNoHart : DmiOp → Type 0
AsksNoHart (Read a) = ⊤
AsksNoHart (Write a v) = register_at a ≢ Dmcontrol

abbrev pub OnlyDmcontrolAsksHarts : Type 0
OnlyDmcontrolAsksHarts = (op : DmiOp) (s : Site) → AsksNoHart op → (operated op s).board ≡ s.board

-- ---- reads

-- a read of it may change something: it is looked at, starts a command or an access, or may not be read now
abbrev pub IsPlain : ModuleRegister → Type 0
IsPlain (Word w) = ⊥
IsPlain Dmcontrol = ⊤
IsPlain Dmstatus = ⊥
IsPlain Abstractcs = ⊤
IsPlain Command = ⊤
IsPlain Abstractauto = ⊤
IsPlain Sbcs = ⊤
IsPlain Sbaddress0 = ⊥
IsPlain Sbaddress1 = ⊥
IsPlain Sbdata0 = ⊥
IsPlain Sbdata1 = ⊥
IsPlain Haltsum0 = ⊤
IsPlain Nothing = ⊤

abbrev pub PlainReadsChangeNothing : Type 0
PlainReadsChangeNothing = (a : ℕ) (s : Site) → IsPlain (register_at a) → after_read a s ≡ s

-- ---- commands

pub record KeepsOtherHarts (s t : Site) : Type 0 where
  pub count : length t.board.harts ≡ length s.board.harts
  pub others : (h : ℕ) → h ≢ s.unit.hartsel → slice_get t.board.harts h ≡ slice_get s.board.harts h
  pub selection : t.unit.hartsel ≡ s.unit.hartsel
  pub active : t.unit.active ≡ s.unit.active
  pub bus : t.unit.bus ≡ s.unit.bus

abbrev pub CommandsKeepOtherHarts : Type 0
CommandsKeepOtherHarts = (s : Site) → KeepsOtherHarts s (command_stepped s)

-- ---- a turn and a command never meet on one hart

pub record Rests (hart : Hart) (m : Memory) : Type 0 where
  pub same : (place_of hart m).hart ≡ hart
  pub memory : memory_after hart m ≡ m

abbrev pub ServedHartsRest : Type 0
ServedHartsRest = (hart : Hart) (m : Memory) (why : Cause) → hart.debug.halted ≡ Some why → hart.debug.resume_request ≡ false → Rests hart m

-- ---- dmcontrol

-- while a command is under way a write of dmcontrol is ignored, but one with dmactive 0 resets the module all the same; harts and journal stay
pub record DmcontrolWhileBusy (v : ℕ) (s : Site) : Type 0 where
  pub ignored : (dmcontrol_of v).dmactive ≡ true → controlled v s ≡ s
  pub resets : (dmcontrol_of v).dmactive ≡ false → controlled v s ≡ record s { unit = reset_module s.unit.version }

abbrev pub BusyModulesIgnoreDmcontrol : Type 0
BusyModulesIgnoreDmcontrol = (v : ℕ) (s : Site) → busy s.unit.commands ≡ true → DmcontrolWhileBusy v s

-- a resume that is asked of a running hart takes away the ack of an earlier one, and is not kept
abbrev pub RunningHartsKeepNoResume : Type 0
RunningHartsKeepNoResume = (h : ℕ) (b : Board) (hart : Hart) → slice_get b.harts h ≡ Some hart → hart.debug.halted ≡ None
    → slice_get (after_point (ResumeReq h) b).harts h ≡ Some (record hart { debug = record hart.debug { resume_ack = false } })

-- ---- haltsum0

-- of the selected group of 32 harts, bit h is set exactly where hart h is there and halted
abbrev pub HaltsumShowsHaltedHarts : Type 0
HaltsumShowsHaltedHarts = (selected : ℕ) (harts : List Hart) (h : ℕ) → selected < group_size
    → bit h (haltsum selected harts) ≡ option_map_or is_halted (slice_get harts h) false
