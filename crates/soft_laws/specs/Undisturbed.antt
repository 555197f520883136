-- The premise on programs: while a word is covered, no instruction reads or writes a byte of it. It is read off what a user sees.
-- It is this project's own. Where a program stores to a covered word, the chip would run the stored word; where it loads one, it would read the ebreak.
use Rattle.std.specs.Prelude.{◌≡◌, ℕ, Bool, false, List, [], ◌∷◌, Option, Some, None, Result, Ok, Err, slice_get, if◌then◌else◌}
use Rattle.rv_model.specs.declared.insn.Insn.{Insn}
use Rattle.rv_model.specs.declared.insn.Insn.TheVariants.{Load, Store, LoadReserved, StoreConditional, Amo}
use Rattle.rv_model.specs.declared.mem_fault.MemFault.{MemFault}
use Rattle.rv_model.specs.declared.touch.Touch.{Touch}
use Rattle.rv_model.specs.Accesses.{load_size, width_size}
use Rattle.rv_model.specs.Board.{Machine}
use Rattle.rv_model.specs.Core.{Core, offset_by, x_of}
use Rattle.rv_model.specs.Memory.{Memory, covers, fetch_of, loaded}
use Rattle.rv_model.specs.Rows.{meaning}
use Rattle.rv_model.specs.Touch.{touch, touches_nothing}
use Rattle.rv_model.specs.Undebugged.{Entry, Exec, SetReg, SetMem}
use Rattle.abstract_debugger.specs.Own.{lived}
use Rattle.abstract_debugger.specs.Trace.{Note, Past}
use Rattle.abstract_debugger.specs.Trace.Note.{Did, Stop, Arm, Free, Patched}
use Rattle.soft_laws.specs.SoftBreaks.{covered, meets_some}

-- ---- what an instruction does read and write

-- nothing where memory refuses the access
abbrev pub unless_refused : Result ℕ MemFault → Touch → Core → Touch
unless_refused (Ok v) t c = t
unless_refused (Err fault) t c = touches_nothing c

-- and an sc writes only where its reservation covers the bytes
abbrev pub accessed : Insn → Core → Memory → Touch
accessed (Load op p) c m = unless_refused (loaded m (offset_by (x_of c p.rs1) p.imm) (load_size op)) (touch (Load op p) c) c
accessed (Store size p) c m = unless_refused (loaded m (offset_by (x_of c p.rs1) p.imm) size) (touch (Store size p) c) c
accessed (LoadReserved width p) c m = unless_refused (loaded m (x_of c p.rs1) (width_size width)) (touch (LoadReserved width p) c) c
accessed (StoreConditional width p) c m =
    unless_refused (loaded m (x_of c p.rs1) (width_size width))
    (if covers m c.id (x_of c p.rs1) (width_size width) then touch (StoreConditional width p) c else touches_nothing c) c
accessed (Amo op width p) c m = unless_refused (loaded m (x_of c p.rs1) (width_size width)) (touch (Amo op width p) c) c
accessed _ c m = touches_nothing c

abbrev pub accessed_meant : Option Insn → Core → Memory → Touch
accessed_meant (Some insn) c m = accessed insn c m
accessed_meant None c m = touches_nothing c

abbrev pub accessed_fetched : Result ℕ MemFault → Core → Memory → Touch
accessed_fetched (Ok w) c m = accessed_meant (meaning w) c m
accessed_fetched (Err fault) c m = touches_nothing c

-- of the word at pc, also where an interrupt is taken before it
unfoldable pub accessed_of : Core → Memory → Touch
accessed_of c m = accessed_fetched (fetch_of m c.pc) c m

-- ---- words left alone

abbrev pub reaches : List ℕ → Option (ℕ × ℕ) → Bool
reaches cs None = false
reaches cs (Some access) = meets_some cs access.0 access.1

abbrev pub LeavesWords : List ℕ → Touch → Type 0
LeavesWords cs t = (reaches cs t.load ≡ false) × (reaches cs t.store ≡ false)

abbrev pub CoreLeaves : List ℕ → Option Core → Memory → Type 0
CoreLeaves cs (Some c) m = LeavesWords cs (accessed_of c m)
CoreLeaves cs None m = Unit {0}

-- ---- note by note

-- over the machine that nobody debugs
abbrev pub EntryLeaves : Machine → Entry → Past → Type 0
EntryLeaves m (Exec h) past = CoreLeaves (covered past) (slice_get (lived m past).cores h) (lived m past).memory
EntryLeaves m (SetReg h r v) past = Unit {0}
EntryLeaves m (SetMem a count v) past = Unit {0}

abbrev pub NoteLeaves : Machine → Note → Past → Type 0
NoteLeaves m (Did entry) past = EntryLeaves m entry past
NoteLeaves m (Stop h why slots) past = Unit {0}
NoteLeaves m (Arm h slot what) past = Unit {0}
NoteLeaves m (Free h slot) past = Unit {0}
NoteLeaves m (Patched a covers) past = Unit {0}

-- each executed instruction of a past leaves the words alone that are covered there
abbrev pub Undisturbed : Machine → Past → Type 0
Undisturbed m [] = Unit {0}
Undisturbed m (n ∷ past) = NoteLeaves m n past × Undisturbed m past
