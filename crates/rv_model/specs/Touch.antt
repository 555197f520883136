-- What the instruction at pc would read and write, as addresses and sizes; nothing where pc has no word or the word means nothing.
-- RISC-V Debug Specification 1.0, "Match Control Type 6": these are the accesses that a trigger sees; that lr reads, that sc writes whether or not it
-- would succeed, that an atomic memory operation does both, and that misaligned and outside addresses count, is this project's own choice.
use Rattle.std.specs.Prelude.{ℕ, Option, Some, None, Result, Ok, Err}
use Rattle.rv_model.specs.declared.touch.Touch.{Touch}
use Rattle.rv_model.specs.declared.mem_fault.MemFault.{MemFault}
use Rattle.rv_model.specs.declared.size.Size.{Size}
use Rattle.rv_model.specs.declared.insn.Insn.{Insn}
use Rattle.rv_model.specs.declared.insn.Insn.TheVariants.{Load, Store, LoadReserved, StoreConditional, Amo}
use Rattle.rv_model.specs.Accesses.{load_size, width_size}
use Rattle.rv_model.specs.Size.{count_of}
use Rattle.rv_model.specs.Rows.{meaning}
use Rattle.rv_model.specs.Memory.{Memory, fetch_of}
use Rattle.rv_model.specs.Core.{Core, x_of, offset_by}

abbrev pub touches_nothing : Core → Touch
touches_nothing c = record { pc = c.pc; load = None; store = None }

abbrev pub reads : Core → ℕ → Size → Touch
reads c a size = record { pc = c.pc; load = Some (a, count_of size); store = None }

abbrev pub writes : Core → ℕ → Size → Touch
writes c a size = record { pc = c.pc; load = None; store = Some (a, count_of size) }

abbrev pub reads_and_writes : Core → ℕ → Size → Touch
reads_and_writes c a size = record { pc = c.pc; load = Some (a, count_of size); store = Some (a, count_of size) }

abbrev pub touch : Insn → Core → Touch
touch (Load op p) c = reads c (offset_by (x_of c p.rs1) p.imm) (load_size op)
touch (Store size p) c = writes c (offset_by (x_of c p.rs1) p.imm) size
touch (LoadReserved width p) c = reads c (x_of c p.rs1) (width_size width)
touch (StoreConditional width p) c = writes c (x_of c p.rs1) (width_size width)
touch (Amo op width p) c = reads_and_writes c (x_of c p.rs1) (width_size width)
touch _ c = touches_nothing c

abbrev pub touch_meant : Option Insn → Core → Touch
touch_meant (Some insn) c = touch insn c
touch_meant None c = touches_nothing c

abbrev pub touch_fetched : Result ℕ MemFault → Core → Touch
touch_fetched (Ok w) c = touch_meant (meaning w) c
touch_fetched (Err fault) c = touches_nothing c

-- what the instruction at a core's pc would read and write
unfoldable pub touch_of : Core → Memory → Touch
touch_of c m = touch_fetched (fetch_of m c.pc) c
