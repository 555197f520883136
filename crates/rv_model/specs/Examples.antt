-- Worked examples: what the definitions say of single words, single instructions and a small program.
-- The words are spelled by the unprivileged manual's formats, and the results are worked by hand.
use Rattle.std.specs.Prelude.{◌≡◌, ℕ, ◌/◌, ◌<◌, true, false, [], ◌∷◌, length, None, Ok, Err, slice_set, replicate}
use Rattle.std.specs.FinMap.{get}
use Rattle.rv_model.specs.declared.did.Did.{Did}
use Rattle.rv_model.specs.declared.did.Did.TheVariants.{Retired, Trapped, Interrupted}
use Rattle.rv_model.specs.declared.insn.Insn.TheVariants.{StoreConditional}
use Rattle.rv_model.specs.declared.mem_fault.MemFault.TheVariants.{Outside}
use Rattle.rv_model.specs.declared.size.Size.{Size}
use Rattle.rv_model.specs.declared.size.Size.TheVariants.{B8}
use Rattle.rv_model.specs.declared.width.Width.TheVariants.{DoubleWord}
use Rattle.rv_model.specs.Rows.{meaning}
use Rattle.rv_model.specs.Memory.{Memory, fetch_of, msip_bit, loaded, store_answer, after_store, reserve, dropped}
use Rattle.rv_model.specs.Core.{Core, reset_core, x_of}
use Rattle.rv_model.specs.Effects.{effect_of, sets_rd}
use Rattle.rv_model.specs.Execute.{exec_masked_of, exec_of}
use Rattle.rv_model.specs.Board.{Machine}
use Rattle.rv_model.specs.Undebugged.{undebugged, Exec, SetReg}

-- ---- words that are no instruction

pub record ReservedWordsMeanNothing : Type 0 where
  pub all_zeros : meaning 0x00000000 ≡ None
  pub all_ones : meaning 0xffffffff ≡ None
  pub branch_2 : meaning 0x00002063 ≡ None  -- a branch whose funct3 is 2
  pub load_7 : meaning 0x00007003 ≡ None  -- a load whose funct3 is 7
  pub reserved_of_x1 : meaning 0x1010202f ≡ None  -- lr.w with x1 where rs2 is to be 0
  pub supervisor_return : meaning 0x10200073 ≡ None  -- sret

-- ---- a program: x5 = 5; again: x5 = x5 + 1; jump to again, at the start of RAM

pub record HoldsCounter (m : Memory) : Type 0 where
  pub sets : fetch_of m 0x80000000 ≡ Ok 0x00500293
  pub adds : fetch_of m 0x80000004 ≡ Ok 0x00128293
  pub jumps : fetch_of m 0x80000008 ≡ Ok 0xffdff06f

abbrev pub one_hart : Core → Memory → Machine
one_hart c m = record { cores = c ∷ []; memory = m }

-- hart 0 as reset leaves it, but for x5 and pc
abbrev pub counter : ℕ → ℕ → Core
counter x5 pc = record (reset_core 0) { x = slice_set (replicate 32 0) 5 x5; pc = pc }

-- from reset, three instructions of the program give x5 = 6 and pc 0x80000004; all else is as it was
abbrev pub CounterCounts : Type 0
CounterCounts = (m : Memory) → HoldsCounter m
    → undebugged (one_hart (reset_core 0) m) (Exec 0 ∷ Exec 0 ∷ Exec 0 ∷ []) ≡ one_hart (counter 6 0x80000004) m

-- a debugger's write of pc loses its two lowest bits, and one of x0 does nothing
abbrev pub WritesKeepTheirBits : Type 0
WritesKeepTheirBits = (m : Memory)
    → undebugged (one_hart (reset_core 0) m) (SetReg 0 0x7b1 0x80000107 ∷ SetReg 0 0x1000 9 ∷ SetReg 0 0x1005 7 ∷ []) ≡ one_hart (counter 7 0x80000104) m

-- ---- single instructions

-- hart 0 at 0x80000000 with these x6 and x7, its trap handler at 0x80000100, and interrupts enabled
abbrev pub hart_with : ℕ → ℕ → Core
hart_with x6 x7 = record (reset_core 0) { x = slice_set (slice_set (replicate 32 0) 6 x6) 7 x7; mtvec = 0x80000100; mstatus = 0x1808 }

-- the core steps to the second core, by the word at its pc, and memory stays as it was
abbrev pub StepsTo : ℕ → Core → Core → Did → Type 0
StepsTo word before after did = (m : Memory) → fetch_of m before.pc ≡ Ok word
    → exec_of before m ≡ record { step = record { core = after; did = did }; memory = m }

-- the word gives x5 this value, and the hart goes on
abbrev pub Gives : ℕ → ℕ → ℕ → ℕ → Type 0
Gives word x6 x7 x5 =
    StepsTo word (hart_with x6 x7) (record (hart_with x6 x7) { x = slice_set (slice_set (slice_set (replicate 32 0) 6 x6) 7 x7) 5 x5; pc = 0x80000004 }) Retired

-- the hart in its trap handler, by cause and value
abbrev pub in_handler : ℕ → ℕ → ℕ → ℕ → Core
in_handler x6 x7 cause value = record (hart_with x6 x7) { pc = 0x80000100; mepc = 0x80000000; mcause = cause; mtval = value; mstatus = 0x1880 }

-- the word traps, by cause and value
abbrev pub Traps : ℕ → ℕ → ℕ → ℕ → ℕ → Type 0
Traps word x6 x7 cause value = StepsTo word (hart_with x6 x7) (in_handler x6 x7 cause value) (Trapped cause)

-- it traps at an address that it makes of x6 and x7, where memory has no byte there
abbrev pub TrapsOutside : ℕ → ℕ → ℕ → ℕ → ℕ → Type 0
TrapsOutside word x6 x7 cause address = (m : Memory) → fetch_of m 0x80000000 ≡ Ok word → get m.bytes address ≡ None
    → exec_of (hart_with x6 x7) m ≡ record { step = record { core = in_handler x6 x7 cause address; did = Trapped cause }; memory = m }

pub record Divisions : Type 0 where
  pub by_zero : Gives 0x027342b3 7 0 0xffffffffffffffff  -- div x5, x6, x7
  pub unsigned_by_zero : Gives 0x027352b3 7 0 0xffffffffffffffff  -- divu x5, x6, x7
  pub remainder_by_zero : Gives 0x027362b3 7 0 7  -- rem x5, x6, x7
  pub overflow : Gives 0x027342b3 0x8000000000000000 0xffffffffffffffff 0x8000000000000000
  pub remainder_of_overflow : Gives 0x027362b3 0x8000000000000000 0xffffffffffffffff 0

pub record TrapExamples : Type 0 where
  pub no_instruction : Traps 0x00007003 0 0 2 0
  pub environment_call : Traps 0x00000073 0 0 11 0
  pub breakpoint : Traps 0x00100073 0 0 3 0
  pub jump_by_two : Traps 0x0020006f 0 0 0 0x80000002  -- jal x0, 2
  pub misaligned_load : Traps 0x00132283 0x10 0 4 0x11  -- lw x5, 1(x6): not the trap of an address without memory
  pub misaligned_store : Traps 0x007020a3 0 0 6 1  -- sw x7, 1(x0)
  pub load_outside : TrapsOutside 0x00032283 0x1000 0 5 0x1000  -- lw x5, 0(x6)
  pub store_outside : TrapsOutside 0x00732023 0x1000 7 7 0x1000  -- sw x7, 0(x6)
  pub write_of_mhartid : Traps 0xf1401073 0 0 2 0  -- csrrw x0, mhartid, x0
  pub no_such_register : Traps 0x7b0022f3 0 0 2 0  -- csrrs x5, dcsr, x0
  pub read_of_mhartid : Gives 0xf14022f3 0 0 0  -- csrrs x5, mhartid, x0: no write, so no trap
  pub nothing_at_pc : (m : Memory) → fetch_of m 0x80000000 ≡ Err Outside
      → exec_of (hart_with 0 0) m ≡ record { step = record { core = in_handler 0 0 1 0x80000000; did = Trapped 1 }; memory = m }

-- ---- the machine software interrupt

-- hart 0 at 0x80000000 with interrupts and this one enabled, and a handler
abbrev pub hart_waiting : ℕ → Core
hart_waiting mtvec = record (hart_with 0 0) { mie = 8; mtvec = mtvec }

-- the hart in its handler at an address, by cause
abbrev pub handling : ℕ → ℕ → ℕ → Core
handling mtvec pc cause = record (hart_waiting mtvec) { pc = pc; mepc = 0x80000000; mcause = cause; mstatus = 0x1880 }

-- its MSIP bit is set, and it enters the handler at an address
abbrev pub Interrupts : ℕ → ℕ → Type 0
Interrupts mtvec pc = (m : Memory) → msip_bit m 0 ≡ true
    → exec_of (hart_waiting mtvec) m ≡ record { step = record { core = handling mtvec pc 0x8000000000000003; did = Interrupted }; memory = m }

pub record InterruptExamples : Type 0 where
  pub direct : Interrupts 0x80000100 0x80000100
  pub vectored : Interrupts 0x80000101 0x8000010c
  pub vectors_wrap : Interrupts 0xfffffffffffffffd 8
  -- an exception is handled at the base in either mode: ecall, which no interrupt precedes
  pub exception : (m : Memory) → msip_bit m 0 ≡ false → fetch_of m 0x80000000 ≡ Ok 0x00000073
      → exec_of (hart_waiting 0x80000101) m ≡ record { step = record { core = handling 0x80000101 0x80000100 11; did = Trapped 11 }; memory = m }
  -- csrrs x5, mip, x0
  pub pends : (m : Memory) → msip_bit m 0 ≡ true → fetch_of m 0x80000000 ≡ Ok 0x344022f3
      → exec_masked_of (hart_waiting 0x80000100) m
      ≡ record {
        step = record {
          core = record (hart_waiting 0x80000100) { x = slice_set (slice_set (slice_set (replicate 32 0) 6 0) 7 0) 5 8; pc = 0x80000004 };
          did = Retired;
        };
        memory = m;
      }

-- ---- reservations: sc.d x5, x7, (x6)

-- after another hart's store into its eight bytes, sc writes 1 and stores nothing
abbrev pub ScFailsAfterStore : Type 0
ScFailsAfterStore = (c : Core) (m after : Memory) (b : ℕ) (size : Size) (v u : ℕ)
    → c.id < length m.reserved → b / 8 ≡ x_of c 6 / 8
    → store_answer (reserve m c.id (x_of c 6)) b size ≡ Ok tt → after ≡ after_store (reserve m c.id (x_of c 6)) b size v
    → loaded after (x_of c 6) B8 ≡ Ok u
    → effect_of (StoreConditional DoubleWord (record { rd = 5; rs1 = 6; rs2 = 7 })) c after ≡ record { step = sets_rd 5 1 c; memory = dropped after c.id }

-- right after the hart's own lr, sc writes 0 and stores
abbrev pub ScSucceedsAfterLr : Type 0
ScSucceedsAfterLr = (c : Core) (m : Memory) (u : ℕ)
    → c.id < length m.reserved → loaded (reserve m c.id (x_of c 6)) (x_of c 6) B8 ≡ Ok u
    → effect_of (StoreConditional DoubleWord (record { rd = 5; rs1 = 6; rs2 = 7 })) c (reserve m c.id (x_of c 6))
    ≡ record { step = sets_rd 5 0 c; memory = dropped (after_store (reserve m c.id (x_of c 6)) (x_of c 6) B8 (x_of c 7)) c.id }
