-- A hart's core: all that a program can see of its own hart, and nothing that a debugger adds.
-- Unprivileged manual, "Programmers' Model for Base Integer ISA"; privileged manual, "Machine-Level CSRs"; the reset values are this project's own choice.
use Rattle.std.specs.Prelude.{◌≡◌, ℕ, ◌+◌, ◌*◌, ◌/◌, ◌%◌, ◌^◌, ◌≤◌, List, if◌then◌else◌, ◌==◌, length, replicate, slice_index, slice_set}
use Rattle.rv_model.specs.Memory.{ram_base}
use Rattle.rv_model.specs.Fields.{field}

-- Each of these numbers is below 2^64. What is not here never changes.
pub record Core : Type 0 where
  pub id : ℕ  -- the hart's number
  pub x : List ℕ  -- x0 to x31; the place of x0 is never read or written
  pub pc : ℕ  -- a multiple of 4
  pub mstatus : ℕ
  pub mie : ℕ  -- bit 3 alone
  pub mtvec : ℕ  -- the handler's base, a multiple of 4, and the mode, 0 or 1
  pub mscratch : ℕ
  pub mepc : ℕ  -- a multiple of 4
  pub mcause : ℕ
  pub mtval : ℕ

-- ---- x0 to x31

abbrev pub register_count : ℕ
register_count = 32

-- a register's value: x0 reads 0
abbrev pub x_of : Core → ℕ → ℕ
x_of c r = if r == 0 then 0 else slice_index c.x r

-- the core with a register written: a write of x0 does nothing
abbrev pub with_x : Core → ℕ → ℕ → Core
with_x c r v = if r == 0 then c else record c { x = slice_set c.x r v }

-- ---- the program counter

-- a number with its two lowest bits cleared
abbrev pub aligned : ℕ → ℕ
aligned v = v / 4 * 4

abbrev pub next_pc : Core → ℕ
next_pc c = (c.pc + 4) % 2 ^ 64

-- an address and an offset, modulo 2^64
abbrev pub offset_by : ℕ → ℕ → ℕ
offset_by base imm = (base + imm) % 2 ^ 64

-- ---- mstatus: MIE is bit 3, MPIE bit 7, MPP says Machine Mode always, and the other fields are 0

abbrev pub mie_of : Core → ℕ
mie_of c = field 3 1 c.mstatus

abbrev pub mpie_of : Core → ℕ
mpie_of c = field 7 1 c.mstatus

abbrev pub mpp_machine : ℕ
mpp_machine = 0x1800

abbrev pub mstatus_with : ℕ → ℕ → ℕ
mstatus_with mie mpie = mpp_machine + mie * 2 ^ 3 + mpie * 2 ^ 7

-- ---- mie: machine software interrupts have bit 3, and the other fields are 0

abbrev pub msie_of : Core → ℕ
msie_of c = field 3 1 c.mie

-- ---- mtvec: the base address of the trap handler, and in its two lowest bits the mode: direct or vectored

abbrev pub handler_base : Core → ℕ
handler_base c = aligned c.mtvec

abbrev pub mode_of : Core → ℕ
mode_of c = c.mtvec % 4

abbrev pub vectored : ℕ
vectored = 1

-- ---- reset

abbrev pub reset_core : ℕ → Core
reset_core id = record {
  id = id;
  x = replicate register_count 0;
  pc = ram_base;
  mstatus = mstatus_with 0 0;
  mie = 0;
  mtvec = 0;
  mscratch = 0;
  mepc = 0;
  mcause = 0;
  mtval = 0;
}

-- what is true of every core from reset on
pub record IsCore (c : Core) : Type 0 where
  pub registers : length c.x ≡ register_count
  pub pc_aligned : c.pc % 4 ≡ 0
  pub mode_known : mode_of c ≤ vectored
  pub mepc_aligned : c.mepc % 4 ≡ 0
  pub mpp_fixed : mstatus_with (mie_of c) (mpie_of c) ≡ c.mstatus
