-- The control and status registers of Machine Mode as a table, and what a read and a write of one do.
-- Privileged manual, "Machine-Level CSRs"; which bits are writable, and that the others keep their reset value, is this project's own choice within its WARL
-- rules.
use Rattle.std.specs.Prelude.{codes, ℕ, ◌+◌, ◌-◌, ◌^◌, Bool, true, false, if◌then◌else◌, nat_lt, ◌==◌, List, [], ◌∷◌, Option, Some, None, find, option_map}
use Rattle.std.specs.Prelude.{bit_and}
use Rattle.rv_model.specs.Core.{Core, x_of, with_x, aligned, register_count, mpp_machine}
use Rattle.rv_model.specs.Fields.{bit_value}
use Rattle.rv_model.specs.Memory.{Memory, msip_bit}

pub record Register : Type 0 where
  pub number : ℕ
  pub name : List ℕ
  pub reset : ℕ  -- what the bits that are not writable always are
  pub writable : ℕ  -- the bits that a write sets
  pub refuses : Bool  -- a write is an illegal instruction; otherwise one of other bits is ignored
  pub read : Core → ℕ
  pub write : ℕ → Core → Core

abbrev pub register : ℕ → List ℕ → ℕ → ℕ → (Core → ℕ) → (ℕ → Core → Core) → Register
register number name reset writable read write =
    record { number = number; name = name; reset = reset; writable = writable; refuses = false; read = read; write = write }

-- a register whose writes are ignored
abbrev pub constant : ℕ → List ℕ → ℕ → Register
constant number name value = record { number = number; name = name; reset = value; writable = 0; refuses = false; read = λ c. value; write = λ v c. c }

-- a register whose writes are refused
abbrev pub read_only : ℕ → List ℕ → (Core → ℕ) → Register
read_only number name read = record { number = number; name = name; reset = 0; writable = 0; refuses = true; read = read; write = λ v c. c }

abbrev pub all_bits : ℕ
all_bits = 2 ^ 64 - 1

abbrev pub mstatus_bits : ℕ  -- MIE and MPIE
mstatus_bits = 0x88

abbrev pub address_bits : ℕ  -- all but the two lowest
address_bits = 2 ^ 64 - 4

abbrev pub vector_bits : ℕ  -- all but bit 1
vector_bits = 2 ^ 64 - 3

abbrev pub software_bit : ℕ  -- machine software interrupts, in mie and mip
software_bit = 0x8

abbrev pub misa_value : ℕ  -- 64 bits, with the extensions A, I and M
misa_value = 0x8000000000001101

-- what mip reads without a memory; with one its bit 3 is that of `mip_value`
abbrev pub mip_number : ℕ
mip_number = 0x344

abbrev pub registers : List Register
registers =
    register 0x300 (codes "mstatus") mpp_machine mstatus_bits (λ c. c.mstatus) (λ v c. record c { mstatus = v }) ∷
    constant 0x301 (codes "misa") misa_value ∷
    register 0x304 (codes "mie") 0 software_bit (λ c. c.mie) (λ v c. record c { mie = v }) ∷
    register 0x305 (codes "mtvec") 0 vector_bits (λ c. c.mtvec) (λ v c. record c { mtvec = v }) ∷
    register 0x340 (codes "mscratch") 0 all_bits (λ c. c.mscratch) (λ v c. record c { mscratch = v }) ∷
    register 0x341 (codes "mepc") 0 address_bits (λ c. c.mepc) (λ v c. record c { mepc = v }) ∷
    register 0x342 (codes "mcause") 0 all_bits (λ c. c.mcause) (λ v c. record c { mcause = v }) ∷
    register 0x343 (codes "mtval") 0 all_bits (λ c. c.mtval) (λ v c. record c { mtval = v }) ∷
    constant mip_number (codes "mip") 0 ∷
    read_only 0xf11 (codes "mvendorid") (λ c. 0) ∷
    read_only 0xf12 (codes "marchid") (λ c. 0) ∷
    read_only 0xf13 (codes "mimpid") (λ c. 0) ∷
    read_only 0xf14 (codes "mhartid") (λ c. c.id) ∷
    []

abbrev pub register_at : ℕ → Option Register
register_at number = find (λ r. r.number == number) registers

-- ---- reads and writes by CSR number

-- a register's value, or none where the number is in no row
unfoldable pub csr_value : Core → ℕ → Option ℕ
csr_value c number = option_map (λ r. r.read c) (register_at number)

abbrev pub refuses_at : Option Register → Bool
refuses_at (Some r) = r.refuses
refuses_at None = false

-- is it a read-only register?
unfoldable pub csr_read_only : ℕ → Bool
csr_read_only number = refuses_at (register_at number)

-- what a register holds after a write of a value
abbrev pub kept_of : Register → ℕ → ℕ
kept_of r v = r.reset + bit_and v r.writable

abbrev pub written_at : Option Register → ℕ → Core → Core
written_at (Some r) v c = r.write (kept_of r v) c
written_at None v c = c

-- the core after a write; one that is ignored, refused or of no register changes nothing
unfoldable pub csr_written : Core → ℕ → ℕ → Core
csr_written c number v = written_at (register_at number) v c

-- ---- mip, which memory tells

-- bit 3 is the hart's MSIP bit, and the other fields are 0
abbrev pub mip_value : Core → Memory → ℕ
mip_value c m = bit_value 3 (msip_bit m c.id)

-- what a program reads of a register: mip from memory, each other from the core
unfoldable pub csr_seen : Core → Memory → ℕ → Option ℕ
csr_seen c m number = if number == mip_number then Some (mip_value c m) else csr_value c number

-- ---- reads and writes by the debugger's register number
-- RISC-V Debug Specification 1.0, "Access Register": CSRs at 0x0000 to 0x0fff, x0 to x31 at 0x1000 to 0x101f. pc goes by the number of dpc.

abbrev pub first_x_number : ℕ
first_x_number = 0x1000

abbrev pub pc_number : ℕ
pc_number = 0x7b1

abbrev pub is_x_number : ℕ → Bool
is_x_number r = if nat_lt r first_x_number then false else nat_lt r (first_x_number + register_count)

-- a core's register, or none where the core has no such register
abbrev pub reg_value : Core → ℕ → Option ℕ
reg_value c r =
    if is_x_number r then Some (x_of c (r - first_x_number))
    else (if r == pc_number then Some c.pc else csr_value c r)

-- the core after a write of one; what is not writable stays as it is
abbrev pub reg_written : Core → ℕ → ℕ → Core
reg_written c r v =
    if is_x_number r then with_x c (r - first_x_number) v
    else (if r == pc_number then record c { pc = aligned v } else csr_written c r v)

-- what is seen of a core's register where a memory is there
abbrev pub reg_seen : Core → Memory → ℕ → Option ℕ
reg_seen c m r = if r == mip_number then Some (mip_value c m) else reg_value c r
