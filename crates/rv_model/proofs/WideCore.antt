-- A core none of whose registers has more than 64 bits, and what each kind of step leaves of it.
use Rattle.std.proofs.Common.{
  ◌≡◌,
  ◌+◌,
  ◌-◌,
  ◌*◌,
  ◌/◌,
  ◌%◌,
  ◌^◌,
  ◌<◌,
  ◌≤◌,
  ◌==◌,
  ◌&&◌,
  ℕ,
  zero,
  suc,
  Bool,
  true,
  false,
  cond,
  List,
  [],
  ◌∷◌,
  set,
  get_or,
  Option,
  Some,
  None,
  Result,
  Ok,
  Err,
  find,
  option_map,
  arith,
  refl,
  sym,
  subst,
  bit_and,
  if◌then◌else◌,
}
use Rattle.std.specs.Prelude.{⊤}
use Rattle.std.proofs.lemmas.Nat.{and_le_r}
use Rattle.std.proofs.lemmas.Option.{none-some, same_Some}
use Rattle.rv_model.specs.declared.mem_fault.MemFault.{MemFault}
use Rattle.rv_model.specs.declared.mem_fault.MemFault.TheVariants.{Misaligned, Outside}
use Rattle.rv_model.specs.declared.operands.BType.{BType}
use Rattle.rv_model.specs.Core.{Core, next_pc, offset_by, with_x, x_of}
use Rattle.rv_model.specs.Effects.{Step, after_load, amo_step, branches, goes_on, jumps, retires, sc_step, sets_rd, stored_step, swapped_csr, swaps_csr, traps}
use Rattle.rv_model.specs.Fields.{bit_value}
use Rattle.rv_model.specs.Memory.{Memory, msip_bit}
use Rattle.rv_model.specs.Registers.{Register, csr_read_only, csr_seen, csr_value, csr_written, kept_of, mip_number, mip_value, register_at, registers}
use Rattle.rv_model.specs.Registers.{written_at}
use Rattle.rv_model.specs.Traps.{interrupt_entered, load_cause, store_cause, trap_left}
use Rattle.rv_model.proofs.WideWords.{IsWide, mod_wide}

pub record CoreWide (c : Core) : Type 0 where
  pub id : IsWide c.id
  pub x : (i : ℕ) → IsWide (x_of c i)
  pub pc : IsWide c.pc
  pub mstatus : IsWide c.mstatus
  pub mie : IsWide c.mie
  pub mtvec : IsWide c.mtvec
  pub mscratch : IsWide c.mscratch
  pub mepc : IsWide c.mepc
  pub mcause : IsWide c.mcause
  pub mtval : IsWide c.mtval

-- ---- x registers

pub zero_wide : IsWide 0
zero_wide = omega arith

-- what is 0 either way
pub zero_by : (b : Bool) (v : ℕ) → v ≡ 0 → IsWide (if b then 0 else v)
zero_by true v is = zero_wide
zero_by false v is = subst (λ n. IsWide n) (sym is) zero_wide

pub x_wide : (c : Core) (r : ℕ) → CoreWide c → IsWide (x_of c r)
x_wide c r w = w.x r

set_wide : (xs : List ℕ) (r v i : ℕ) → IsWide (get_or xs i 0) → IsWide v → IsWide (get_or (set xs r v) i 0)
set_wide [] r v i q p = q
set_wide (y ∷ ys) zero v zero q p = p
set_wide (y ∷ ys) zero v (suc i) q p = q
set_wide (y ∷ ys) (suc r) v zero q p = q
set_wide (y ∷ ys) (suc r) v (suc i) q p = set_wide ys r v i q p

unless_zero : (b : Bool) (u v : ℕ) → IsWide (if b then 0 else u) → (IsWide u → IsWide v) → IsWide (if b then 0 else v)
unless_zero true u v q to = zero_wide
unless_zero false u v q to = to q

with_x_by : (b : Bool) (c : Core) (r v : ℕ) → CoreWide c → IsWide v → CoreWide (if b then c else record c { x = set c.x r v })
with_x_by true c r v w p = w
with_x_by false c r v w p = record {
  id = w.id;
  x = λ i. unless_zero (i == 0) (get_or c.x i 0) (get_or (set c.x r v) i 0) (w.x i) (λ q. set_wide c.x r v i q p);
  pc = w.pc;
  mstatus = w.mstatus;
  mie = w.mie;
  mtvec = w.mtvec;
  mscratch = w.mscratch;
  mepc = w.mepc;
  mcause = w.mcause;
  mtval = w.mtval;
}

pub with_x_wide : (c : Core) (r v : ℕ) → CoreWide c → IsWide v → CoreWide (with_x c r v)
with_x_wide c r v w p = with_x_by (r == 0) c r v w p

at_pc : (c : Core) (target : ℕ) → CoreWide c → IsWide target → CoreWide (record c { pc = target })
at_pc c target w p = record {
  id = w.id;
  x = w.x;
  pc = p;
  mstatus = w.mstatus;
  mie = w.mie;
  mtvec = w.mtvec;
  mscratch = w.mscratch;
  mepc = w.mepc;
  mcause = w.mcause;
  mtval = w.mtval;
}

-- ---- steps

pub goes_on_wide : (c : Core) → CoreWide c → CoreWide (goes_on c).core
goes_on_wide c w = at_pc c (next_pc c) w (mod_wide (c.pc + 4))

pub sets_rd_wide : (rd v : ℕ) (c : Core) → CoreWide c → IsWide v → CoreWide (sets_rd rd v c).core
sets_rd_wide rd v c w p = goes_on_wide (with_x c rd v) (with_x_wide c rd v w p)

base_wide : (mtvec : ℕ) → IsWide mtvec → IsWide (mtvec / 4 * 4)
base_wide mtvec p = omega arith

pub traps_wide : (cause value : ℕ) (c : Core) → CoreWide c → IsWide cause → IsWide value → CoreWide (traps cause value c).core
traps_wide cause value c w p q = record {
  id = w.id;
  x = w.x;
  pc = base_wide c.mtvec w.mtvec;
  mstatus = omega arith;
  mie = w.mie;
  mtvec = w.mtvec;
  mscratch = w.mscratch;
  mepc = w.pc;
  mcause = p;
  mtval = q;
}

handler_wide : (b : Bool) (mtvec : ℕ) → IsWide mtvec → IsWide (if b then (mtvec / 4 * 4 + 12) % 2 ^ 64 else mtvec / 4 * 4)
handler_wide true mtvec p = mod_wide (mtvec / 4 * 4 + 12)
handler_wide false mtvec p = base_wide mtvec p

pub interrupt_wide : (c : Core) → CoreWide c → CoreWide (interrupt_entered c)
interrupt_wide c w = record {
  id = w.id;
  x = w.x;
  pc = handler_wide (c.mtvec % 4 == 1) c.mtvec w.mtvec;
  mstatus = omega arith;
  mie = w.mie;
  mtvec = w.mtvec;
  mscratch = w.mscratch;
  mepc = w.pc;
  mcause = omega arith;
  mtval = zero_wide;
}

pub trap_left_wide : (c : Core) → CoreWide c → CoreWide (trap_left c)
trap_left_wide c w = record {
  id = w.id;
  x = w.x;
  pc = w.mepc;
  mstatus = omega arith;
  mie = w.mie;
  mtvec = w.mtvec;
  mscratch = w.mscratch;
  mepc = w.mepc;
  mcause = w.mcause;
  mtval = w.mtval;
}

pub offset_wide : (base imm : ℕ) → IsWide (offset_by base imm)
offset_wide base imm = mod_wide (base + imm)

jumps_by : (b : Bool) (rd target : ℕ) (c : Core) → CoreWide c → IsWide target
    → CoreWide (let s : Step = if b then retires (record (with_x c rd (next_pc c)) { pc = target }) else traps 0 target c in s).core
jumps_by true rd target c w p = at_pc (with_x c rd (next_pc c)) target (with_x_wide c rd (next_pc c) w (mod_wide (c.pc + 4))) p
jumps_by false rd target c w p = traps_wide 0 target c w zero_wide p

pub jumps_wide : (rd target : ℕ) (c : Core) → CoreWide c → IsWide target → CoreWide (jumps rd target c).core
jumps_wide rd target c w p = jumps_by (target % 4 == 0) rd target c w p

pub branches_wide : (taken : Bool) (p : BType) (c : Core) → CoreWide c → CoreWide (branches taken p c).core
branches_wide true p c w = jumps_wide 0 (offset_by c.pc p.imm) c w (offset_wide c.pc p.imm)
branches_wide false p c w = goes_on_wide c w

-- ---- control and status registers

-- what is true of a row of the table: it reads within 64 bits, and a write through it keeps a core wide
pub record RowWide (r : Register) : Type 0 where
  pub read : (c : Core) → CoreWide c → IsWide (r.read c)
  pub write : (v : ℕ) (c : Core) → CoreWide c → CoreWide (r.write (kept_of r v) c)

abbrev EachRow : List Register → Type 0
EachRow [] = Unit {0}
EachRow (r ∷ rs) = RowWide r × EachRow rs

kept_wide : (v reset writable : ℕ) → reset + writable < 2 ^ 64 → IsWide (reset + bit_and v writable)
kept_wide v reset writable fits = let e : bit_and v writable ≤ writable = and_le_r v writable in omega arith

each_row : EachRow registers
each_row = (
  record {
    read = λ c w. w.mstatus;
    write = λ v c
        w. record {
          id = w.id;
          x = w.x;
          pc = w.pc;
          mstatus = kept_wide v 0x1800 0x88 (omega arith);
          mie = w.mie;
          mtvec = w.mtvec;
          mscratch = w.mscratch;
          mepc = w.mepc;
          mcause = w.mcause;
          mtval = w.mtval;
        };
  },
  (
    record { read = λ c w. omega arith; write = λ v c w. w },
    (
      record {
        read = λ c w. w.mie;
        write = λ v c
            w. record {
              id = w.id;
              x = w.x;
              pc = w.pc;
              mstatus = w.mstatus;
              mie = kept_wide v 0 0x8 (omega arith);
              mtvec = w.mtvec;
              mscratch = w.mscratch;
              mepc = w.mepc;
              mcause = w.mcause;
              mtval = w.mtval;
            };
      },
      (
        record {
          read = λ c w. w.mtvec;
          write = λ v c
              w. record {
                id = w.id;
                x = w.x;
                pc = w.pc;
                mstatus = w.mstatus;
                mie = w.mie;
                mtvec = kept_wide v 0 (2 ^ 64 - 3) (omega arith);
                mscratch = w.mscratch;
                mepc = w.mepc;
                mcause = w.mcause;
                mtval = w.mtval;
              };
        },
        (
          record {
            read = λ c w. w.mscratch;
            write =
                λ v c w. record {
                  id = w.id;
                  x = w.x;
                  pc = w.pc;
                  mstatus = w.mstatus;
                  mie = w.mie;
                  mtvec = w.mtvec;
                  mscratch = kept_wide v 0 (2 ^ 64 - 1) (omega arith);
                  mepc = w.mepc;
                  mcause = w.mcause;
                  mtval = w.mtval;
                };
          },
          (
            record {
              read = λ c w. w.mepc;
              write =
                  λ v c w. record {
                    id = w.id;
                    x = w.x;
                    pc = w.pc;
                    mstatus = w.mstatus;
                    mie = w.mie;
                    mtvec = w.mtvec;
                    mscratch = w.mscratch;
                    mepc = kept_wide v 0 (2 ^ 64 - 4) (omega arith);
                    mcause = w.mcause;
                    mtval = w.mtval;
                  };
            },
            (
              record {
                read = λ c w. w.mcause;
                write =
                    λ v c w. record {
                      id = w.id;
                      x = w.x;
                      pc = w.pc;
                      mstatus = w.mstatus;
                      mie = w.mie;
                      mtvec = w.mtvec;
                      mscratch = w.mscratch;
                      mepc = w.mepc;
                      mcause = kept_wide v 0 (2 ^ 64 - 1) (omega arith);
                      mtval = w.mtval;
                    };
              },
              (
                record {
                  read = λ c w. w.mtval;
                  write =
                      λ v c w. record {
                        id = w.id;
                        x = w.x;
                        pc = w.pc;
                        mstatus = w.mstatus;
                        mie = w.mie;
                        mtvec = w.mtvec;
                        mscratch = w.mscratch;
                        mepc = w.mepc;
                        mcause = w.mcause;
                        mtval = kept_wide v 0 (2 ^ 64 - 1) (omega arith);
                      };
                },
                (
                  record { read = λ c w. omega arith; write = λ v c w. w },
                  (
                    record { read = λ c w. omega arith; write = λ v c w. w },
                    (
                      record { read = λ c w. omega arith; write = λ v c w. w },
                      (
                        record { read = λ c w. omega arith; write = λ v c w. w },
                        (
                          record { read = λ c w. w.id; write = λ v c w. w },
                          tt,
                        ),
                      ),
                    ),
                  ),
                ),
              ),
            ),
          ),
        ),
      ),
    ),
  ),
)

row_found_by : (b : Bool) (r : Register) (rs : List Register) (number : ℕ) (s : Register) → RowWide r
    → (find (λ (q : Register). q.number == number) rs ≡ Some s → RowWide s)
    → cond b (Some r) (find (λ (q : Register). q.number == number) rs) ≡ Some s → RowWide s
row_found_by true r rs number s p later is = subst (λ q. RowWide q) (same_Some r s is) p
row_found_by false r rs number s p later is = later is

row_found : (rs : List Register) (number : ℕ) (s : Register) → EachRow rs → find (λ (q : Register). q.number == number) rs ≡ Some s → RowWide s
row_found [] number s all is = absurd (none-some s is)
row_found (r ∷ rs) number s (p, all) is = row_found_by (r.number == number) r rs number s p (row_found rs number s all) is

value_by : (o : Option Register) (c : Core) (v : ℕ) → ((s : Register) → o ≡ Some s → RowWide s) → CoreWide c
    → option_map (λ (r : Register). r.read c) o ≡ Some v → IsWide v
value_by None c v rows w is = absurd (none-some v is)
value_by (Some r) c v rows w is = subst (λ n. IsWide n) (same_Some (r.read c) v is) ((rows r refl).read c w)

pub csr_value_wide : (c : Core) (number v : ℕ) → CoreWide c → csr_value c number ≡ Some v → IsWide v
unfolding csr_value
csr_value_wide c number v w is = value_by (register_at number) c v (λ s at. row_found registers number s each_row at) w is

written_by : (o : Option Register) (v : ℕ) (c : Core) → ((s : Register) → o ≡ Some s → RowWide s) → CoreWide c → CoreWide (written_at o v c)
written_by None v c rows w = w
written_by (Some r) v c rows w = (rows r refl).write v c w

pub csr_written_wide : (c : Core) (number v : ℕ) → CoreWide c → CoreWide (csr_written c number v)
unfolding csr_written
csr_written_wide c number v w = written_by (register_at number) v c (λ s at. row_found registers number s each_row at) w

pub illegal_wide : IsWide 2
illegal_wide = omega arith

if_core : (b : Bool) (s t : Step) → CoreWide s.core → CoreWide t.core → CoreWide (if b then s else t).core
if_core true s t p q = p
if_core false s t p q = q

if_written : (b : Bool) (c d : Core) → CoreWide c → CoreWide d → CoreWide (if b then c else d)
if_written true c d p q = p
if_written false c d p q = q

swapped_wide : (o : Option ℕ) (writes : Bool) (change : ℕ → ℕ → ℕ) (number v rd : ℕ) (c : Core) → ((old : ℕ) → o ≡ Some old → IsWide old) → CoreWide c
    → CoreWide (swapped_csr o writes change number v rd c).core
swapped_wide None writes change number v rd c old w = traps_wide 2 0 c w illegal_wide zero_wide
swapped_wide (Some old) writes change number v rd c wide w =
    if_core (writes && csr_read_only number) (traps 2 0 c) (sets_rd rd old (if writes then csr_written c number (change old v) else c))
    (traps_wide 2 0 c w illegal_wide zero_wide)
    (sets_rd_wide rd old (if writes then csr_written c number (change old v) else c)
    (if_written writes (csr_written c number (change old v)) c (csr_written_wide c number (change old v) w) w) (wide old refl))

mip_wide : (pends : Bool) → IsWide (bit_value 3 pends)
mip_wide true = omega arith
mip_wide false = omega arith

seen_by : (is_mip : Bool) (c : Core) (m : Memory) (number v : ℕ) → CoreWide c
    → (if is_mip then Some (mip_value c m) else csr_value c number) ≡ Some v → IsWide v
seen_by true c m number v w is = subst (λ n. IsWide n) (same_Some (mip_value c m) v is) (mip_wide (msip_bit m c.id))
seen_by false c m number v w is = csr_value_wide c number v w is

pub csr_seen_wide : (c : Core) (m : Memory) (number v : ℕ) → CoreWide c → csr_seen c m number ≡ Some v → IsWide v
unfolding csr_seen
csr_seen_wide c m number v w is = seen_by (number == mip_number) c m number v w is

pub swaps_wide : (writes : Bool) (change : ℕ → ℕ → ℕ) (number v rd : ℕ) (c : Core) (m : Memory) → CoreWide c
    → CoreWide (swaps_csr writes change number v rd c m).core
swaps_wide writes change number v rd c m w = swapped_wide (csr_seen c m number) writes change number v rd c (λ old is. csr_seen_wide c m number old w is) w

-- ---- loads, stores and atomic operations

load_cause_wide : (fault : MemFault) → IsWide (load_cause fault)
load_cause_wide Misaligned = omega arith
load_cause_wide Outside = omega arith

store_cause_wide : (fault : MemFault) → IsWide (store_cause fault)
store_cause_wide Misaligned = omega arith
store_cause_wide Outside = omega arith

pub after_load_wide : (r : Result ℕ MemFault) (extend : ℕ → ℕ) (rd a : ℕ) (c : Core) → CoreWide c → IsWide a → ((v : ℕ) → r ≡ Ok v → IsWide (extend v))
    → CoreWide (after_load r extend rd a c).core
after_load_wide (Ok v) extend rd a c w p q = sets_rd_wide rd (extend v) c w (q v refl)
after_load_wide (Err fault) extend rd a c w p q = traps_wide (load_cause fault) a c w (load_cause_wide fault) p

pub stored_wide : (r : Result ⊤ MemFault) (a : ℕ) (c : Core) → CoreWide c → IsWide a → CoreWide (stored_step r a c).core
stored_wide (Ok x) a c w p = goes_on_wide c w
stored_wide (Err fault) a c w p = traps_wide (store_cause fault) a c w (store_cause_wide fault) p

one_or : (b : Bool) → IsWide (if b then 0 else 1)
one_or true = omega arith
one_or false = omega arith

pub sc_wide : (r : Result ℕ MemFault) (covered : Bool) (rd a : ℕ) (c : Core) → CoreWide c → IsWide a → CoreWide (sc_step r covered rd a c).core
sc_wide (Ok v) covered rd a c w p = sets_rd_wide rd (if covered then 0 else 1) c w (one_or covered)
sc_wide (Err fault) covered rd a c w p = traps_wide (store_cause fault) a c w (store_cause_wide fault) p

pub amo_wide : (r : Result ℕ MemFault) (extend : ℕ → ℕ) (rd a : ℕ) (c : Core) → CoreWide c → IsWide a → ((v : ℕ) → r ≡ Ok v → IsWide (extend v))
    → CoreWide (amo_step r extend rd a c).core
amo_wide (Ok v) extend rd a c w p q = sets_rd_wide rd (extend v) c w (q v refl)
amo_wide (Err fault) extend rd a c w p q = traps_wide (store_cause fault) a c w (store_cause_wide fault) p
