-- What each class of instructions keeps: the core's number and x0, what is true of every core, other harts' reservations, and memory at a trap.
use Rattle.std.proofs.Common.{
  ◌≡◌,
  ℕ,
  ◌+◌,
  ◌*◌,
  ◌/◌,
  ◌%◌,
  ◌^◌,
  ◌<◌,
  ◌≤◌,
  Bool,
  true,
  false,
  cond,
  ◌&&◌,
  eqb,
  List,
  [],
  ◌∷◌,
  length,
  get_or,
  set,
  Option,
  Some,
  None,
  Result,
  Ok,
  Err,
  slice_get,
  find,
  bit_and,
  refl,
  sym,
  subst,
  ap,
  ◌∙◌,
  inl,
  arith,
}
use Rattle.std.specs.Prelude.{⊤}
use Rattle.std.proofs.lemmas.Bool.{eqb-true, eqb-false}
use Rattle.std.proofs.lemmas.List.{get_or-set_other, length-set}
use Rattle.std.proofs.lemmas.Nat.{and_block, and_mask, and_mod, and_le_r}
use Rattle.rv_model.specs.declared.alu_op.AluOp.{AluOp}
use Rattle.rv_model.specs.declared.did.Did.TheVariants.{Retired, Trapped, Interrupted}
use Rattle.rv_model.specs.declared.mem_fault.MemFault.{MemFault}
use Rattle.rv_model.specs.declared.operands.BType.{BType}
use Rattle.rv_model.specs.declared.size.Size.{Size}
use Rattle.rv_model.specs.Fields.{field}
use Rattle.rv_model.specs.Memory.{Memory, loaded, store_answer, after_store, covers}
use Rattle.rv_model.specs.Core.{Core, IsCore, with_x, next_pc, offset_by, mie_of, mpie_of, mstatus_with}
use Rattle.rv_model.specs.Registers.{Register, registers, kept_of, written_at, csr_seen, csr_written, csr_read_only, mstatus_bits, address_bits, vector_bits}
use Rattle.rv_model.specs.Traps.{interrupt_entered, load_cause, store_cause, trap_entered, trap_left}
use Rattle.rv_model.specs.Effects.{
  Step,
  same_memory,
  retires,
  goes_on,
  traps,
  sets_rd,
  jumps,
  branches,
  swapped_csr,
  swaps_csr,
  after_load,
  stored_step,
  stores_at,
  after_reserve,
  reserves_at,
  sc_step,
  after_sc,
  stores_if_reserved_at,
  amo_step,
  after_amo,
  updates_at,
}
use Rattle.rv_model.specs.Laws.{KeptOrCleared, KeepsCore, IsTrap, Keeps}
use Rattle.rv_model.proofs.MemoryLemmas.{after_store_refused, after_store_others, after_store_places, others_at}

-- ---- cores

pub kept_twice : (a b c : Core) → KeepsCore a b → KeepsCore b c → KeepsCore a c
kept_twice a b c h k = record { same_id = k.same_id ∙ h.same_id; x0 = k.x0 ∙ h.x0; is_core = λ core. k.is_core (h.is_core core) }

pub same_core : (c : Core) → KeepsCore c c
same_core c = record { same_id = refl; x0 = refl; is_core = λ core. core }

with_x_by : (b : Bool) (c : Core) (r v : ℕ) → (b ≡ false → r ≡ 0 → ⊥) → KeepsCore c (cond b c (record c { x = set c.x r v }))
with_x_by true c r v other = same_core c
with_x_by false c r v other = record {
  same_id = refl;
  x0 = get_or-set_other c.x r 0 v 0 (λ e. other refl (sym e));
  is_core = λ h. record {
    registers = length-set c.x r v ∙ h.registers;
    pc_aligned = h.pc_aligned;
    mode_known = h.mode_known;
    mepc_aligned = h.mepc_aligned;
    mpp_fixed = h.mpp_fixed;
  };
}

pub with_x_keeps : (c : Core) (r v : ℕ) → KeepsCore c (with_x c r v)
with_x_keeps c r v = with_x_by (eqb r 0) c r v (eqb-false r 0)

pub at_pc : (c : Core) (target : ℕ) → (IsCore c → target % 4 ≡ 0) → KeepsCore c (record c { pc = target })
at_pc c target fits = record {
  same_id = refl;
  x0 = refl;
  is_core = λ h. record {
    registers = h.registers;
    pc_aligned = fits h;
    mode_known = h.mode_known;
    mepc_aligned = h.mepc_aligned;
    mpp_fixed = h.mpp_fixed;
  };
}

next_aligned : (pc : ℕ) → pc % 4 ≡ 0 → (pc + 4) % 2 ^ 64 % 4 ≡ 0
next_aligned pc h = omega arith

-- ---- steps: one that retires, and one that traps

-- what every step leaves of its core: where it traps, the core is the trap's
pub record StepKeeps (c : Core) (s : Step) : Type 0 where
  pub core : KeepsCore c s.core
  pub trapped : (cause : ℕ) → s.did ≡ Trapped cause → (value : ℕ) × (s.core ≡ trap_entered cause value c)
  pub no_interrupt : s.did ≡ Interrupted → ⊥

retired_is_not : (cause : ℕ) → Retired ≡ Trapped cause → ⊥
retired_is_not cause e = cc

same_cause : (a b : ℕ) → Trapped a ≡ Trapped b → a ≡ b
same_cause a b e = cc

retired : (c after : Core) → KeepsCore c after → StepKeeps c (retires after)
retired c after h = record { core = h; trapped = λ cause e. absurd (retired_is_not cause e); no_interrupt = λ e. cc }

next_keeps : (c : Core) → KeepsCore c (record c { pc = next_pc c })
next_keeps c = at_pc c (next_pc c) (λ h. next_aligned c.pc h.pc_aligned)

pub goes_on_keeps : (c : Core) → StepKeeps c (goes_on c)
goes_on_keeps c = retired c _ (next_keeps c)

sets_rd_from : (a c : Core) (rd v : ℕ) → KeepsCore a c → StepKeeps a (sets_rd rd v c)
sets_rd_from a c rd v h = retired a _ (kept_twice a (with_x c rd v) _ (kept_twice a c _ h (with_x_keeps c rd v)) (next_keeps (with_x c rd v)))

pub sets_rd_keeps : (rd v : ℕ) (c : Core) → StepKeeps c (sets_rd rd v c)
sets_rd_keeps rd v c = sets_rd_from c c rd v (same_core c)

-- ---- mstatus and traps

mstatus_form : (mie mpie : ℕ) → mie < 2 → mpie < 2
    → mstatus_with (field 3 1 (mstatus_with mie mpie)) (field 7 1 (mstatus_with mie mpie)) ≡ mstatus_with mie mpie
mstatus_form mie mpie h k = omega arith

bit_below : (n : ℕ) → n % 2 < 2
bit_below n = omega arith

mie_below : (c : Core) → mie_of c < 2
mie_below c = bit_below (c.mstatus / 2 ^ 3)

mpie_below : (c : Core) → mpie_of c < 2
mpie_below c = bit_below (c.mstatus / 2 ^ 7)

base_aligned : (mtvec : ℕ) → mtvec / 4 * 4 % 4 ≡ 0
base_aligned mtvec = omega arith

trap_keeps : (cause value : ℕ) (c : Core) → KeepsCore c (trap_entered cause value c)
trap_keeps cause value c = record {
  same_id = refl;
  x0 = refl;
  is_core = λ h. record {
    registers = h.registers;
    pc_aligned = base_aligned c.mtvec;
    mode_known = h.mode_known;
    mepc_aligned = h.pc_aligned;
    mpp_fixed = mstatus_form 0 (mie_of c) (omega arith) (mie_below c);
  };
}

pub traps_keeps : (cause value : ℕ) (c : Core) → StepKeeps c (traps cause value c)
traps_keeps cause value c = record {
  core = trap_keeps cause value c;
  trapped = λ other e. (value, ap (λ k. trap_entered k value c) (same_cause cause other e));
  no_interrupt = λ e. cc;
}

-- the interrupt's handler, in either mode
handler_by : (b : Bool) (mtvec : ℕ) → cond b ((mtvec / 4 * 4 + 12) % 2 ^ 64) (mtvec / 4 * 4) % 4 ≡ 0
handler_by true mtvec = omega arith
handler_by false mtvec = omega arith

pub interrupt_keeps : (c : Core) → KeepsCore c (interrupt_entered c)
interrupt_keeps c = record {
  same_id = refl;
  x0 = refl;
  is_core = λ h. record {
    registers = h.registers;
    pc_aligned = handler_by (eqb (c.mtvec % 4) 1) c.mtvec;
    mode_known = h.mode_known;
    mepc_aligned = h.pc_aligned;
    mpp_fixed = mstatus_form 0 (mie_of c) (omega arith) (mie_below c);
  };
}

left_keeps : (c : Core) → KeepsCore c (trap_left c)
left_keeps c = record {
  same_id = refl;
  x0 = refl;
  is_core = λ h. record {
    registers = h.registers;
    pc_aligned = h.mepc_aligned;
    mode_known = h.mode_known;
    mepc_aligned = h.mepc_aligned;
    mpp_fixed = mstatus_form (mpie_of c) 1 (mpie_below c) (omega arith);
  };
}

pub trap_left_keeps : (c : Core) → StepKeeps c (retires (trap_left c))
trap_left_keeps c = retired c (trap_left c) (left_keeps c)

-- ---- jumps

jumps_by : (b : Bool) (rd target : ℕ) (c : Core) → (b ≡ true → target % 4 ≡ 0)
    → StepKeeps c (cond b (retires (record (with_x c rd (next_pc c)) { pc = target })) (traps 0 target c))
jumps_by true rd target c fits = retired c _ (kept_twice c (with_x c rd (next_pc c)) _ (with_x_keeps c rd (next_pc c))
    (at_pc (with_x c rd (next_pc c)) target (λ _. fits refl)))
jumps_by false rd target c fits = traps_keeps 0 target c

pub jumps_keeps : (rd target : ℕ) (c : Core) → StepKeeps c (jumps rd target c)
jumps_keeps rd target c = jumps_by (eqb (target % 4) 0) rd target c (eqb-true (target % 4) 0)

pub branches_keeps : (taken : Bool) (p : BType) (c : Core) → StepKeeps c (branches taken p c)
branches_keeps true p c = jumps_keeps 0 (offset_by c.pc p.imm) c
branches_keeps false p c = goes_on_keeps c

-- ---- control and status registers

abbrev AllKeep : List Register → Type 0
AllKeep [] = Unit {0}
AllKeep (r ∷ rs) = ((c : Core) (v : ℕ) → KeepsCore c (r.write (kept_of r v) c)) × AllKeep rs

written_first : (b : Bool) (r : Register) (o : Option Register) (v : ℕ) (c : Core)
    → KeepsCore c (r.write (kept_of r v) c) → KeepsCore c (written_at o v c) → KeepsCore c (written_at (cond b (Some r) o) v c)
written_first true r o v c here rest = here
written_first false r o v c here rest = rest

written_found : (p : Register → Bool) (rs : List Register) → AllKeep rs → (v : ℕ) (c : Core) → KeepsCore c (written_at (find p rs) v c)
written_found p [] h v c = same_core c
written_found p (r ∷ rs) h v c = written_first (p r) r (find p rs) v c (h.0 c v) (written_found p rs h.1 v c)

aligned_bits : (v : ℕ) → (0 + bit_and v address_bits) % 4 ≡ 0
aligned_bits v =
    let low : bit_and v address_bits % 4 ≡ bit_and (v % 4) 0 = and_mod v address_bits 2 in
    let none : bit_and (v % 4) 0 ≤ 0 = and_le_r (v % 4) 0 in
    omega arith

mode_kept : (v : ℕ) → (0 + bit_and v vector_bits) % 4 ≤ 1
mode_kept v =
    let low : bit_and v vector_bits % 4 ≡ bit_and (v % 4) 1 = and_mod v vector_bits 2 in
    let one : bit_and (v % 4) 1 ≤ 1 = and_le_r (v % 4) 1 in
    omega arith

bit_of_eight : (u : ℕ) → bit_and u 8 ≡ u / 8 % 2 * 8
bit_of_eight u =
    let cut : u ≡ u / 8 * 2 ^ 3 + u % 8 = omega arith in
    let parts : bit_and (u / 8 * 2 ^ 3 + u % 8) (1 * 2 ^ 3 + 0) ≡ bit_and (u / 8) 1 * 2 ^ 3 + bit_and (u % 8) 0 =
    and_block 3 (u / 8) 1 (u % 8) 0 (omega arith) (omega arith) in
    let bit : bit_and (u / 8) 1 ≡ u / 8 % 2 = and_mask (u / 8) 1 in
    let none : bit_and (u % 8) 0 ≤ 0 = and_le_r (u % 8) 0 in
    let whole : bit_and u 8 ≡ bit_and (u / 8 * 2 ^ 3 + u % 8) (1 * 2 ^ 3 + 0) = ap (λ n. bit_and n 8) cut in
    omega arith

mstatus_bits_are : (v : ℕ) → bit_and v mstatus_bits ≡ v / 8 % 2 * 8 + v / 128 % 2 * 128
mstatus_bits_are v =
    let cut : v ≡ v / 128 * 2 ^ 7 + v % 128 = omega arith in
    let parts : bit_and (v / 128 * 2 ^ 7 + v % 128) (1 * 2 ^ 7 + 8) ≡ bit_and (v / 128) 1 * 2 ^ 7 + bit_and (v % 128) 8 =
    and_block 7 (v / 128) 1 (v % 128) 8 (omega arith) (omega arith) in
    let bit : bit_and (v / 128) 1 ≡ v / 128 % 2 = and_mask (v / 128) 1 in
    let eight : bit_and (v % 128) 8 ≡ v % 128 / 8 % 2 * 8 = bit_of_eight (v % 128) in
    let whole : bit_and v mstatus_bits ≡ bit_and (v / 128 * 2 ^ 7 + v % 128) (1 * 2 ^ 7 + 8) = ap (λ n. bit_and n mstatus_bits) cut in
    omega arith

kept_mstatus : (v n : ℕ) → n ≡ 0x1800 + bit_and v mstatus_bits → mstatus_with (field 3 1 n) (field 7 1 n) ≡ n
kept_mstatus v n is =
    let bits = mstatus_bits_are v in
    omega arith

mstatus_keeps : (c : Core) (v : ℕ) → KeepsCore c (record c { mstatus = 0x1800 + bit_and v mstatus_bits })
mstatus_keeps c v = record {
  same_id = refl;
  x0 = refl;
  is_core = λ h. record {
    registers = h.registers;
    pc_aligned = h.pc_aligned;
    mode_known = h.mode_known;
    mepc_aligned = h.mepc_aligned;
    mpp_fixed = kept_mstatus v (0x1800 + bit_and v mstatus_bits) refl;
  };
}

mtvec_keeps : (c : Core) (v : ℕ) → KeepsCore c (record c { mtvec = 0 + bit_and v vector_bits })
mtvec_keeps c v = record {
  same_id = refl;
  x0 = refl;
  is_core = λ h. record {
    registers = h.registers;
    pc_aligned = h.pc_aligned;
    mode_known = mode_kept v;
    mepc_aligned = h.mepc_aligned;
    mpp_fixed = h.mpp_fixed;
  };
}

mepc_keeps : (c : Core) (v : ℕ) → KeepsCore c (record c { mepc = 0 + bit_and v address_bits })
mepc_keeps c v = record {
  same_id = refl;
  x0 = refl;
  is_core = λ h. record {
    registers = h.registers;
    pc_aligned = h.pc_aligned;
    mode_known = h.mode_known;
    mepc_aligned = aligned_bits v;
    mpp_fixed = h.mpp_fixed;
  };
}

-- a register of which nothing else is known
free_keeps : (c d : Core) → d.id ≡ c.id → d.x ≡ c.x → d.pc ≡ c.pc → d.mtvec ≡ c.mtvec → d.mepc ≡ c.mepc → d.mstatus ≡ c.mstatus → KeepsCore c d
free_keeps c d i x pc mtvec mepc mstatus = record {
  same_id = i;
  x0 = ap (λ xs. get_or xs 0 0) x;
  is_core = λ h. record {
    registers = ap length x ∙ h.registers;
    pc_aligned = ap (λ n. n % 4) pc ∙ h.pc_aligned;
    mode_known = subst (λ n. n % 4 ≤ 1) (sym mtvec) h.mode_known;
    mepc_aligned = ap (λ n. n % 4) mepc ∙ h.mepc_aligned;
    mpp_fixed = ap (λ n. mstatus_with (field 3 1 n) (field 7 1 n)) mstatus ∙ h.mpp_fixed ∙ sym mstatus;
  };
}

registers_keep : AllKeep registers
registers_keep = (
  mstatus_keeps,
  (
    λ c v. same_core c,
    (
      λ c v. free_keeps c _ refl refl refl refl refl refl,
      (
        mtvec_keeps,
        (
          λ c v. free_keeps c _ refl refl refl refl refl refl,
          (
            mepc_keeps,
            (
              λ c v. free_keeps c _ refl refl refl refl refl refl,
              (
                λ c v. free_keeps c _ refl refl refl refl refl refl,
                (
                  λ c v. same_core c,
                  (
                    λ c v. same_core c,
                    (
                      λ c v. same_core c,
                      (
                        λ c v. same_core c,
                        (
                          λ c v. same_core c,
                          tt,
                        ),
                      ),
                    ),
                  ),
                ),
              ),
            ),
          ),
        ),
      ),
    ),
  ),
)

pub csr_written_keeps : (c : Core) (number v : ℕ) → KeepsCore c (csr_written c number v)
unfolding csr_written
csr_written_keeps c number v = written_found (λ r. eqb r.number number) registers registers_keep v c

written_if : (writes : Bool) (c : Core) (number v : ℕ) → KeepsCore c (cond writes (csr_written c number v) c)
written_if true c number v = csr_written_keeps c number v
written_if false c number v = same_core c

refused_or : (b : Bool) (s t : Step) (c : Core) → StepKeeps c s → StepKeeps c t → StepKeeps c (cond b s t)
refused_or true s t c h k = h
refused_or false s t c h k = k

swapped_keeps : (o : Option ℕ) (writes : Bool) (change : ℕ → ℕ → ℕ) (number v rd : ℕ) (c : Core) → StepKeeps c (swapped_csr o writes change number v rd c)
swapped_keeps None writes change number v rd c = traps_keeps 2 0 c
swapped_keeps (Some old) writes change number v rd c =
    refused_or (writes && csr_read_only number) _ _ c (traps_keeps 2 0 c) (sets_rd_from c _ rd old (written_if writes c number (change old v)))

pub swaps_csr_keeps : (writes : Bool) (change : ℕ → ℕ → ℕ) (number v rd : ℕ) (c : Core) (m : Memory) → StepKeeps c (swaps_csr writes change number v rd c m)
swaps_csr_keeps writes change number v rd c m = swapped_keeps (csr_seen c m number) writes change number v rd c

-- ---- memory

is_trap : {c : Core} {s : Step} (m n : Memory) → StepKeeps c s → (cause : ℕ) → s.did ≡ Trapped cause → n ≡ m
    → IsTrap cause c m (record { step = s; memory = n })
is_trap m n h cause e same = record { value = (h.trapped cause e).0; core = (h.trapped cause e).1; memory = same }

pub quiet : {c : Core} {s : Step} (m : Memory) → StepKeeps c s → Keeps c m (same_memory m s)
quiet m h = record { core = h.core; others = λ j other. inl refl; places = refl; trapped = λ cause e. is_trap m m h cause e refl }

pub after_load_keeps : (r : Result ℕ MemFault) (extend : ℕ → ℕ) (rd a : ℕ) (c : Core) → StepKeeps c (after_load r extend rd a c)
after_load_keeps (Ok v) extend rd a c = sets_rd_keeps rd (extend v) c
after_load_keeps (Err fault) extend rd a c = traps_keeps (load_cause fault) a c

pub stored_step_keeps : (r : Result ⊤ MemFault) (a : ℕ) (c : Core) → StepKeeps c (stored_step r a c)
stored_step_keeps (Ok u) a c = goes_on_keeps c
stored_step_keeps (Err fault) a c = traps_keeps (store_cause fault) a c

store_trapped : (r : Result ⊤ MemFault) (a : ℕ) (size : Size) (v : ℕ) (c : Core) (m : Memory) (cause : ℕ)
    → store_answer m a size ≡ r → (stored_step r a c).did ≡ Trapped cause → after_store m a size v ≡ m
store_trapped (Ok u) a size v c m cause is e = absurd (retired_is_not cause e)
store_trapped (Err fault) a size v c m cause is e = after_store_refused m a size v fault is

pub stores_keeps : (a : ℕ) (size : Size) (v : ℕ) (c : Core) (m : Memory) → Keeps c m (stores_at a size v c m)
stores_keeps a size v c m = record {
  core = (stored_step_keeps (store_answer m a size) a c).core;
  others = λ j other. after_store_others m a size v j;
  places = after_store_places m a size v;
  trapped = λ cause e. is_trap m _ (stored_step_keeps (store_answer m a size) a c) cause e (store_trapped (store_answer m a size) a size v c m cause refl e);
}

reserve_others : (r : Result ℕ MemFault) (a : ℕ) (c : Core) (m : Memory) (j : ℕ) → (j ≡ c.id → ⊥)
    → KeptOrCleared (slice_get m.reserved j) (slice_get (after_reserve r a c m).reserved j)
reserve_others (Ok v) a c m j other = others_at m.reserved m.reserved c.id j (Some (a / 8 * 8)) other (inl refl)
reserve_others (Err fault) a c m j other = inl refl

reserve_places : (r : Result ℕ MemFault) (a : ℕ) (c : Core) (m : Memory) → length (after_reserve r a c m).reserved ≡ length m.reserved
reserve_places (Ok v) a c m = length-set m.reserved c.id (Some (a / 8 * 8))
reserve_places (Err fault) a c m = refl

reserve_trapped : (r : Result ℕ MemFault) (extend : ℕ → ℕ) (rd a : ℕ) (c : Core) (m : Memory) (cause : ℕ) → (after_load r extend rd a c).did ≡ Trapped cause
    → after_reserve r a c m ≡ m
reserve_trapped (Ok v) extend rd a c m cause e = absurd (retired_is_not cause e)
reserve_trapped (Err fault) extend rd a c m cause e = refl

pub reserves_keeps : (a : ℕ) (size : Size) (extend : ℕ → ℕ) (rd : ℕ) (c : Core) (m : Memory) → Keeps c m (reserves_at a size extend rd c m)
reserves_keeps a size extend rd c m = record {
  core = (after_load_keeps (loaded m a size) extend rd a c).core;
  others = λ j other. reserve_others (loaded m a size) a c m j other;
  places = reserve_places (loaded m a size) a c m;
  trapped = λ cause e. is_trap m _ (after_load_keeps (loaded m a size) extend rd a c) cause e (reserve_trapped (loaded m a size) extend rd a c m cause e);
}

pub sc_step_keeps : (r : Result ℕ MemFault) (covered : Bool) (rd a : ℕ) (c : Core) → StepKeeps c (sc_step r covered rd a c)
sc_step_keeps (Ok v) covered rd a c = sets_rd_keeps rd (cond covered 0 1) c
sc_step_keeps (Err fault) covered rd a c = traps_keeps (store_cause fault) a c

stored_if_others : (covered : Bool) (a : ℕ) (size : Size) (v : ℕ) (m : Memory) (j : ℕ)
    → KeptOrCleared (slice_get m.reserved j) (slice_get (cond covered (after_store m a size v) m).reserved j)
stored_if_others true a size v m j = after_store_others m a size v j
stored_if_others false a size v m j = inl refl

sc_others : (r : Result ℕ MemFault) (covered : Bool) (a : ℕ) (size : Size) (v : ℕ) (c : Core) (m : Memory) (j : ℕ) → (j ≡ c.id → ⊥)
    → KeptOrCleared (slice_get m.reserved j) (slice_get (after_sc r covered a size v c m).reserved j)
sc_others (Ok u) covered a size v c m j other = others_at m.reserved (cond covered (after_store m a size v) m).reserved c.id j None other
    (stored_if_others covered a size v m j)
sc_others (Err fault) covered a size v c m j other = inl refl

stored_if_places : (covered : Bool) (a : ℕ) (size : Size) (v : ℕ) (m : Memory) → length (cond covered (after_store m a size v) m).reserved ≡ length m.reserved
stored_if_places true a size v m = after_store_places m a size v
stored_if_places false a size v m = refl

sc_places : (r : Result ℕ MemFault) (covered : Bool) (a : ℕ) (size : Size) (v : ℕ) (c : Core) (m : Memory)
    → length (after_sc r covered a size v c m).reserved ≡ length m.reserved
sc_places (Ok u) covered a size v c m = length-set (cond covered (after_store m a size v) m).reserved c.id None ∙ stored_if_places covered a size v m
sc_places (Err fault) covered a size v c m = refl

sc_trapped : (r : Result ℕ MemFault) (covered : Bool) (rd a : ℕ) (size : Size) (v : ℕ) (c : Core) (m : Memory) (cause : ℕ)
    → (sc_step r covered rd a c).did ≡ Trapped cause → after_sc r covered a size v c m ≡ m
sc_trapped (Ok u) covered rd a size v c m cause e = absurd (retired_is_not cause e)
sc_trapped (Err fault) covered rd a size v c m cause e = refl

pub stores_if_reserved_keeps : (a : ℕ) (size : Size) (v rd : ℕ) (c : Core) (m : Memory) → Keeps c m (stores_if_reserved_at a size v rd c m)
stores_if_reserved_keeps a size v rd c m = record {
  core = (sc_step_keeps (loaded m a size) (covers m c.id a size) rd a c).core;
  others = λ j other. sc_others (loaded m a size) (covers m c.id a size) a size v c m j other;
  places = sc_places (loaded m a size) (covers m c.id a size) a size v c m;
  trapped = λ cause e. is_trap m _ (sc_step_keeps (loaded m a size) (covers m c.id a size) rd a c) cause e
      (sc_trapped (loaded m a size) (covers m c.id a size) rd a size v c m cause e);
}

pub amo_step_keeps : (r : Result ℕ MemFault) (extend : ℕ → ℕ) (rd a : ℕ) (c : Core) → StepKeeps c (amo_step r extend rd a c)
amo_step_keeps (Ok v) extend rd a c = sets_rd_keeps rd (extend v) c
amo_step_keeps (Err fault) extend rd a c = traps_keeps (store_cause fault) a c

amo_others : (r : Result ℕ MemFault) (extend : ℕ → ℕ) (o : AluOp) (a : ℕ) (size : Size) (b : ℕ) (m : Memory) (j : ℕ)
    → KeptOrCleared (slice_get m.reserved j) (slice_get (after_amo r extend o a size b m).reserved j)
amo_others (Ok v) extend o a size b m j = after_store_others m a size _ j
amo_others (Err fault) extend o a size b m j = inl refl

amo_places : (r : Result ℕ MemFault) (extend : ℕ → ℕ) (o : AluOp) (a : ℕ) (size : Size) (b : ℕ) (m : Memory)
    → length (after_amo r extend o a size b m).reserved ≡ length m.reserved
amo_places (Ok v) extend o a size b m = after_store_places m a size _
amo_places (Err fault) extend o a size b m = refl

amo_trapped : (r : Result ℕ MemFault) (extend : ℕ → ℕ) (o : AluOp) (rd a : ℕ) (size : Size) (b : ℕ) (c : Core) (m : Memory) (cause : ℕ)
    → (amo_step r extend rd a c).did ≡ Trapped cause → after_amo r extend o a size b m ≡ m
amo_trapped (Ok v) extend o rd a size b c m cause e = absurd (retired_is_not cause e)
amo_trapped (Err fault) extend o rd a size b c m cause e = refl

pub updates_keeps : (a : ℕ) (size : Size) (extend : ℕ → ℕ) (o : AluOp) (b rd : ℕ) (c : Core) (m : Memory) → Keeps c m (updates_at a size extend o b rd c m)
updates_keeps a size extend o b rd c m = record {
  core = (amo_step_keeps (loaded m a size) extend rd a c).core;
  others = λ j other. amo_others (loaded m a size) extend o a size b m j;
  places = amo_places (loaded m a size) extend o a size b m;
  trapped = λ cause e. is_trap m _ (amo_step_keeps (loaded m a size) extend rd a c) cause e (amo_trapped (loaded m a size) extend o rd a size b c m cause e);
}
