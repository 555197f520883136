-- The worked examples, computed.
use Rattle.std.proofs.Common.{
  ◌≡◌,
  ℕ,
  ◌+◌,
  ◌*◌,
  ◌/◌,
  ◌%◌,
  ◌<◌,
  Bool,
  true,
  false,
  cond,
  List,
  [],
  ◌∷◌,
  length,
  Option,
  Some,
  None,
  Result,
  Ok,
  Err,
  slice_get,
  option_map,
  refl,
  ap,
  ◌∙◌,
  arith,
}
use Rattle.std.specs.FinMap.{get}
use Rattle.std.proofs.lemmas.Bool.{and_from, eqb-true, lt-ltb, le-leb}
use Rattle.std.proofs.lemmas.Option.{slice_get-map}
use Rattle.rv_model.specs.declared.mem_fault.MemFault.{MemFault}
use Rattle.rv_model.specs.declared.mem_fault.MemFault.TheVariants.{Misaligned, Outside}
use Rattle.rv_model.specs.declared.size.Size.{Size}
use Rattle.rv_model.specs.declared.size.Size.TheVariants.{B1, B2, B4, B8}
use Rattle.rv_model.specs.Size.{count_of}
use Rattle.rv_model.specs.Alu.{alu_of}
use Rattle.rv_model.specs.Fields.{bit_value, sign_extended}
use Rattle.rv_model.specs.Laws.{answered}
use Rattle.rv_model.specs.Rows.{meaning}
use Rattle.rv_model.specs.Memory.{
  Memory,
  with_byte,
  value_at,
  or_outside,
  is_aligned,
  fetch_of,
  msip_bit,
  loaded,
  store_answer,
  after_store,
  touches,
  kept,
  reserve,
  place_covers,
  covers,
}
use Rattle.rv_model.specs.Core.{Core, reset_core, x_of}
use Rattle.rv_model.specs.Registers.{csr_seen, csr_value, csr_read_only}
use Rattle.rv_model.specs.Effects.{Outcome, same_memory, after_load, stored_step, effect_of, sc_step, sets_rd, after_sc}
use Rattle.rv_model.specs.Execute.{fetched, exec_masked_of, exec_of, interrupted, takes_interrupt}
use Rattle.rv_model.specs.Board.{with_outcome}
use Rattle.rv_model.specs.Undebugged.{undebugged, Entry, Exec}
use Rattle.rv_model.specs.Examples.{
  ReservedWordsMeanNothing,
  CounterCounts,
  WritesKeepTheirBits,
  one_hart,
  counter,
  Divisions,
  TrapsOutside,
  TrapExamples,
  ScFailsAfterStore,
  ScSucceedsAfterLr,
  hart_with,
  hart_waiting,
  InterruptExamples,
}
use Rattle.rv_model.proofs.BoardLemmas.{interrupts_are_taken}
use Rattle.rv_model.proofs.MapLemmas.{slice_get-set_same}
use Rattle.rv_model.proofs.MemoryLemmas.{after_store_refused, after_store_taken, store_answer_is}

pub reserved_words_mean_nothing : ReservedWordsMeanNothing
unfolding meaning
reserved_words_mean_nothing = record { all_zeros = refl; all_ones = refl; branch_2 = refl; load_7 = refl; reserved_of_x1 = refl; supervisor_return = refl }

-- ---- programs

-- where no interrupt is taken, a fetched word's outcome
exec_fetched : (c : Core) (m : Memory) (r : Result ℕ MemFault) → takes_interrupt c m ≡ false → fetch_of m c.pc ≡ r → exec_of c m ≡ fetched r c m
unfolding exec_masked_of
exec_fetched c m r none is = (interrupts_are_taken c m).other none ∙ ap (λ r. fetched r c m) is

-- and in the place of the execution
fetch : (c : Core) (m : Memory) (w : ℕ) (es : List Entry) → takes_interrupt c m ≡ false → fetch_of m c.pc ≡ Ok w
    → undebugged (one_hart c m) (Exec 0 ∷ es) ≡ undebugged (with_outcome 0 (fetched (Ok w) c m) (one_hart c m)) es
fetch c m w es none is = ap (λ o. undebugged (with_outcome 0 o (one_hart c m)) es) (exec_fetched c m (Ok w) none is)

pub counter_counts : CounterCounts
unfolding meaning alu_of effect_of
counter_counts m h =
    fetch (reset_core 0) m 0x00500293 (Exec 0 ∷ Exec 0 ∷ []) refl h.sets
    ∙ fetch (counter 5 0x80000004) m 0x00128293 (Exec 0 ∷ []) refl h.adds
    ∙ fetch (counter 6 0x80000008) m 0xffdff06f [] refl h.jumps

pub writes_keep_their_bits : WritesKeepTheirBits
writes_keep_their_bits m = refl

-- ---- single instructions

pub divisions : Divisions
unfolding meaning alu_of effect_of
divisions = record {
  by_zero = λ m is. exec_fetched (hart_with 7 0) m (Ok 0x027342b3) refl is;
  unsigned_by_zero = λ m is. exec_fetched (hart_with 7 0) m (Ok 0x027352b3) refl is;
  remainder_by_zero = λ m is. exec_fetched (hart_with 7 0) m (Ok 0x027362b3) refl is;
  overflow = λ m is. exec_fetched (hart_with 0x8000000000000000 0xffffffffffffffff) m (Ok 0x027342b3) refl is;
  remainder_of_overflow = λ m is. exec_fetched (hart_with 0x8000000000000000 0xffffffffffffffff) m (Ok 0x027362b3) refl is;
}

-- an aligned word of which memory has no first byte
outside : (m : Memory) → get m.bytes 0x1000 ≡ None → loaded m 0x1000 B4 ≡ Err Outside
unfolding loaded
outside m none = ap (λ o. or_outside (with_byte o (value_at m.bytes 0x1001 3))) none

load_outside : TrapsOutside 0x00032283 0x1000 0 5 0x1000
unfolding meaning effect_of
load_outside m is none =
    exec_fetched (hart_with 0x1000 0) m (Ok 0x00032283) refl is
    ∙ ap (λ r. same_memory m (after_load r (sign_extended 32) 5 0x1000 (hart_with 0x1000 0))) (outside m none)

store_outside : TrapsOutside 0x00732023 0x1000 7 7 0x1000
unfolding meaning effect_of
store_outside m is none =
    let refused : store_answer m 0x1000 B4 ≡ Err Outside = store_answer_is m 0x1000 B4 ∙ ap answered (outside m none) in
    exec_fetched (hart_with 0x1000 7) m (Ok 0x00732023) refl is
    ∙ ap (λ r. record { step = stored_step r 0x1000 (hart_with 0x1000 7); memory = after_store m 0x1000 B4 7 }) refused
    ∙ ap (λ n. record { step = stored_step (Err Outside) 0x1000 (hart_with 0x1000 7); memory = n }) (after_store_refused m 0x1000 B4 7 Outside refused)

pub trap_examples : TrapExamples
unfolding meaning alu_of effect_of loaded store_answer after_store csr_seen csr_value csr_read_only
trap_examples = record {
  no_instruction = λ m is. exec_fetched (hart_with 0 0) m (Ok 0x00007003) refl is;
  environment_call = λ m is. exec_fetched (hart_with 0 0) m (Ok 0x00000073) refl is;
  breakpoint = λ m is. exec_fetched (hart_with 0 0) m (Ok 0x00100073) refl is;
  jump_by_two = λ m is. exec_fetched (hart_with 0 0) m (Ok 0x0020006f) refl is;
  misaligned_load = λ m is. exec_fetched (hart_with 0x10 0) m (Ok 0x00132283) refl is;
  misaligned_store = λ m is. exec_fetched (hart_with 0 0) m (Ok 0x007020a3) refl is;
  load_outside = load_outside;
  store_outside = store_outside;
  write_of_mhartid = λ m is. exec_fetched (hart_with 0 0) m (Ok 0xf1401073) refl is;
  no_such_register = λ m is. exec_fetched (hart_with 0 0) m (Ok 0x7b0022f3) refl is;
  read_of_mhartid = λ m is. exec_fetched (hart_with 0 0) m (Ok 0xf14022f3) refl is;
  nothing_at_pc = λ m is. exec_fetched (hart_with 0 0) m (Err Outside) refl is;
}

-- ---- the machine software interrupt

taken : (mtvec : ℕ) (m : Memory) → msip_bit m 0 ≡ true → exec_of (hart_waiting mtvec) m ≡ same_memory m (interrupted (hart_waiting mtvec))
unfolding exec_of
taken mtvec m is = ap (λ b. cond b (same_memory m (interrupted (hart_waiting mtvec))) (exec_masked_of (hart_waiting mtvec) m)) is

pub interrupt_examples : InterruptExamples
unfolding meaning effect_of exec_masked_of csr_seen csr_read_only
interrupt_examples = record {
  direct = λ m is. taken 0x80000100 m is;
  vectored = λ m is. taken 0x80000101 m is;
  vectors_wrap = λ m is. taken 0xfffffffffffffffd m is;
  exception = λ m none is. exec_fetched (hart_waiting 0x80000101) m (Ok 0x00000073) none is;
  pends = λ m set is. ap (λ r. fetched r (hart_waiting 0x80000100) m) is
      ∙ ap (λ b. same_memory m (sets_rd 5 (bit_value 3 b) (hart_waiting 0x80000100))) set;
}

-- ---- reservations

some_byte : (size : Size) → 0 < count_of size
some_byte B1 = omega arith
some_byte B2 = omega arith
some_byte B4 = omega arith
some_byte B8 = omega arith

touched : (a b count : ℕ) → 0 < count → b / 8 ≡ a / 8 → touches b count (a / 8 * 8) ≡ true
touched a b count some same = and_from _ _ (lt-ltb b (a / 8 * 8 + 8) (omega arith)) (lt-ltb (a / 8 * 8) (b + count) (omega arith))

-- a store into a hart's reserved bytes leaves it no reservation
gone_after_store : (m : Memory) (h a b : ℕ) (size : Size) (v : ℕ) → h < length m.reserved → b / 8 ≡ a / 8
    → store_answer (reserve m h a) b size ≡ Ok tt → slice_get (after_store (reserve m h a) b size v).reserved h ≡ Some None
gone_after_store m h a b size v inside same taken =
    ap (λ (n : Memory). slice_get n.reserved h) (after_store_taken (reserve m h a) b size v taken)
    ∙ slice_get-map (kept b (count_of size)) (reserve m h a).reserved h
    ∙ ap (option_map (kept b (count_of size))) (slice_get-set_same m.reserved h (Some (a / 8 * 8)) inside)
    ∙ ap (λ t. Some (cond t None (Some (a / 8 * 8)))) (touched a b (count_of size) (some_byte size) same)

sc_by : (c : Core) (m : Memory) (a v : ℕ) (r : Result ℕ MemFault) (covered : Bool) → loaded m a B8 ≡ r → covers m c.id a B8 ≡ covered
    → ◌≡◌ {A = Outcome} (record {
      step = sc_step (loaded m a B8) (covers m c.id a B8) 5 a c;
      memory = after_sc (loaded m a B8) (covers m c.id a B8) a B8 v c m;
    })
    (record { step = sc_step r covered 5 a c; memory = after_sc r covered a B8 v c m })
sc_by c m a v r covered is cover =
    ap (λ q. record { step = sc_step q (covers m c.id a B8) 5 a c; memory = after_sc q (covers m c.id a B8) a B8 v c m }) is
    ∙ ap (λ q. record { step = sc_step r q 5 a c; memory = after_sc r q a B8 v c m }) cover

pub sc_fails_after_store : ScFailsAfterStore
unfolding effect_of
sc_fails_after_store c m after b size v u inside same taken is readable =
    let gone : slice_get after.reserved c.id ≡ Some None =
    ap (λ (n : Memory). slice_get n.reserved c.id) is ∙ gone_after_store m c.id (x_of c 6) b size v inside same taken in
    sc_by c after (x_of c 6) (x_of c 7) (Ok u) false readable (ap (λ o. place_covers o (x_of c 6) 8) gone)

aligned_if_loaded : (b : Bool) (o : Option ℕ) (u : ℕ) → (cond b (or_outside o) (Err Misaligned)) ≡ Ok u → b ≡ true
aligned_if_loaded true o u is = refl
aligned_if_loaded false o u is = cc

pub loaded_is_aligned : (m : Memory) (a : ℕ) (size : Size) (u : ℕ) → loaded m a size ≡ Ok u → is_aligned a size ≡ true
unfolding loaded
loaded_is_aligned m a size u is = aligned_if_loaded (is_aligned a size) (value_at m.bytes a (count_of size)) u is

pub sc_succeeds_after_lr : ScSucceedsAfterLr
unfolding effect_of
sc_succeeds_after_lr c m u inside readable =
    let a : ℕ = x_of c 6 in
    let whole : a % 8 ≡ 0 = eqb-true (a % 8) 0 (loaded_is_aligned (reserve m c.id a) a B8 u readable) in
    let held : slice_get (reserve m c.id a).reserved c.id ≡ Some (Some (a / 8 * 8)) = slice_get-set_same m.reserved c.id (Some (a / 8 * 8)) inside in
    sc_by c (reserve m c.id a) a (x_of c 7) (Ok u) true readable
    (ap (λ o. place_covers o a 8) held ∙ and_from _ _ (le-leb (a / 8 * 8) a (omega arith)) (le-leb (a + 8) (a / 8 * 8 + 8) (omega arith)))
