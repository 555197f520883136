-- Memory whose bytes are bytes: what a load of it gives, and what a store leaves.
use Rattle.std.proofs.Common.{
  ◌≡◌,
  ◌∙◌,
  ◌+◌,
  ◌/◌,
  ◌%◌,
  ◌^◌,
  ◌<◌,
  ◌&&◌,
  ◌==◌,
  ℕ,
  zero,
  suc,
  Bool,
  true,
  false,
  cond,
  Option,
  Some,
  None,
  Result,
  Ok,
  Err,
  arith,
  refl,
  sym,
  if◌then◌else◌,
}
use Rattle.std.specs.Cmp.{nat_cmp_total}
use Rattle.std.specs.FinMap.{get, get-insert, insert}
use Rattle.std.specs.Ordering.{eq_by_cmp, nat_cmp}
use Rattle.std.proofs.lemmas.Option.{none-some, same_Some}
use Rattle.rv_model.specs.declared.mem_fault.MemFault.{MemFault}
use Rattle.rv_model.specs.declared.mem_fault.MemFault.TheVariants.{Misaligned}
use Rattle.rv_model.specs.declared.size.Size.{Size}
use Rattle.rv_model.specs.Effects.{after_amo, after_reserve, after_sc}
use Rattle.rv_model.specs.declared.alu_op.AluOp.{AluOp}
use Rattle.rv_model.specs.Core.{Core}
use Rattle.rv_model.specs.Memory.{Bytes, Memory, after_store, is_aligned, is_inside, is_msip, kept_byte, loaded, msip_size, or_outside}
use Rattle.rv_model.specs.Memory.{value_at, with_byte, with_value}
use Rattle.rv_model.specs.Size.{count_of}
use Rattle.rv_model.specs.Widths.{MemoryReady}
use Rattle.rv_model.proofs.MapLemmas.{small_with}

abbrev pub BytesReady : Bytes → Type 0
BytesReady m = (address byte : ℕ) → get m address ≡ Some byte → byte < 256

-- ---- loads

value_by : (o : Option ℕ) (rest : Option ℕ) (n v : ℕ) → ((b : ℕ) → o ≡ Some b → b < 256) → ((u : ℕ) → rest ≡ Some u → u < 256 ^ n) → with_byte o rest ≡ Some v
    → v < 256 ^ suc n
value_by None rest n v small later is = absurd (none-some v is)
value_by (Some b) rest n v small later is = small_with b rest n v (small b refl) is later

value_at_small : (m : Bytes) → BytesReady m → (a n v : ℕ) → value_at m a n ≡ Some v → v < 256 ^ n
value_at_small m ready a zero v is = let e : 0 ≡ v = same_Some 0 v is in omega arith
value_at_small m ready a (suc n) v is = value_by (get m a) (value_at m (a + 1) n) n v (λ b at. ready a b at) (λ u at. value_at_small m ready (a + 1) n u at) is

outside_ok : (o : Option ℕ) (v : ℕ) → or_outside o ≡ Ok v → o ≡ Some v
outside_ok None v is = cc
outside_ok (Some u) v is = cc

aligned_ok : (b : Bool) (o : Option ℕ) (v : ℕ) → (if b then or_outside o else Err Misaligned) ≡ Ok v → o ≡ Some v
aligned_ok true o v is = outside_ok o v is
aligned_ok false o v is = cc

pub loaded_small : (m : Memory) (a : ℕ) (size : Size) (v : ℕ) → MemoryReady m → loaded m a size ≡ Ok v → v < 256 ^ count_of size
unfolding loaded
loaded_small m a size v ready is = value_at_small m.bytes ready a (count_of size) v (aligned_ok (is_aligned a size) (value_at m.bytes a (count_of size)) v is)

-- ---- stores

byte_or : (same : Bool) (b : ℕ) (o : Option ℕ) (v : ℕ) → b < 256 → ((u : ℕ) → o ≡ Some u → u < 256) → cond same (Some b) o ≡ Some v → v < 256
byte_or true b o v small old is = let e : b ≡ v = same_Some b v is in omega arith
byte_or false b o v small old is = old v is

insert_ready : (m : Bytes) (k b : ℕ) → b < 256 → BytesReady m → BytesReady (insert m k b)
insert_ready m k b small ready q v is = byte_or (eq_by_cmp nat_cmp q k) b (get m q) v small (λ u at. ready q u at) (sym (get-insert nat_cmp_total m k b q) ∙ is)

-- a write keeps no more of a byte than the byte
kept_small : (a v : ℕ) → v < 256 → kept_byte a v < 256
unfolding kept_byte
kept_small a v h = elim (is_msip a) as (λ b. (cond b (cond (a % msip_size == 0) (v % 2) 0) v) < 256) [
  | true ↦ elim (a % msip_size == 0) as (λ b. (cond b (v % 2) 0) < 256) [
    | true ↦ omega arith
    | false ↦ omega arith
  ]
  | false ↦ h
]

with_value_ready : (m : Bytes) (a n v : ℕ) → BytesReady m → BytesReady (with_value m a n v)
with_value_ready m a zero v ready = ready
with_value_ready m a (suc n) v ready = with_value_ready (insert m a (kept_byte a (v % 256))) (a + 1) n (v / 256)
    (insert_ready m a (kept_byte a (v % 256)) (kept_small a (v % 256) (omega arith)) ready)

pub if_ready : (b : Bool) (m n : Memory) → MemoryReady m → MemoryReady n → MemoryReady (if b then m else n)
if_ready true m n p q = p
if_ready false m n p q = q

pub stored_ready : (m : Memory) (a : ℕ) (size : Size) (v : ℕ) → MemoryReady m → MemoryReady (after_store m a size v)
unfolding after_store
stored_ready m a size v ready = if_ready (is_aligned a size && is_inside m a size) _ m (with_value_ready m.bytes a (count_of size) v ready) ready

pub reserve_ready : (r : Result ℕ MemFault) (a : ℕ) (c : Core) (m : Memory) → MemoryReady m → MemoryReady (after_reserve r a c m)
reserve_ready (Ok v) a c m ready = ready
reserve_ready (Err fault) a c m ready = ready

pub sc_ready : (r : Result ℕ MemFault) (covered : Bool) (a : ℕ) (size : Size) (v : ℕ) (c : Core) (m : Memory) → MemoryReady m
    → MemoryReady (after_sc r covered a size v c m)
sc_ready (Ok u) true a size v c m ready = stored_ready m a size v ready
sc_ready (Ok u) false a size v c m ready = ready
sc_ready (Err fault) covered a size v c m ready = ready

pub amo_ready : (r : Result ℕ MemFault) (extend : ℕ → ℕ) (o : AluOp) (a : ℕ) (size : Size) (b : ℕ) (m : Memory) → MemoryReady m
    → MemoryReady (after_amo r extend o a size b m)
amo_ready (Ok v) extend o a size b m ready = stored_ready m a size _ ready
amo_ready (Err fault) extend o a size b m ready = ready
