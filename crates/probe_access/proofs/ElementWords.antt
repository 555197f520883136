-- The word of a block's program that loads into x9, the hart that the program leaves, and the addresses of a block's elements.
use Rattle.std.proofs.Common.{◌≡◌, ◌∙◌, ◌≤◌, ◌<◌, ◌+◌, ◌*◌, ◌%◌, ◌^◌, ℕ, List, length, set, true, Result, Ok, Err, refl, ap, arith, get_or-set_same}
use Rattle.std.proofs.Math.Seq.{set-set}
use Rattle.std.proofs.lemmas.List.{length-set}
use Rattle.rv_model.specs.declared.size.Size.{Size}
use Rattle.rv_model.specs.declared.size.Size.TheVariants.{B1, B2, B4, B8}
use Rattle.rv_model.specs.declared.debug_did.DebugDid.TheVariants as ended
use Rattle.rv_model.specs.declared.mem_fault.MemFault.{MemFault}
use Rattle.rv_model.specs.Accesses.{whole}
use Rattle.rv_model.specs.Effects.{after_load, effect_of, same_memory}
use Rattle.rv_model.specs.Memory.{Memory, loaded}
use Rattle.rv_model.specs.ProgramBuffer.{Debugged, debugged, executed, ran_word}
use Rattle.rv_model.specs.Rows.{meaning}
use Rattle.probe_access.specs.RegisterAccess.{element_load_word}
use Rattle.probe_access.proofs.AccessSteps.{WordDid}
use Rattle.probe_access.proofs.AccessSteps.WordDid.{faulted, went}
use Rattle.probe_access.proofs.Aside.{Frozen}
use Rattle.rv_model.specs.Board.{Hart}
use Rattle.rv_model.specs.Core.{x_of}
use Rattle.rv_model.specs.Size.{count_of}
use Rattle.probe_access.specs.Blocks.{element_at}
use Rattle.probe_access.proofs.NextSteps.{advanced}
use Rattle.probe_access.proofs.ScratchLemmas.{scratched, with_core_x, x8_holds}
use Rattle.probe_access.proofs.Turns.{set-swap}
use Rattle.probe_access.proofs.WordAccess.{LoadFaults, address_in, in_x8}

-- ---- the load into x9

abbrev loaded_by : Result ℕ MemFault → Hart → Memory → Debugged
loaded_by (Ok v) y m = debugged ended.Next true (with_core_x y 9 v) m
loaded_by (Err fault) y m = debugged ended.Exception true y m

load_by : (r : Result ℕ MemFault) (y : Hart) (m : Memory) → executed (same_memory m (after_load r whole 9 (address_in y) y.core)) true y m ≡ loaded_by r y m
load_by (Ok v) y m = refl
load_by (Err fault) y m = refl

load_ran : (size : Size) (y : Hart) (m : Memory)
    → ran_word (element_load_word size) y m ≡ executed (same_memory m (after_load (loaded m (address_in y) size) whole 9 (address_in y) y.core)) true y m
unfolding ran_word meaning effect_of
load_ran B1 y m = refl
load_ran B2 y m = refl
load_ran B4 y m = refl
load_ran B8 y m = refl

pub record LoadsElement (size : Size) (a : ℕ) (y : Hart) (m : Memory) (z : Hart) (n : Memory) : Type 0 where
  pub value : ℕ
  pub is : loaded m a size ≡ Ok value
  pub hart : z ≡ with_core_x y 9 value
  pub memory : n ≡ m

load_did_by : (size : Size) (a : ℕ) (y : Hart) (m : Memory) (r : Result ℕ MemFault) → Frozen y → address_in y ≡ a → loaded m a size ≡ r
    → WordDid (LoadsElement size a y) (LoadFaults size a) (element_load_word size) y m
load_did_by size a y m (Ok v) f at is =
    went (with_core_x y 9 v) m (record { value = v; is = is; hart = refl; memory = refl })
    (record { why = f.why; halted = f.halted; not_asked = f.not_asked })
    (load_ran size y m ∙ load_by (loaded m (address_in y) size) y m ∙ ap (λ b. loaded_by (loaded m b size) y m) at ∙ ap (λ r. loaded_by r y m) is)
load_did_by size a y m (Err why) f at is =
    faulted (record { why = why; is = is }) (load_ran size y m ∙ load_by (loaded m (address_in y) size) y m ∙ ap (λ b. loaded_by (loaded m b size) y m) at
    ∙ ap (λ r. loaded_by r y m) is)

pub element_load_did : (size : Size) (a : ℕ) (y : Hart) (m : Memory) → Frozen y → address_in y ≡ a
    → WordDid (LoadsElement size a y) (LoadFaults size a) (element_load_word size) y m
element_load_did size a y m f at = load_did_by size a y m (loaded m a size) f at refl

-- ---- x8 and x9 of a hart where both are changed

abbrev hart_with : Hart → List ℕ → Hart
hart_with x xs = record {
  core = record {
    id = x.core.id;
    x = xs;
    pc = x.core.pc;
    mstatus = x.core.mstatus;
    mie = x.core.mie;
    mtvec = x.core.mtvec;
    mscratch = x.core.mscratch;
    mepc = x.core.mepc;
    mcause = x.core.mcause;
    mtval = x.core.mtval;
  };
  debug = x.debug;
}

pub scratched_swap : (p q : ℕ) (x : Hart) → scratched p q x ≡ with_core_x (with_core_x x 9 q) 8 p
scratched_swap p q x = ap (hart_with x) (set-swap x.core.x 8 9 p q (λ e. omega arith))

pub scratched_x8 : (p q : ℕ) (x : Hart) → length x.core.x ≡ 32 → x_of (scratched p q x).core 8 ≡ p
scratched_x8 p q x all =
    ap (λ (y : Hart). x_of y.core 8) (scratched_swap p q x)
    ∙ x8_holds (with_core_x x 9 q) p (length-set x.core.x 9 q ∙ all)

pub scratched_x9 : (p q : ℕ) (x : Hart) → length x.core.x ≡ 32 → x_of (scratched p q x).core 9 ≡ q
scratched_x9 p q x all = let n : length (set x.core.x 8 p) ≡ length x.core.x = length-set x.core.x 8 p in
    let lt : 9 < length (set x.core.x 8 p) = omega arith in rw get_or-set_same refl

pub x9_again : (p q v : ℕ) (x : Hart) → with_core_x (scratched p q x) 9 v ≡ scratched p v x
x9_again p q v x = ap (hart_with x) (set-set (set x.core.x 8 p) 9 q v)

pub x8_again : (p q v : ℕ) (x : Hart) → with_core_x (scratched p q x) 8 v ≡ scratched v q x
x8_again p q v x =
    ap (hart_with x) (set-swap (set x.core.x 8 p) 9 8 q v (λ e. omega arith) ∙ ap (λ (xs : List ℕ). set xs 9 q) (set-set x.core.x 8 p v))

pub scratched_advanced : (size : Size) (p q : ℕ) (x : Hart) → length x.core.x ≡ 32
    → advanced size (scratched p q x) ≡ scratched ((p + count_of size) % 2 ^ 64) q x
scratched_advanced size p q x all =
    ap (λ n. with_core_x (scratched p q x) 8 ((n + count_of size) % 2 ^ 64)) (scratched_x8 p q x all) ∙ x8_again p q ((p + count_of size) % 2 ^ 64) x

pub scratched_address : (p q : ℕ) (x : Hart) → length x.core.x ≡ 32 → p < 2 ^ 64 → address_in (scratched p q x) ≡ p
scratched_address p q x all small = in_x8 (scratched p q x) p (scratched_x8 p q x all) small

-- ---- the addresses of elements

pub element_small : (size : Size) (address count i : ℕ) → address + count * count_of size ≤ 2 ^ 64 → i < count → element_at size address i < 2 ^ 64
element_small B1 address count i ends below = omega arith
element_small B2 address count i ends below = omega arith
element_small B4 address count i ends below = omega arith
element_small B8 address count i ends below = omega arith

pub element_next : (size : Size) (address count i : ℕ) → address + count * count_of size ≤ 2 ^ 64 → i + 1 < count
    → (element_at size address i + count_of size) % 2 ^ 64 ≡ element_at size address (i + 1)
element_next B1 address count i ends below = omega arith
element_next B2 address count i ends below = omega arith
element_next B4 address count i ends below = omega arith
element_next B8 address count i ends below = omega arith

pub element_first : (size : Size) (address : ℕ) → element_at size address 0 ≡ address
element_first size address = omega arith
