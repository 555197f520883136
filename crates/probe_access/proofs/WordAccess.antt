-- What the words of the program buffer do that load into x8 and store from x9.
use Rattle.std.proofs.Common.{◌≡◌, ◌∙◌, ℕ, ◌<◌, ◌^◌, ◌+◌, ◌%◌, true, Result, Ok, Err, refl, ap, arith}
use Rattle.std.specs.Prelude.{⊤}
use Rattle.rv_model.specs.declared.debug_did.DebugDid.TheVariants as ended
use Rattle.rv_model.specs.declared.mem_fault.MemFault.{MemFault}
use Rattle.rv_model.specs.declared.size.Size.{Size}
use Rattle.rv_model.specs.declared.size.Size.TheVariants.{B1, B2, B4, B8}
use Rattle.rv_model.specs.Board.{Hart}
use Rattle.rv_model.specs.Core.{offset_by, with_x, x_of}
use Rattle.rv_model.specs.Accesses.{whole}
use Rattle.rv_model.specs.Effects.{after_load, effect_of, same_memory, stored_step}
use Rattle.rv_model.specs.Memory.{Memory, after_store, loaded, store_answer}
use Rattle.rv_model.specs.ProgramBuffer.{Debugged, debugged, executed, ran_word}
use Rattle.rv_model.specs.Rows.{meaning}
use Rattle.probe_access.specs.RegisterAccess.{load_word, store_word}
use Rattle.probe_access.proofs.AccessSteps.{WordDid}
use Rattle.probe_access.proofs.AccessSteps.WordDid.{faulted, went}
use Rattle.probe_access.proofs.Aside.{Frozen}

abbrev pub with_x8 : ℕ → Hart → Hart
with_x8 v y = record { core = with_x y.core 8 v; debug = y.debug }

-- the address that the words take
abbrev pub address_in : Hart → ℕ
address_in y = offset_by (x_of y.core 8) 0

abbrev pub loaded_by : Result ℕ MemFault → Hart → Memory → Debugged
loaded_by (Ok v) y m = debugged ended.Next true (with_x8 v y) m
loaded_by (Err fault) y m = debugged ended.Exception true y m

load_by : (r : Result ℕ MemFault) (y : Hart) (m : Memory) → executed (same_memory m (after_load r whole 8 (address_in y) y.core)) true y m ≡ loaded_by r y m
load_by (Ok v) y m = refl
load_by (Err fault) y m = refl

load_ran : (size : Size) (y : Hart) (m : Memory)
    → ran_word (load_word size) y m ≡ executed (same_memory m (after_load (loaded m (address_in y) size) whole 8 (address_in y) y.core)) true y m
unfolding ran_word meaning effect_of
load_ran B1 y m = refl
load_ran B2 y m = refl
load_ran B4 y m = refl
load_ran B8 y m = refl

abbrev pub stored_by : Result ⊤ MemFault → Memory → Hart → Memory → Debugged
stored_by (Ok _) n y m = debugged ended.Next true y n
stored_by (Err fault) n y m = debugged ended.Exception true y m

store_by : (r : Result ⊤ MemFault) (n : Memory) (y : Hart) (m : Memory)
    → executed (record { step = stored_step r (address_in y) y.core; memory = n }) true y m ≡ stored_by r n y m
store_by (Ok _) n y m = refl
store_by (Err fault) n y m = refl

store_ran : (size : Size) (y : Hart) (m : Memory)
    → ran_word (store_word size) y m ≡ executed
    (record { step = stored_step (store_answer m (address_in y) size) (address_in y) y.core; memory = after_store m (address_in y) size (x_of y.core 9) })
    true y m
unfolding ran_word meaning effect_of
store_ran B1 y m = refl
store_ran B2 y m = refl
store_ran B4 y m = refl
store_ran B8 y m = refl

-- ---- for an address that is in x8

pub record Loads (size : Size) (a : ℕ) (y : Hart) (m : Memory) (z : Hart) (n : Memory) : Type 0 where
  pub value : ℕ
  pub is : loaded m a size ≡ Ok value
  pub hart : z ≡ with_x8 value y
  pub memory : n ≡ m

pub record LoadFaults (size : Size) (a : ℕ) (m : Memory) : Type 0 where
  pub why : MemFault
  pub is : loaded m a size ≡ Err why

pub record Stores (size : Size) (a v : ℕ) (y : Hart) (m : Memory) (z : Hart) (n : Memory) : Type 0 where
  pub done : ⊤
  pub is : store_answer m a size ≡ Ok done
  pub hart : z ≡ y
  pub memory : n ≡ after_store m a size v

pub record StoreFaults (size : Size) (a : ℕ) (m : Memory) : Type 0 where
  pub why : MemFault
  pub is : store_answer m a size ≡ Err why

pub in_x8 : (y : Hart) (a : ℕ) → x_of y.core 8 ≡ a → a < 2 ^ 64 → address_in y ≡ a
in_x8 y a is small = ap (λ n. (n + 0) % 2 ^ 64) is ∙ fits a small
  where
    fits : (n : ℕ) → n < 2 ^ 64 → (n + 0) % 2 ^ 64 ≡ n
    fits n lt = omega arith

load_did_by : (size : Size) (a : ℕ) (y : Hart) (m : Memory) (r : Result ℕ MemFault) → Frozen y → address_in y ≡ a → loaded m a size ≡ r
    → WordDid (Loads size a y) (LoadFaults size a) (load_word size) y m
load_did_by size a y m (Ok v) f at is =
    went (with_x8 v y) m (record { value = v; is = is; hart = refl; memory = refl }) (record { why = f.why; halted = f.halted; not_asked = f.not_asked })
    (load_ran size y m ∙ load_by (loaded m (address_in y) size) y m ∙ ap (λ b. loaded_by (loaded m b size) y m) at ∙ ap (λ r. loaded_by r y m) is)
load_did_by size a y m (Err why) f at is =
    faulted (record { why = why; is = is }) (load_ran size y m ∙ load_by (loaded m (address_in y) size) y m ∙ ap (λ b. loaded_by (loaded m b size) y m) at
    ∙ ap (λ r. loaded_by r y m) is)

pub load_did : (size : Size) (a : ℕ) (y : Hart) (m : Memory) → Frozen y → address_in y ≡ a → WordDid (Loads size a y) (LoadFaults size a) (load_word size) y m
load_did size a y m f at = load_did_by size a y m (loaded m a size) f at refl

store_did_by : (size : Size) (a v : ℕ) (y : Hart) (m : Memory) (r : Result ⊤ MemFault) → Frozen y → address_in y ≡ a → x_of y.core 9 ≡ v
    → store_answer m a size ≡ r → WordDid (Stores size a v y) (StoreFaults size a) (store_word size) y m
store_did_by size a v y m (Ok done) f at holds is =
    went y (after_store m a size v) (record { done = done; is = is; hart = refl; memory = refl }) f
    (store_ran size y m ∙ store_by (store_answer m (address_in y) size) (after_store m (address_in y) size (x_of y.core 9)) y m
    ∙ ap (λ b. stored_by (store_answer m b size) (after_store m b size (x_of y.core 9)) y m) at
    ∙ ap (λ u. stored_by (store_answer m a size) (after_store m a size u) y m) holds
    ∙ ap (λ r. stored_by r (after_store m a size v) y m) is)
store_did_by size a v y m (Err why) f at holds is =
    faulted (record { why = why; is = is })
    (store_ran size y m ∙ store_by (store_answer m (address_in y) size) (after_store m (address_in y) size (x_of y.core 9)) y m
    ∙ ap (λ b. stored_by (store_answer m b size) (after_store m b size (x_of y.core 9)) y m) at
    ∙ ap (λ u. stored_by (store_answer m a size) (after_store m a size u) y m) holds
    ∙ ap (λ r. stored_by r (after_store m a size v) y m) is)

pub store_did : (size : Size) (a v : ℕ) (y : Hart) (m : Memory) → Frozen y → address_in y ≡ a → x_of y.core 9 ≡ v
    → WordDid (Stores size a v y) (StoreFaults size a) (store_word size) y m
store_did size a v y m f at holds = store_did_by size a v y m (store_answer m a size) f at holds refl
