-- Execution on a machine and on a board: what it keeps, and that forgetting the debug parts goes before it or after it.
use Rattle.std.proofs.Common.{◌≡◌, ◌==◌, ◌&&◌, ℕ, Bool, true, false, if◌then◌else◌, List, [], ◌∷◌, ◌++◌, map, set, zero, suc, Option, Some, None}
use Rattle.std.proofs.Common.{Result, Ok, Err, slice_get, option_map, inl, refl, ap}
use Rattle.std.proofs.lemmas.Bool.{false≢true}
use Rattle.std.proofs.lemmas.List.{length-set}
use Rattle.std.proofs.lemmas.Option.{slice_get-map}
use Rattle.rv_model.specs.declared.did.Did.TheVariants.{Interrupted, Trapped}
use Rattle.rv_model.specs.declared.insn.Insn.{Insn}
use Rattle.rv_model.specs.declared.mem_fault.MemFault.{MemFault}
use Rattle.rv_model.specs.Rows.{meaning}
use Rattle.rv_model.specs.Memory.{Memory, fetch_of, msip_bit}
use Rattle.rv_model.specs.Core.{Core, mie_of, msie_of}
use Rattle.rv_model.specs.Effects.{Outcome, effect_of, same_memory}
use Rattle.rv_model.specs.Execute.{decoded, fetched, exec_masked_of, exec_of, interrupted, takes_interrupt}
use Rattle.rv_model.specs.Board.{Hart, Machine, cores, execute_by}
use Rattle.rv_model.specs.Undebugged.{Entry, entered, undebugged}
use Rattle.rv_model.specs.Laws.{InterruptsAreTaken, IsInterrupt, Keeps, ExecutionKeeps, LeavesOthers, ExecutionLeavesOthers}
use Rattle.rv_model.specs.Laws.{MaskedExecutionKeeps}
use Rattle.rv_model.proofs.EffectsKeep.{effect_keeps, effect_uninterrupted}
use Rattle.rv_model.proofs.KeptLemmas.{interrupt_keeps, quiet, traps_keeps}
use Rattle.rv_model.proofs.MapLemmas.{slice_get-set_other}

-- ---- one core

decoded_keeps : (o : Option Insn) (c : Core) (m : Memory) → Keeps c m (decoded o c m)
unfolding effect_of
decoded_keeps (Some insn) c m = effect_keeps insn c m
decoded_keeps None c m = quiet m (traps_keeps 2 0 c)

fetched_keeps : (r : Result ℕ MemFault) (c : Core) (m : Memory) → Keeps c m (fetched r c m)
fetched_keeps (Ok w) c m = decoded_keeps (meaning w) c m
fetched_keeps (Err fault) c m = quiet m (traps_keeps 1 c.pc c)

decoded_uninterrupted : (o : Option Insn) (c : Core) (m : Memory) → (decoded o c m).step.did ≡ Interrupted → ⊥
decoded_uninterrupted (Some insn) c m = effect_uninterrupted insn c m
decoded_uninterrupted None c m = (traps_keeps 2 0 c).no_interrupt

fetched_uninterrupted : (r : Result ℕ MemFault) (c : Core) (m : Memory) → (fetched r c m).step.did ≡ Interrupted → ⊥
fetched_uninterrupted (Ok w) c m = decoded_uninterrupted (meaning w) c m
fetched_uninterrupted (Err fault) c m = (traps_keeps 1 c.pc c).no_interrupt

pub masked_execution_keeps : MaskedExecutionKeeps
unfolding exec_masked_of
masked_execution_keeps c m = record { keeps = fetched_keeps (fetch_of m c.pc) c m; none = fetched_uninterrupted (fetch_of m c.pc) c m }

-- ---- with interrupts

interrupted_is_no_trap : (cause : ℕ) → Interrupted ≡ Trapped cause → ⊥
interrupted_is_no_trap cause e = cc

interrupted_keeps : (c : Core) (m : Memory) → Keeps c m (same_memory m (interrupted c))
interrupted_keeps c m = record {
  core = interrupt_keeps c;
  others = λ j other. inl refl;
  places = refl;
  trapped = λ cause e. absurd (interrupted_is_no_trap cause e);
}

exec_keeps : (taken : Bool) (c : Core) (m : Memory) → Keeps c m (if taken then same_memory m (interrupted c) else exec_masked_of c m)
exec_keeps true c m = interrupted_keeps c m
exec_keeps false c m = (masked_execution_keeps c m).keeps

pub execution_keeps : ExecutionKeeps
unfolding exec_of
execution_keeps c m = exec_keeps (takes_interrupt c m) c m

abbrev either_outcome : Bool → Core → Memory → Outcome
either_outcome taken c m = if taken then same_memory m (interrupted c) else exec_masked_of c m

is_interrupt : (b : Bool) (c : Core) (m : Memory) → b ≡ true → IsInterrupt c m (either_outcome b c m)
is_interrupt true c m e = record { core = refl; memory = refl }
is_interrupt false c m e = absurd (false≢true e)

is_masked : (b : Bool) (c : Core) (m : Memory) → b ≡ false → either_outcome b c m ≡ exec_masked_of c m
is_masked true c m e = absurd (cc)
is_masked false c m e = refl

pub interrupts_are_taken : InterruptsAreTaken
unfolding exec_of
interrupts_are_taken c m = record {
  taken = λ e. is_interrupt (takes_interrupt c m) c m e;
  other = λ e. is_masked (takes_interrupt c m) c m e;
}

-- the interrupt isn't taken where interrupts are disabled
disabled_by : (b rest : Bool) → b ≡ false → (b && rest) ≡ false
disabled_by true rest e = absurd (cc)
disabled_by false rest e = refl

pub exec_disabled : (c : Core) (m : Memory) → (mie_of c == 1) ≡ false → exec_of c m ≡ exec_masked_of c m
exec_disabled c m e = (interrupts_are_taken c m).other (disabled_by (mie_of c == 1) (msie_of c == 1 && msip_bit m c.id) e)

-- ---- one hart of several

execute_by_leaves : (o : Option Core) (h : ℕ) (b : Machine) → LeavesOthers h b (execute_by o h b)
execute_by_leaves (Some c) h b = record {
  count = length-set b.cores h (exec_of c b.memory).step.core;
  others = λ j other. slice_get-set_other b.cores h j (exec_of c b.memory).step.core other;
}
execute_by_leaves None h b = record { count = refl; others = λ j other. refl }

pub execution_leaves_others : ExecutionLeavesOthers
execution_leaves_others h b = execute_by_leaves (slice_get b.cores h) h b

-- ---- debug parts

pub map-set : {A B : Type 0} (f : A → B) (xs : List A) (i : ℕ) (v : A) → map f (set xs i v) ≡ set (map f xs) i (f v)
map-set f [] i v = refl
map-set f (x ∷ xs) zero v = refl
map-set f (x ∷ xs) (suc i) v = ap (λ ys. f x ∷ ys) (map-set f xs i v)

-- the core of a board's hart is that hart of its machine
pub slice_get-cores : (hs : List Hart) (h : ℕ) → slice_get (cores hs) h ≡ option_map (λ (x : Hart). x.core) (slice_get hs h)
slice_get-cores hs h = slice_get-map (λ (x : Hart). x.core) hs h

-- a hart whose core alone is written
pub cores-set : (hs : List Hart) (h : ℕ) (hart : Hart) → cores (set hs h hart) ≡ set (cores hs) h hart.core
cores-set hs h hart = map-set (λ (x : Hart). x.core) hs h hart

-- ---- runs

pub undebugged-append : (b : Machine) (xs ys : List Entry) → undebugged b (xs ++ ys) ≡ undebugged (undebugged b xs) ys
undebugged-append b [] ys = refl
undebugged-append b (e ∷ xs) ys = undebugged-append (entered e b) xs ys
