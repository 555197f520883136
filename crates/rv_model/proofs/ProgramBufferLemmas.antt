-- What a word of the program buffer keeps, by the sorts of instructions.
use Rattle.std.proofs.Common.{◌≡◌, ℕ, Bool, true, false, cond, ◌&&◌, length, Option, Some, None, refl, ap}
use Rattle.rv_model.specs.declared.debug_did.DebugDid.{DebugDid}
use Rattle.rv_model.specs.declared.debug_did.DebugDid.TheVariants as ended
use Rattle.rv_model.specs.declared.did.Did.{Did}
use Rattle.rv_model.specs.declared.did.Did.TheVariants.{Retired, Trapped, Interrupted}
use Rattle.rv_model.specs.declared.insn.Insn.{Insn}
use Rattle.rv_model.specs.declared.insn.Insn.TheVariants.{Store, LoadReserved, StoreConditional, Amo, Csr, CsrImmediate}
use Rattle.rv_model.specs.Alu.{alu_of}
use Rattle.rv_model.specs.Board.{Hart, IsHart}
use Rattle.rv_model.specs.Core.{Core, with_x}
use Rattle.rv_model.specs.Dcsr.{dcsr_word, dcsr_of_word}
use Rattle.rv_model.specs.DebugRegisters.{debug_seen, debug_value, debug_refuses, debug_written}
use Rattle.rv_model.specs.DebugLaws.{
  ProgramBufferExamples,
  WriteKeeps,
  ChangesNothing,
  ExceptionsChangeNothing,
  MemoryNeedsAccess,
  WordsKeep,
  is_csr_insn,
  KeepsDebug,
  DebugNeedsCsr,
}
use Rattle.rv_model.specs.Effects.{Outcome, effect, effect_of}
use Rattle.rv_model.specs.Laws.{KeepsCore}
use Rattle.rv_model.specs.Memory.{Memory, loaded, store_answer, after_store}
use Rattle.rv_model.specs.ProgramBuffer.{
  Debugged,
  CsrSwap,
  Sort,
  Ends,
  Refused,
  Swaps,
  Accesses,
  Plain,
  sort_of,
  swapped,
  executed_by,
  ran_sort,
  ran_meant,
  ran_word,
}
use Rattle.rv_model.specs.Registers.{csr_value, csr_written, csr_read_only}
use Rattle.rv_model.specs.Rows.{meaning}
use Rattle.rv_model.specs.TriggerWords.{trigger_csr_value, trigger_csr_written}
use Rattle.rv_model.proofs.EffectsKeep.{effect_keeps}
use Rattle.rv_model.proofs.KeptLemmas.{kept_twice, same_core, with_x_keeps}
use Rattle.rv_model.proofs.DebugRegisterLemmas.{core_alone, writes_keep}

-- ---- worked examples

pub program_buffer_examples : ProgramBufferExamples
unfolding ran_word meaning alu_of effect_of loaded store_answer after_store debug_seen debug_value debug_refuses debug_written csr_value
    csr_read_only csr_written dcsr_word dcsr_of_word trigger_csr_value trigger_csr_written
program_buffer_examples = record {
  ebreak = λ h m. refl;
  all_zeros = λ h m. refl;
  jal = λ h m. refl;
  auipc = λ h m. refl;
  branch = λ h m. refl;
  lr = λ h m. refl;
  ecall = λ h m. refl;
  mret = λ h m. refl;
  fence = λ h m. refl;
  fence_i = λ h m. refl;
  wfi = λ h m. refl;
  load_means = refl;
  adds = λ m. refl;
  reads_dcsr = λ m. refl;
  sets_step = λ m. refl;
  sets_dpc = λ m. refl;
  writes_mhartid = λ h m. refl;
  reads_dscratch0 = λ h m. refl;
  faulting_load = λ m. refl;
  faulting_store = λ m. refl;
}

-- ---- exceptions

nothing : (h : Hart) (m : Memory) (did : DebugDid) (accessed : Bool) → ChangesNothing h m (record { hart = h; memory = m; did = did; accessed = accessed })
nothing h m did accessed = record { hart = refl; memory = refl }

abbrev Refuses : Hart → Memory → Debugged → Type 0
Refuses h m after = (after.did ≡ ended.Next → ⊥) → ChangesNothing h m after

swapped_if : (refuses : Bool) (h : Hart) (m : Memory) (a b : Debugged) → Refuses h m a → Refuses h m b → Refuses h m (cond refuses a b)
swapped_if true h m a b p q = p
swapped_if false h m a b p q = q

swapped_refuses : (o : Option ℕ) (s : CsrSwap) (h : Hart) (m : Memory) → Refuses h m (swapped o s h m)
swapped_refuses None s h m = λ differs. nothing h m _ _
swapped_refuses (Some old) s h m = swapped_if (s.writes && debug_refuses s.number) h m _ _ (λ differs. nothing h m _ _) (λ differs. absurd (differs refl))

executed_refuses : (d : Did) (o : Outcome) (accessed : Bool) (h : Hart) (m : Memory) → Refuses h m (executed_by d o accessed h m)
executed_refuses Retired o accessed h m = λ differs. absurd (differs refl)
executed_refuses (Trapped cause) o accessed h m = λ differs. nothing h m _ _
executed_refuses Interrupted o accessed h m = λ differs. nothing h m _ _

sort_refuses : (s : Sort) (insn : Insn) (h : Hart) (m : Memory) → Refuses h m (ran_sort s insn h m)
sort_refuses Ends insn h m = λ differs. nothing h m _ _
sort_refuses Refused insn h m = λ differs. nothing h m _ _
sort_refuses (Swaps s) insn h m = swapped_refuses (debug_seen h m s.number) s h m
sort_refuses Accesses insn h m = executed_refuses (effect_of insn h.core m).step.did _ true h m
sort_refuses Plain insn h m = executed_refuses (effect_of insn h.core m).step.did _ false h m

meant_refuses : (o : Option Insn) (h : Hart) (m : Memory) → Refuses h m (ran_meant o h m)
meant_refuses None h m = λ differs. nothing h m _ _
meant_refuses (Some insn) h m = sort_refuses (sort_of insn h.core) insn h m

pub exceptions_change_nothing : ExceptionsChangeNothing
unfolding ran_word
exceptions_change_nothing w h m differs = meant_refuses (meaning w) h m differs

-- ---- what every word keeps

same_hart : (h : Hart) → WriteKeeps h h
same_hart h = core_alone h h.core (same_core h.core)

written_if : (writes : Bool) (h : Hart) (number v : ℕ) → WriteKeeps h (cond writes (debug_written h number v) h)
written_if true h number v = writes_keep h number v
written_if false h number v = same_hart h

whole_with_x : (n : ℕ) (h : Hart) (rd v : ℕ) → IsHart n h → IsHart n (record h { core = with_x h.core rd v })
whole_with_x n h rd v is = (core_alone h (with_x h.core rd v) (with_x_keeps h.core rd v)).is_hart n is

with_rd : (h after : Hart) (rd v : ℕ) → WriteKeeps h after → WriteKeeps h (record after { core = with_x after.core rd v })
with_rd h after rd v k = record {
  requests = k.requests;
  core = kept_twice h.core after.core _ k.core (with_x_keeps after.core rd v);
  is_hart = λ n is. whole_with_x n after rd v (k.is_hart n is);
}

either_hart : (refuses : Bool) (h : Hart) (a b : Debugged) → WriteKeeps h a.hart → WriteKeeps h b.hart → WriteKeeps h (cond refuses a b).hart
either_hart true h a b p q = p
either_hart false h a b p q = q

swapped_keeps : (o : Option ℕ) (s : CsrSwap) (h : Hart) (m : Memory) → WriteKeeps h (swapped o s h m).hart
swapped_keeps None s h m = same_hart h
swapped_keeps (Some old) s h m =
    either_hart (s.writes && debug_refuses s.number) h _ _ (same_hart h) (with_rd h _ s.rd old (written_if s.writes h s.number (s.change old s.operand)))

-- the pc of a core put back behind an instruction
pc_back : (c after : Core) → KeepsCore c after → KeepsCore c (record after { pc = c.pc })
pc_back c after k = record {
  same_id = k.same_id;
  x0 = k.x0;
  is_core = λ core. record {
    registers = (k.is_core core).registers;
    pc_aligned = core.pc_aligned;
    mode_known = (k.is_core core).mode_known;
    mepc_aligned = (k.is_core core).mepc_aligned;
    mpp_fixed = (k.is_core core).mpp_fixed;
  };
}

executed_keeps : (d : Did) (o : Outcome) (accessed : Bool) (h : Hart) (m : Memory) → KeepsCore h.core o.step.core
    → WriteKeeps h (executed_by d o accessed h m).hart
executed_keeps Retired o accessed h m k = core_alone h _ (pc_back h.core o.step.core k)
executed_keeps (Trapped cause) o accessed h m k = same_hart h
executed_keeps Interrupted o accessed h m k = same_hart h

core_kept : (insn : Insn) (c : Core) (m : Memory) → KeepsCore c (effect_of insn c m).step.core
unfolding effect_of
core_kept insn c m = (effect_keeps insn c m).core

sort_keeps : (s : Sort) (insn : Insn) (h : Hart) (m : Memory) → WriteKeeps h (ran_sort s insn h m).hart
sort_keeps Ends insn h m = same_hart h
sort_keeps Refused insn h m = same_hart h
sort_keeps (Swaps s) insn h m = swapped_keeps (debug_seen h m s.number) s h m
sort_keeps Accesses insn h m = executed_keeps (effect_of insn h.core m).step.did (effect_of insn h.core m) true h m (core_kept insn h.core m)
sort_keeps Plain insn h m = executed_keeps (effect_of insn h.core m).step.did (effect_of insn h.core m) false h m (core_kept insn h.core m)

meant_keeps : (o : Option Insn) (h : Hart) (m : Memory) → WriteKeeps h (ran_meant o h m).hart
meant_keeps None h m = same_hart h
meant_keeps (Some insn) h m = sort_keeps (sort_of insn h.core) insn h m

executed_places : (d : Did) (o : Outcome) (accessed : Bool) (h : Hart) (m : Memory) → length o.memory.reserved ≡ length m.reserved
    → length (executed_by d o accessed h m).memory.reserved ≡ length m.reserved
executed_places Retired o accessed h m same = same
executed_places (Trapped cause) o accessed h m same = refl
executed_places Interrupted o accessed h m same = refl

places_kept : (insn : Insn) (c : Core) (m : Memory) → length (effect_of insn c m).memory.reserved ≡ length m.reserved
unfolding effect_of
places_kept insn c m = (effect_keeps insn c m).places

either_places : (refuses : Bool) (m : Memory) (a b : Debugged) → a.memory ≡ m → b.memory ≡ m → length (cond refuses a b).memory.reserved ≡ length m.reserved
either_places true m a b p q = ap (λ (n : Memory). length n.reserved) p
either_places false m a b p q = ap (λ (n : Memory). length n.reserved) q

swapped_places : (o : Option ℕ) (s : CsrSwap) (h : Hart) (m : Memory) → length (swapped o s h m).memory.reserved ≡ length m.reserved
swapped_places None s h m = refl
swapped_places (Some old) s h m = either_places (s.writes && debug_refuses s.number) m _ _ refl refl

sort_places : (s : Sort) (insn : Insn) (h : Hart) (m : Memory) → length (ran_sort s insn h m).memory.reserved ≡ length m.reserved
sort_places Ends insn h m = refl
sort_places Refused insn h m = refl
sort_places (Swaps s) insn h m = swapped_places (debug_seen h m s.number) s h m
sort_places Accesses insn h m = executed_places (effect_of insn h.core m).step.did (effect_of insn h.core m) true h m (places_kept insn h.core m)
sort_places Plain insn h m = executed_places (effect_of insn h.core m).step.did (effect_of insn h.core m) false h m (places_kept insn h.core m)

meant_places : (o : Option Insn) (h : Hart) (m : Memory) → length (ran_meant o h m).memory.reserved ≡ length m.reserved
meant_places None h m = refl
meant_places (Some insn) h m = sort_places (sort_of insn h.core) insn h m

pub words_keep : WordsKeep
unfolding ran_word
words_keep w h m = record { hart = meant_keeps (meaning w) h m; places = meant_places (meaning w) h m }

-- ---- memory

refused_is_not_plain : Refused ≡ Plain → ⊥
refused_is_not_plain e = cc

accesses_is_not_plain : Accesses ≡ Plain → ⊥
accesses_is_not_plain e = cc

plain_keeps_memory : (insn : Insn) (c : Core) (m : Memory) → sort_of insn c ≡ Plain → (effect insn c m).memory ≡ m
plain_keeps_memory (Store size p) c m e = absurd (accesses_is_not_plain e)
plain_keeps_memory (LoadReserved width p) c m e = absurd (refused_is_not_plain e)
plain_keeps_memory (StoreConditional width p) c m e = absurd (refused_is_not_plain e)
plain_keeps_memory (Amo op width p) c m e = absurd (accesses_is_not_plain e)
plain_keeps_memory insn c m e = refl

plain_of : (insn : Insn) (c : Core) (m : Memory) → sort_of insn c ≡ Plain → (effect_of insn c m).memory ≡ m
unfolding effect_of
plain_of insn c m e = plain_keeps_memory insn c m e

abbrev QuietMemory : Memory → Debugged → Type 0
QuietMemory m after = after.accessed ≡ false → after.memory ≡ m

either_memory : (refuses : Bool) (m : Memory) (a b : Debugged) → QuietMemory m a → QuietMemory m b → QuietMemory m (cond refuses a b)
either_memory true m a b p q = p
either_memory false m a b p q = q

swapped_quiet : (o : Option ℕ) (s : CsrSwap) (h : Hart) (m : Memory) → QuietMemory m (swapped o s h m)
swapped_quiet None s h m = λ quiet. refl
swapped_quiet (Some old) s h m = either_memory (s.writes && debug_refuses s.number) m _ _ (λ quiet. refl) (λ quiet. refl)

true_is_not_false : true ≡ false → ⊥
true_is_not_false e = cc

executed_quiet : (d : Did) (o : Outcome) (accessed : Bool) (h : Hart) (m : Memory) → (accessed ≡ false → o.memory ≡ m)
    → QuietMemory m (executed_by d o accessed h m)
executed_quiet Retired o accessed h m is = is
executed_quiet (Trapped cause) o accessed h m is = λ quiet. refl
executed_quiet Interrupted o accessed h m is = λ quiet. refl

sort_quiet : (s : Sort) (insn : Insn) (h : Hart) (m : Memory) → sort_of insn h.core ≡ s → QuietMemory m (ran_sort s insn h m)
sort_quiet Ends insn h m is = λ quiet. refl
sort_quiet Refused insn h m is = λ quiet. refl
sort_quiet (Swaps s) insn h m is = swapped_quiet (debug_seen h m s.number) s h m
sort_quiet Accesses insn h m is = executed_quiet (effect_of insn h.core m).step.did (effect_of insn h.core m) true h m
    (λ quiet. absurd (true_is_not_false quiet))
sort_quiet Plain insn h m is = executed_quiet (effect_of insn h.core m).step.did (effect_of insn h.core m) false h m (λ quiet. plain_of insn h.core m is)

meant_quiet : (o : Option Insn) (h : Hart) (m : Memory) → QuietMemory m (ran_meant o h m)
meant_quiet None h m = λ quiet. refl
meant_quiet (Some insn) h m = sort_quiet (sort_of insn h.core) insn h m refl

pub memory_needs_access : MemoryNeedsAccess
unfolding ran_word
memory_needs_access w h m quiet = meant_quiet (meaning w) h m quiet

-- ---- the debug part

abbrev is_swap : Sort → Bool
is_swap Ends = false
is_swap Refused = false
is_swap (Swaps s) = true
is_swap Accesses = false
is_swap Plain = false

swaps_are_csr : (insn : Insn) (c : Core) → is_csr_insn (Some insn) ≡ false → is_swap (sort_of insn c) ≡ false
swaps_are_csr (Csr change p) c e = e
swaps_are_csr (CsrImmediate change p) c e = e
swaps_are_csr insn c e = refl

same_debug : (h : Hart) → KeepsDebug h h
same_debug h = record { debug = refl; pc = refl }

executed_debug : (d : Did) (o : Outcome) (accessed : Bool) (h : Hart) (m : Memory) → KeepsDebug h (executed_by d o accessed h m).hart
executed_debug Retired o accessed h m = record { debug = refl; pc = refl }
executed_debug (Trapped cause) o accessed h m = same_debug h
executed_debug Interrupted o accessed h m = same_debug h

sort_debug : (s : Sort) (insn : Insn) (h : Hart) (m : Memory) → is_swap s ≡ false → KeepsDebug h (ran_sort s insn h m).hart
sort_debug Ends insn h m e = same_debug h
sort_debug Refused insn h m e = same_debug h
sort_debug (Swaps s) insn h m e = absurd (true_is_not_false e)
sort_debug Accesses insn h m e = executed_debug (effect_of insn h.core m).step.did (effect_of insn h.core m) true h m
sort_debug Plain insn h m e = executed_debug (effect_of insn h.core m).step.did (effect_of insn h.core m) false h m

meant_debug : (o : Option Insn) (h : Hart) (m : Memory) → is_csr_insn o ≡ false → KeepsDebug h (ran_meant o h m).hart
meant_debug None h m e = same_debug h
meant_debug (Some insn) h m e = sort_debug (sort_of insn h.core) insn h m (swaps_are_csr insn h.core e)

pub debug_needs_csr : DebugNeedsCsr
unfolding ran_word
debug_needs_csr w h m e = meant_debug (meaning w) h m e
