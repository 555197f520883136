-- Where a block of stores stands at a told chip, one element after the other, and what a fault of memory leaves.
use Rattle.std.proofs.Common.{◌≡◌, ◌∙◌, ◌≤◌, ◌<◌, ◌+◌, ◌*◌, ◌%◌, ◌^◌, ℕ, List, [], ◌∷◌, length, Option, refl, sym, ap, subst, arith}
use Rattle.rv_model.specs.declared.size.Size.{Size}
use Rattle.rv_model.specs.Board.{Board, Hart}
use Rattle.rv_model.specs.Core.{x_of}
use Rattle.rv_model.specs.Memory.{Memory, after_store, store_answer}
use Rattle.rv_model.specs.Size.{count_of}
use Rattle.rv_model.specs.Widths.{MemoryReady}
use Rattle.rv_model.proofs.WideMemory.{stored_ready}
use Rattle.debug_model.specs.Addresses.{progbuf0_address, progbuf1_address, progbuf2_address}
use Rattle.debug_model.specs.Module.{DebugModule, Site, register_at}
use Rattle.debug_model.specs.SystemBus.{BusUnit}
use Rattle.debug_model.specs.Told.{Far}
use Rattle.probe_access.specs.declared.fault.AccessFault.{AccessFault}
use Rattle.probe_run.specs.Acts.{Act, Tells}
use Rattle.probe_run.specs.Acts.Act.{Put}
use Rattle.probe_access.specs.Accesses.{unchanged}
use Rattle.probe_access.specs.Blocks.{NotStoredOne, StoredEach, element_at}
use Rattle.probe_access.specs.Blocks.StoredEach.{nothing as none_stored, further as stored_further}
use Rattle.probe_access.specs.CommandRuns.{RanCommand}
use Rattle.probe_access.specs.ElementRuns.{RunFailed, StartFailed, Started, StoresFailed, StoresOn, block_program}
use Rattle.probe_access.specs.ElementRuns.RunFailed.{in_run, faulted, oddly}
use Rattle.probe_access.specs.RegisterAccess.{advance_word, ebreak_word, next_word, store_word, x8_number, x9_number}
use Rattle.probe_access.specs.RegisterRuns.{RanTo, RegisterWritten}
use Rattle.probe_access.proofs.AccessSteps.{WordDid}
use Rattle.probe_access.proofs.AroundTold.{command_clean, write_clean, writes_x8, writes_x9}
use Rattle.probe_access.proofs.Aside.{Frozen, HartAt, accessed, passed}
use Rattle.probe_access.proofs.BlockAround.{LeftWith, OnlyAt, clean_at, only_at_map}
use Rattle.probe_access.proofs.ElementSites.{access_on, access_ready}
use Rattle.probe_access.proofs.ElementWords.{element_first, element_next, element_small, scratched_address, scratched_advanced, scratched_x9}
use Rattle.probe_access.proofs.NextSteps.{advanced}
use Rattle.probe_access.proofs.NextTold.{IsProgram, NextFaulted, NextWent, RanNext, next_faulted, next_neither, next_went, ran_next}
use Rattle.probe_access.proofs.ReadyTurns.{BoardReady, Passed, passed_turns}
use Rattle.probe_access.proofs.ReadyUnit.{Kept}
use Rattle.probe_access.proofs.RegAnswers.{StoodTold, WrittenTold, written_told}
use Rattle.probe_access.proofs.RegisterTold.{WordPuts}
use Rattle.probe_access.proofs.RegisterTold.WordPuts.{and_then, no_more}
use Rattle.probe_access.proofs.ScratchLemmas.{after_store_scratched, scratched}
use Rattle.probe_access.proofs.StoreClauses.{aimed, valued}
use Rattle.probe_access.proofs.Turns.{unit_passed}
use Rattle.probe_access.proofs.WordAccess.{StoreFaults, Stores, store_did}

-- ---- the program

abbrev with_words : ℕ → ℕ → ℕ → Kept → Kept
with_words first second third k = record k { progbuf0 = first; progbuf1 = second; progbuf2 = third }

abbrev pub with_block : ℕ → Size → Kept → Kept
with_block word size k = with_words word (advance_word size) ebreak_word k

pub block_puts : (word : ℕ) (size : Size) (h : ℕ) (bus : BusUnit) (y : Hart) (k : Kept) → WordPuts h bus y k (block_program word size) (with_block word size k)
unfolding register_at
block_puts word size h bus y k =
    and_then progbuf0_address word (Put progbuf1_address (advance_word size) ∷ Put progbuf2_address ebreak_word ∷ []) k
    (with_words word k.progbuf1 k.progbuf2 k) (with_block word size k) (λ z. refl)
    (and_then progbuf1_address (advance_word size) (Put progbuf2_address ebreak_word ∷ []) (with_words word k.progbuf1 k.progbuf2 k)
    (with_words word (advance_word size) k.progbuf2 k) (with_block word size k) (λ z. refl)
    (and_then progbuf2_address ebreak_word [] (with_words word (advance_word size) k.progbuf2 k) (with_block word size k) (with_block word size k) (λ z. refl)
    (no_more (with_block word size k))))

pub block_there : (word : ℕ) (size : Size) (k : Kept) → IsProgram word size (with_block word size k)
block_there word size k = record { first = refl; second = refl; third = refl }

-- ---- one command, by its fault

pub run_only : (P : Memory → Hart → Memory → Type 0) (Q : Memory → Type 0) (word : ℕ) (size : Size) (front : List Act) (at h : ℕ) (bus : BusUnit) (y : Hart)
    (base : Site) (w : Hart) (old_count new_count : ℕ) (old new : Tells) (e : AccessFault)
    → ((last : ℕ) → RanCommand front next_word last old new → RanNext P Q word size last h bus y base w new.far)
    → RunFailed front at old_count new_count old new e → OnlyAt (λ a. (a ≡ at) × NextFaulted Q word size h bus y base w new.far) e
run_only P Q word size front at h bus y base w old_count new_count old new _ ran (in_run e f) =
    clean_at (λ a. (a ≡ at) × NextFaulted Q word size h bus y base w new.far) e (command_clean front next_word old_count new_count old new e f)
run_only P Q word size front at h bus y base w old_count new_count old new _ ran (faulted r) =
    (refl, next_faulted P Q word size r.last h bus y base w new.far (ran r.last r.ran) r.error_is)
run_only P Q word size front at h bus y base w old_count new_count old new _ ran (oddly shown r) =
    next_neither P Q word size r.last h bus y base w new.far (ran r.last r.ran) r.some r.other

-- ---- what a block rests on

pub record BlockAt (size : Size) (address count : ℕ) (x : Hart) (s : Site) : Type 0 where
  pub all : length x.core.x ≡ 32
  pub ends : address + count * count_of size ≤ 2 ^ 64
  pub some : 0 < count
  pub ready : BoardReady s.board

-- the program is there
pub record Prepared (word : ℕ) (size : Size) (h : ℕ) (bus : BusUnit) (z : Hart) (base : Site) (w : Hart) (told : Option Far) : Type 0 where
  pub then : StoodTold h bus z base w told
  pub program : IsProgram word size then.kept

-- ---- the places of a block of stores

pub record StorePlace (size : Size) (address value count done h : ℕ) (bus : BusUnit) (x : Hart) (s : Site) (told : Option Far) : Type 0 where
  pub base : Site
  pub each : StoredEach size address value s done base
  pub ready : BoardReady base.board
  pub bus_is : base.unit.bus ≡ bus
  pub p : ℕ
  pub p_is : done < count → p ≡ element_at size address done
  pub set : Prepared (store_word size) size h bus (scratched p value x) base x told

-- memory refused an element
pub record StoreFault (size : Size) (address value count at h : ℕ) (bus : BusUnit) (x : Hart) (s base : Site) : Type 0 where
  pub done : ℕ
  pub below : done < count
  pub at_is : at ≡ element_at size address done
  pub mid : Site
  pub each : StoredEach size address value s done mid
  pub here : HartAt h mid x
  pub mid_bus : mid.unit.bus ≡ bus
  pub turned : List ℕ
  pub did : StoreFaults size (element_at size address done) (passed turned mid).board.memory
  pub base_is : base ≡ accessed (passed turned mid).board.memory (passed turned mid)
  pub refused : NotStoredOne size (element_at size address done) mid base
  pub ready : BoardReady base.board
  pub bus_is : base.unit.bus ≡ bus

abbrev pub on_it : Size → ℕ → ℕ → ℕ → Hart → Hart
on_it size address value done x = scratched (element_at size address done) value x

abbrev pub ElementRan : Size → ℕ → ℕ → ℕ → ℕ → ℕ → BusUnit → Hart → Site → Option Far → Type 0
ElementRan size address value done last h bus x base told =
    RanNext (Stores size (element_at size address done) value (on_it size address value done x)) (StoreFaults size (element_at size address done))
    (store_word size) size last h bus (on_it size address value done x) base x told

pub element_decides : (size : Size) (address value count done : ℕ) (x : Hart) (s : Site) (m : Memory) → BlockAt size address count x s → done < count
    → Frozen (on_it size address value done x)
    → WordDid (Stores size (element_at size address done) value (on_it size address value done x)) (StoreFaults size (element_at size address done))
    (store_word size) (on_it size address value done x) m
element_decides size address value count done x s m env below frozen =
    store_did size (element_at size address done) value (on_it size address value done x) m frozen
    (scratched_address (element_at size address done) value x env.all (element_small size address count done env.ends below))
    (scratched_x9 (element_at size address done) value x env.all)

-- with the element's address in x8, behind these writes
pub element_ran : (size : Size) (address value count done : ℕ) (front : List Act) (l : Kept) (last h : ℕ) (bus : BusUnit) (x : Hart) (s base : Site)
    (old new : Tells) → BlockAt size address count x s → done < count → (st : StoodTold h bus (on_it size address value done x) base x old.far)
    → WordPuts h bus (on_it size address value done x) st.kept front l → IsProgram (store_word size) size l → RanCommand front next_word last old new
    → ElementRan size address value done last h bus x base new.far
element_ran size address value count done front l last h bus x s base old new env below st puts program ran =
    ran_next (Stores size (element_at size address done) value (on_it size address value done x)) (StoreFaults size (element_at size address done))
    (store_word size) size front l last h bus (on_it size address value done x) base x old new st puts program
    (λ m. element_decides size address value count done x s m env below st.stood.frozen) ran

-- one more is stored
pub record StoredNext (size : Size) (address value done : ℕ) (bus : BusUnit) (s next : Site) : Type 0 where
  pub each : StoredEach size address value s (done + 1) next
  pub ready : BoardReady next.board
  pub bus_is : next.unit.bus ≡ bus

pub stored_next : (size : Size) (address value done : ℕ) (bus : BusUnit) (s base : Site) (before : List ℕ) (y z : Hart) (n : Memory)
    → StoredEach size address value s done base → BoardReady base.board → base.unit.bus ≡ bus
    → Stores size (element_at size address done) value y (passed before base).board.memory z n
    → StoredNext size address value done bus s (accessed n (passed before base))
stored_next size address value done bus s base before y z n each ready bus_is did =
    let a : ℕ = element_at size address done in
    let pass : Passed base (passed before base) = passed_turns before base in
    record {
      each = stored_further done base (accessed n (passed before base)) each
          (record {
            before = pass.harts;
            behind = [];
            done = did.done;
            taken = ap (λ (b : Board). store_answer b.memory a size) (sym pass.board) ∙ did.is;
            access = access_on (λ m. after_store m a size value) before n base did.memory;
          });
      ready = access_ready before n base ready
          (λ r. subst (λ (m : Memory). MemoryReady m) (sym did.memory) (stored_ready (passed before base).board.memory a size value r));
      bus_is = ap (λ (m : DebugModule). m.bus) (unit_passed before base) ∙ bus_is;
    }

pub element_went : (size : Size) (address value count done h : ℕ) (bus : BusUnit) (x : Hart) (s base : Site) (told : Option Far) → BlockAt size address count x s
    → done < count → StoredEach size address value s done base → BoardReady base.board → base.unit.bus ≡ bus
    → NextWent (Stores size (element_at size address done) value (on_it size address value done x)) (store_word size) size h bus
    (on_it size address value done x) base x told
    → StorePlace size address value count (done + 1) h bus x s told
element_went size address value count done h bus x s base told env below each ready bus_is w =
    let a : ℕ = element_at size address done in
    let next : Site = accessed w.memory (passed w.before base) in
    let one : StoredNext size address value done bus s next =
    stored_next size address value done bus s base w.before (on_it size address value done x) w.hart w.memory each ready bus_is w.did in
    record {
      base = next;
      each = one.each;
      ready = one.ready;
      bus_is = one.bus_is;
      p = (a + count_of size) % 2 ^ 64;
      p_is = λ further. element_next size address count done env.ends further;
      set = subst (λ (z : Hart). Prepared (store_word size) size h bus z next x told)
          (ap (advanced size) w.did.hart ∙ scratched_advanced size a value x env.all) (record { then = w.then.then; program = w.then.program });
    }

-- memory refused an element
pub store_fault : (size : Size) (address value count done at h : ℕ) (bus : BusUnit) (x : Hart) (s base : Site) (before : List ℕ) → done < count
    → at ≡ element_at size address done → StoredEach size address value s done base → BoardReady base.board → base.unit.bus ≡ bus → HartAt h base x
    → StoreFaults size (element_at size address done) (passed before base).board.memory
    → StoreFault size address value count at h bus x s (accessed (passed before base).board.memory (passed before base))
store_fault size address value count done at h bus x s base before below at_is each ready bus_is here did =
    let a : ℕ = element_at size address done in
    let m : Memory = (passed before base).board.memory in
    let pass : Passed base (passed before base) = passed_turns before base in
    record {
      done = done;
      below = below;
      at_is = at_is;
      mid = base;
      each = each;
      here = here;
      mid_bus = bus_is;
      turned = before;
      did = did;
      base_is = refl;
      refused = record {
        before = pass.harts;
        behind = [];
        why = did.why;
        refused = ap (λ (b : Board). store_answer b.memory a size) (sym pass.board) ∙ did.is;
        access = access_on unchanged before m base refl;
      };
      ready = access_ready before m base ready (λ r. r);
      bus_is = ap (λ (u : DebugModule). u.bus) (unit_passed before base) ∙ bus_is;
    }

pub element_faulted : (size : Size) (address value count done at h : ℕ) (bus : BusUnit) (x : Hart) (s base : Site) (told : Option Far) → done < count
    → at ≡ element_at size address done → StoredEach size address value s done base → BoardReady base.board → base.unit.bus ≡ bus → HartAt h base x
    → NextFaulted (StoreFaults size (element_at size address done)) (store_word size) size h bus (on_it size address value done x) base x told
    → LeftWith (StoreFault size address value count at h bus x s) h bus x told
element_faulted size address value count done at h bus x s base told below at_is each ready bus_is here w = record {
  p = element_at size address done;
  q = value;
  base = accessed (passed w.before base).board.memory (passed w.before base);
  content = store_fault size address value count done at h bus x s base w.before below at_is each ready bus_is here w.did;
  then = w.then.then;
}

-- ---- the first element

at_first_address : (size : Size) (address value : ℕ) (x : Hart) → aimed x address value ≡ on_it size address value 0 x
at_first_address size address value x = after_store_scratched x address value ∙ ap (λ a. scratched a value x) (sym (element_first size address))

pub store_valued : (value h : ℕ) (bus : BusUnit) (x : Hart) (s : Site) (old new : Tells) → StoodTold h bus x s x old.far
    → RegisterWritten x9_number value old new
    → StoodTold h bus (valued x value) s x new.far
store_valued value h bus x s old new st r =
    let a : WrittenTold x9_number value h bus x s x st.kept new.far = written_told x9_number value h bus x s x old new (omega arith) st r in a.then

pub store_aimed : (size : Size) (address value h : ℕ) (bus : BusUnit) (x : Hart) (s : Site) (old new : Tells) → StoodTold h bus (valued x value) s x old.far
    → RegisterWritten x8_number address old new → StoodTold h bus (on_it size address value 0 x) s x new.far
store_aimed size address value h bus x s old new st r =
    let a : WrittenTold x8_number address h bus (valued x value) s x st.kept new.far =
    written_told x8_number address h bus (valued x value) s x old new (omega arith) st r in
    subst (λ (z : Hart). StoodTold h bus z s x new.far) (at_first_address size address value x) a.then

pub first_ran : (size : Size) (address value count last h : ℕ) (bus : BusUnit) (x : Hart) (s : Site) (old new : Tells) → BlockAt size address count x s
    → StoodTold h bus (on_it size address value 0 x) s x old.far → RanCommand (block_program (store_word size) size) next_word last old new
    → ElementRan size address value 0 last h bus x s new.far
first_ran size address value count last h bus x s old new env st ran =
    element_ran size address value count 0 (block_program (store_word size) size) (with_block (store_word size) size st.kept) last h bus x s s old new env
    env.some st (block_puts (store_word size) size h bus (on_it size address value 0 x) st.kept) (block_there (store_word size) size st.kept) ran

pub started_place : (size : Size) (address value count h : ℕ) (bus : BusUnit) (x : Hart) (s : Site) (old new : Tells) → BlockAt size address count x s
    → s.unit.bus ≡ bus → StoodTold h bus (valued x value) s x old.far → Started (store_word size) size address old new
    → StorePlace size address value count 1 h bus x s new.far
started_place size address value count h bus x s old new env bus_is st r =
    element_went size address value count 0 h bus x s s new.far env env.some none_stored env.ready bus_is
    (next_went _ _ (store_word size) size r.ran.last h bus (on_it size address value 0 x) s x new.far
    (first_ran size address value count r.ran.last h bus x s r.mid new env (store_aimed size address value h bus x s old r.mid st r.x8) r.ran.ran)
    r.ran.error_is)

-- ---- the next ones

pub place_aimed : (size : Size) (address value count done h : ℕ) (bus : BusUnit) (x : Hart) (s : Site) (told : Option Far) → done < count
    → (pl : StorePlace size address value count done h bus x s told)
    → Prepared (store_word size) size h bus (on_it size address value done x) pl.base x told
place_aimed size address value count done h bus x s told below pl =
    subst (λ n. Prepared (store_word size) size h bus (scratched n value x) pl.base x told) (pl.p_is below) pl.set

pub place_ran : (size : Size) (address value count done last h : ℕ) (bus : BusUnit) (x : Hart) (s : Site) (old new : Tells)
    → BlockAt size address count x s → done < count → (pl : StorePlace size address value count done h bus x s old.far)
    → RanCommand [] next_word last old new → ElementRan size address value done last h bus x pl.base new.far
place_ran size address value count done last h bus x s old new env below pl ran =
    let g : Prepared (store_word size) size h bus (on_it size address value done x) pl.base x old.far =
    place_aimed size address value count done h bus x s old.far below pl in
    element_ran size address value count done [] g.then.kept last h bus x s pl.base old new env below g.then (no_more g.then.kept) g.program ran

pub next_place : (size : Size) (address value count done h : ℕ) (bus : BusUnit) (x : Hart) (s : Site) (old new : Tells)
    → BlockAt size address count x s → done < count → StorePlace size address value count done h bus x s old.far → RanTo [] next_word 0 old new
    → StorePlace size address value count (done + 1) h bus x s new.far
next_place size address value count done h bus x s old new env below pl r =
    element_went size address value count done h bus x s pl.base new.far env below pl.each pl.ready pl.bus_is
    (next_went _ _ (store_word size) size r.last h bus (on_it size address value done x) pl.base x new.far
    (place_ran size address value count done r.last h bus x s old new env below pl r.ran) r.error_is)
