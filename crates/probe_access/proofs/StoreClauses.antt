-- The clauses of a store by the program buffer, where the chip is told.
use Rattle.probe_run.specs.Told.{Serving}
use Rattle.std.proofs.Common.{◌≡◌, ◌∙◌, ◌<◌, ◌^◌, ℕ, List, length, Option, Some, None, Ok, refl, sym, ap, subst, arith}
use Rattle.std.proofs.lemmas.List.{length-set}
use Rattle.rv_model.specs.declared.size.Size.{Size}
use Rattle.rv_model.specs.Board.{Board, Hart}
use Rattle.rv_model.specs.Core.{x_of}
use Rattle.rv_model.specs.DebugRegisters.{debug_written}
use Rattle.rv_model.specs.Memory.{Memory, after_store, store_answer}
use Rattle.std.specs.Prelude.{⊤}
use Rattle.debug_model.specs.Dmi.{DmiComing}
use Rattle.debug_model.specs.Module.{Site}
use Rattle.debug_model.specs.Scan.{WhereTold}
use Rattle.debug_model.specs.SystemBus.{BusUnit}
use Rattle.debug_model.specs.Told.{Far, HartHalted, IsHalted, IsReady, Selects, SiteReady, chip_of, site_of}
use Rattle.probe_run.specs.Acts.{Tells, tells}
use Rattle.rv_model.proofs.WideMemory.{stored_ready}
use Rattle.probe_access.specs.Accesses.{StoreRefused, StoredAt, unchanged}
use Rattle.probe_access.specs.declared.fault.AccessFault.{AccessFault}
use Rattle.probe_access.specs.MemoryRuns.{Around, AroundFailed, Performed, StoreFailedInside, StoredInside}
use Rattle.probe_access.specs.MemoryRuns.StoreFailedInside.{performing, writing}
use Rattle.probe_access.proofs.AroundTold.{FaultInside, OkInside, OnlyMemory, around_only, clean_only, only_map, perform_only, write_clean, writes_x9}
use Rattle.probe_access.proofs.AroundUntold.{PlainMemory, around_plain, perform_plain, write_plain}
use Rattle.probe_access.specs.RegisterAccess.{store_word, x8_number, x9_number}
use Rattle.probe_access.proofs.AccessEnd.{
  AccessEnd,
  access_end,
  access_serving,
  back_untold,
  one_access,
  performed_untold,
  ready_before,
  saved_untold,
  written_untold,
}
use Rattle.probe_access.proofs.AccessTold.{Faulted, PerformedTold, SavedTold, Went, back_told, faulted_told, ran_told, saved_told, went_told}
use Rattle.probe_access.proofs.LoadClauses.{AccessErr, Fits, fits_of, told_err, untold_err}
use Rattle.probe_access.proofs.Aside.{accessed, passed}
use Rattle.probe_access.proofs.ReadyTurns.{passed_turns}
use Rattle.probe_access.proofs.RegAnswers.{StoodTold, WrittenTold, written_told}
use Rattle.probe_access.proofs.RegClauses.{first_told, untold_serving}
use Rattle.probe_access.proofs.ScratchLemmas.{after_store_scratched, scratched, x9_other, x8_holds, x8_written, x9_holds, x9_written}
use Rattle.probe_access.proofs.TransferLemmas.{written_frozen}
use Rattle.probe_access.proofs.WordAccess.{StoreFaults, Stores, address_in, in_x8, store_did}

-- ---- the hart of a store

-- x9 has the value, and x8 the address
abbrev pub valued : Hart → ℕ → Hart
valued x v = debug_written x x9_number v

abbrev pub aimed : Hart → ℕ → ℕ → Hart
aimed x a v = debug_written (valued x v) x8_number a

valued_all : (x : Hart) (v : ℕ) → length x.core.x ≡ 32 → length (valued x v).core.x ≡ 32
valued_all x v all = ap (λ (y : Hart). length y.core.x) (x9_written x v) ∙ length-set x.core.x 9 v ∙ all

pub aimed_at : (x : Hart) (a v : ℕ) → length x.core.x ≡ 32 → a < 2 ^ 64 → address_in (aimed x a v) ≡ a
aimed_at x a v all small = in_x8 (aimed x a v) a (ap (λ (y : Hart). x_of y.core 8) (x8_written (valued x v) a) ∙ x8_holds (valued x v) a (valued_all x v all))
    small

pub aimed_value : (x : Hart) (a v : ℕ) → length x.core.x ≡ 32 → x_of (aimed x a v).core 9 ≡ v
aimed_value x a v all =
    ap (λ (y : Hart). x_of y.core 9) (x8_written (valued x v) a) ∙ x9_other (valued x v) a ∙ ap (λ (y : Hart). x_of y.core 9) (x9_written x v)
    ∙ x9_holds x v all

-- ---- a store

pub record StoreWent (size : Size) (a v h : ℕ) (bus : BusUnit) (x : Hart) (base : Site) (told : Option Far) : Type 0 where
  pub before : List ℕ
  pub done : ⊤
  pub is : store_answer (passed before base).board.memory a size ≡ Ok done
  pub then : StoodTold h bus (scratched a v x) (accessed (after_store (passed before base).board.memory a size v) (passed before base)) x told

store_went_by : (size : Size) (a v h : ℕ) (bus : BusUnit) (x : Hart) (base : Site) (told : Option Far) → Went (Stores size a v (aimed x a v)) h bus base x told
    → StoreWent size a v h bus x base told
store_went_by size a v h bus x base told w = record {
  before = w.before;
  done = w.did.done;
  is = w.did.is;
  then =
      subst (λ (n : Memory). StoodTold h bus (scratched a v x) (accessed n (passed w.before base)) x told) w.did.memory
      (subst (λ (z : Hart). StoodTold h bus z (accessed w.memory (passed w.before base)) x told) (w.did.hart ∙ after_store_scratched x a v) w.then);
}

store_performed : (size : Size) (a v error h : ℕ) (bus : BusUnit) (x : Hart) (base : Site) (old new : Tells) → length x.core.x ≡ 32 → a < 2 ^ 64
    → StoodTold h bus (valued x v) base x old.far → (p : Performed (store_word size) a error old new)
    → PerformedTold (Stores size a v (aimed x a v)) (StoreFaults size a) p.last h bus (aimed x a v) base x new.far
store_performed size a v error h bus x base old new all small st p =
    ran_told (Stores size a v (aimed x a v)) (StoreFaults size a) (store_word size) a p.last h bus (valued x v) base x old new st
    (λ m. store_did size a v (aimed x a v) m (written_frozen (valued x v) x8_number a st.stood.frozen) (aimed_at x a v all small) (aimed_value x a v all)) p.ran

pub store_went : (size : Size) (a v h : ℕ) (bus : BusUnit) (x : Hart) (base : Site) (old new : Tells) → length x.core.x ≡ 32 → a < 2 ^ 64
    → StoodTold h bus x base x old.far → StoredInside size a v old new → StoreWent size a v h bus x base new.far
store_went size a v h bus x base old new all small st i =
    let wr : WrittenTold x9_number v h bus x base x st.kept i.mid.far = written_told x9_number v h bus x base x old i.mid (omega arith) st i.x9 in
    let r = store_performed size a v 0 h bus x base i.mid new all small wr.then i.performed in
    store_went_by size a v h bus x base new.far
    (went_told (Stores size a v (aimed x a v)) (StoreFaults size a) i.performed.last h bus (aimed x a v) base x new.far r.far r.is i.performed.error_is
    r.program)

pub record StoreOk (size : Size) (address value h : ℕ) (old new : Option Far) : Type 0 where
  pub stored_at : WhereTold (StoredAt size address value) old new
  pub serving : Serving h new

pub store_ok : (size : Size) (address value h : ℕ) (far : Option Far) (coming : Option DmiComing) (new : Tells) → address < 2 ^ 64 → IsReady far
    → Selects h far → IsHalted h far
    → Around (StoredInside size address value) (tells far coming) new → StoreOk size address value h far new.far
store_ok size address value h None coming new small ready selects halted r =
    let a : r.first.far ≡ None = saved_untold r.x8 r.x9 (tells None coming) r.first r.saved refl in
    let b : r.inside.mid.far ≡ None = written_untold x9_number value r.first r.inside.mid r.inside.x9 a in
    let c : r.last.far ≡ None = performed_untold (store_word size) address 0 r.inside.mid r.last r.inside.performed b in
    let d : new.far ≡ None = back_untold r.x8 r.x9 r.last new r.put_back c in
    record { stored_at = d; serving = untold_serving h new.far d }
store_ok size address value h (Some f) coming new small ready selects halted r =
    let s : Site = site_of f in
    let x : Hart = halted.hart in
    let fits : Fits x = fits_of h s ready halted in
    let sv : SavedTold r.x8 r.x9 h s.unit.bus x s x r.first.far =
    saved_told r.x8 r.x9 h s.unit.bus x s x (tells (Some f) coming) r.first (first_told h f ready halted selects) r.saved in
    let w : StoreWent size address value h s.unit.bus x s r.last.far =
    store_went size address value h s.unit.bus x s r.first r.last fits.all small sv.then r.inside in
    let was : Memory = (passed w.before s).board.memory in
    let memory : Memory = after_store was address size value in
    let back : StoodTold h s.unit.bus x (accessed memory (passed w.before s)) x new.far =
    back_told r.x8 r.x9 address value h s.unit.bus x (accessed memory (passed w.before s)) x r.last new fits.all (sv.x8_is fits.x8) (sv.x9_is fits.x9) w.then
    r.put_back in
    let e : AccessEnd memory w.before s (site_of back.far) = access_end h x memory w.before s new.far back in
    record {
      stored_at = record {
        far = back.far;
        is = back.is;
        before = (passed_turns w.before s).harts;
        behind = e.behind;
        done = w.done;
        taken = ap (λ (b : Board). store_answer b.memory address size) (sym (passed_turns w.before s).board) ∙ w.is;
        access = one_access memory (λ m. after_store m address size value) w.before s (site_of back.far) e refl;
      };
      serving = access_serving h f ready halted memory w.before new.far (stored_ready was address size value (ready_before w.before s ready).memory) back;
    }

-- ---- its faults

store_inside_well : (size : Size) (a v h : ℕ) (bus : BusUnit) (x : Hart) (base : Site) (first last : Tells) → length x.core.x ≡ 32 → a < 2 ^ 64
    → StoodTold h bus x base x first.far → StoredInside size a v first last → OkInside h bus x last.far
store_inside_well size a v h bus x base first last all small st i =
    let w : StoreWent size a v h bus x base last.far = store_went size a v h bus x base first last all small st i in
    record { p = a; q = v; base = accessed (after_store (passed w.before base).board.memory a size v) (passed w.before base); then = w.then }

store_fault_at : (Q : Memory → Type 0) (a v h : ℕ) (bus : BusUnit) (x : Hart) (base : Site) (told : Option Far) → Faulted Q h bus (aimed x a v) base x told
    → FaultInside Q h bus x base told
store_fault_at Q a v h bus x base told f = record { p = a; q = v; fault = subst (λ (y : Hart). Faulted Q h bus y base x told) (after_store_scratched x a v) f }

store_faulted : (size : Size) (a v h : ℕ) (bus : BusUnit) (x : Hart) (base : Site) (old new : Tells) → length x.core.x ≡ 32 → a < 2 ^ 64
    → StoodTold h bus (valued x v) base x old.far → Performed (store_word size) a 3 old new
    → FaultInside (StoreFaults size a) h bus x base new.far
store_faulted size a v h bus x base old new all small st p =
    let r = store_performed size a v 3 h bus x base old new all small st p in
    store_fault_at (StoreFaults size a) a v h bus x base new.far
    (faulted_told (Stores size a v (aimed x a v)) (StoreFaults size a) p.last h bus (aimed x a v) base x new.far r.far r.is p.error_is r.program)

pub store_badly : (size : Size) (a v h : ℕ) (bus : BusUnit) (x : Hart) (base : Site) (old_count new_count : ℕ) (first last : Tells) (e : AccessFault)
    → length x.core.x ≡ 32 → a < 2 ^ 64 → StoodTold h bus x base x first.far
    → StoreFailedInside size a v old_count new_count first last e → OnlyMemory a (FaultInside (StoreFaults size a) h bus x base last.far) e
store_badly size a v h bus x base old_count new_count first last e all small st (writing f) =
    clean_only a (FaultInside (StoreFaults size a) h bus x base last.far) e
    (write_clean x9_number v h bus x base x old_count new_count first last e (omega arith) (writes_x9 x) st f)
store_badly size a v h bus x base old_count new_count first last e all small st (performing mid x9 f) =
    let wr : WrittenTold x9_number v h bus x base x st.kept mid.far = written_told x9_number v h bus x base x first mid (omega arith) st x9 in
    only_map a (Performed (store_word size) a 3 mid last) (FaultInside (StoreFaults size a) h bus x base last.far) e
    (λ p. store_faulted size a v h bus x base mid last all small wr.then p)
    (perform_only (Stores size a v (aimed x a v)) (StoreFaults size a) (store_word size) a h bus (valued x v) base x old_count new_count mid last e wr.then
    (λ fy m. store_did size a v (aimed x a v) m fy (aimed_at x a v all small) (aimed_value x a v all)) f)

store_untold : (size : Size) (a v old_count new_count : ℕ) (first last : Tells) (e : AccessFault) → first.far ≡ None
    → StoreFailedInside size a v old_count new_count first last e → PlainMemory a (last.far ≡ None) e
store_untold size a v old_count new_count first last e none (writing f) = write_plain x9_number v a (last.far ≡ None) old_count new_count first last e f
store_untold size a v old_count new_count first last e none (performing mid x9 f) =
    perform_plain (store_word size) a old_count new_count mid last e (written_untold x9_number v first mid x9 none) f

store_refused : (size : Size) (address h : ℕ) (f : Far) (ready : SiteReady (site_of f)) (halted : HartHalted h (site_of f).board) (new : Option Far)
    → Faulted (StoreFaults size address) h (site_of f).unit.bus halted.hart (site_of f) halted.hart new
    → StoreRefused size address (chip_of f) new × Serving h new
store_refused size address h f ready halted new w =
    let s : Site = site_of f in
    let memory : Memory = (passed w.before s).board.memory in
    let e : AccessEnd memory w.before s (site_of w.then.far) = access_end h halted.hart memory w.before s new w.then in (
      record {
        far = w.then.far;
        is = w.then.is;
        before = (passed_turns w.before s).harts;
        behind = e.behind;
        why = w.did.why;
        refused = ap (λ (b : Board). store_answer b.memory address size) (sym (passed_turns w.before s).board) ∙ w.did.is;
        access = one_access memory unchanged w.before s (site_of w.then.far) e refl;
      },
      access_serving h f ready halted memory w.before new (ready_before w.before s ready).memory w.then,
    )

pub store_err : (size : Size) (address value h : ℕ) (far : Option Far) (coming : Option DmiComing) (old_count new_count : ℕ) (new : Tells) (e : AccessFault)
    → address < 2 ^ 64 → IsReady far → Selects h far → IsHalted h far
    → AroundFailed (StoredInside size address value) (StoreFailedInside size address value) old_count new_count (tells far coming) new e
    → AccessErr (StoreRefused size address) address h far new.far e
store_err size address value h None coming old_count new_count new e small ready selects halted f =
    untold_err (StoreRefused size address) address h new.far e
    (around_plain (StoredInside size address value) (StoreFailedInside size address value) address old_count new_count (tells None coming) new e
    (record { badly = λ oc nc first last e none g. store_untold size address value oc nc first last e none g }) refl f)
store_err size address value h (Some c) coming old_count new_count new e small ready selects halted f =
    let s : Site = site_of c in
    let x : Hart = halted.hart in
    let fits : Fits x = fits_of h s ready halted in
    told_err (StoreRefused size address) address h c new.far e
    (only_map address (Faulted (StoreFaults size address) h s.unit.bus x s x new.far) (StoreRefused size address (chip_of c) new.far × Serving h new.far) e
    (λ w. store_refused size address h c ready halted new.far w)
    (around_only (StoredInside size address value) (StoreFailedInside size address value) (StoreFaults size address) address h s.unit.bus x s old_count
    new_count (tells (Some c) coming) new e fits.all fits.x8 fits.x9
    (record {
      well = λ first last st r. store_inside_well size address value h s.unit.bus x s first last fits.all small st r;
      badly = λ oc nc first last e st g. store_badly size address value h s.unit.bus x s oc nc first last e fits.all small st g;
    })
    (first_told h c ready halted selects) f))
