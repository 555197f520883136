-- The clauses of a load by the program buffer, where the chip is told.
use Rattle.probe_run.specs.Told.{Serving}
use Rattle.std.proofs.Common.{◌≡◌, ◌∙◌, ◌<◌, ◌^◌, ℕ, List, length, false, Option, Some, None, Ok, refl, sym, ap, subst, arith}
use Rattle.rv_model.specs.declared.size.Size.{Size}
use Rattle.rv_model.specs.declared.size.Size.TheVariants.{B1, B2, B4, B8}
use Rattle.rv_model.specs.Board.{Board, Hart}
use Rattle.rv_model.specs.Core.{x_of}
use Rattle.rv_model.specs.DebugRegisters.{debug_value, debug_written}
use Rattle.rv_model.specs.Memory.{Memory, loaded}
use Rattle.rv_model.specs.Size.{count_of}
use Rattle.debug_model.specs.Dmi.{DmiComing}
use Rattle.debug_model.specs.Module.{Site}
use Rattle.debug_model.specs.Scan.{WhereTold}
use Rattle.debug_model.specs.SystemBus.{BusUnit}
use Rattle.rv_model.specs.Widths.{MemoryReady}
use Rattle.debug_model.specs.Told.{Far, HartHalted, IsHalted, IsReady, Selects, SiteReady, chip_of, site_of}
use Rattle.probe_run.specs.Acts.{Tells, tells}
use Rattle.probe_access.specs.RegisterRuns.{RegisterRead, RegisterWritten, Swaps}
use Rattle.probe_access.proofs.AccessSteps.{WordDid}
use Rattle.rv_model.proofs.WideMemory.{loaded_small}
use Rattle.probe_access.specs.Accesses.{AccessLeft, IfMemory, LoadRefused, LoadedAt, unchanged}
use Rattle.probe_access.specs.declared.fault.AccessFault.{AccessFault}
use Rattle.probe_access.specs.declared.fault.AccessFault.TheVariants as access_fault
use Rattle.probe_access.specs.MemoryRuns.{LoadRun, LoadRunFailed, Performed, TakeFailed}
use Rattle.probe_access.specs.MemoryRuns.LoadRunFailed.{in_restore_behind, in_save, performing, refused, taking}
use Rattle.probe_access.proofs.AroundTold.{
  OnlyMemory,
  clean_only,
  lost_only,
  only_map,
  perform_only,
  read_clean,
  reads_x8,
  write_clean,
  writes_x8,
  Clean,
  behind_clean,
}
use Rattle.probe_access.proofs.AroundUntold.{PlainMemory, perform_plain, read_plain, write_plain, take_plain}
use Rattle.debug_model.specs.Chip.{Chip}
use Rattle.probe_access.specs.ReadRuns.{is_wide}
use Rattle.probe_access.specs.RegisterAccess.{load_word, x8_number}
use Rattle.probe_access.proofs.AccessEnd.{AccessEnd, access_end, access_serving, one_access, performed_untold, ready_before, written_untold}
use Rattle.probe_access.proofs.AccessTold.{Faulted, PerformedTold, Went, faulted_told, held_as, ran_told, went_told}
use Rattle.probe_access.proofs.Aside.{Frozen, accessed, passed}
use Rattle.probe_access.proofs.ReadyTurns.{passed_turns}
use Rattle.probe_access.proofs.RegAnswers.{ReadTold, StoodTold, WrittenTold, read_told, written_told, read_untold}
use Rattle.probe_access.proofs.RegClauses.{first_told, untold_serving}
use Rattle.probe_access.proofs.ScratchLemmas.{after_load, with_core_x, x8_back, x8_holds, x8_value, x8_written, x9_value}
use Rattle.probe_access.proofs.TransferLemmas.{written_frozen}
use Rattle.probe_access.proofs.WordAccess.{LoadFaults, Loads, address_in, in_x8, load_did}
use Rattle.probe_access.proofs.SwapTold.{TakenTold, taken_told, taken_untold, unswapped_told}

-- ---- the hart of an access

-- its registers fit, and there are 32
pub record Fits (x : Hart) : Type 0 where
  pub all : length x.core.x ≡ 32
  pub x8 : x_of x.core 8 < 2 ^ 64
  pub x9 : x_of x.core 9 < 2 ^ 64

pub fits_of : (h : ℕ) (s : Site) (ready : SiteReady s) (halted : HartHalted h s.board) → Fits halted.hart
fits_of h s ready halted =
    let r = ready.harts h halted.hart halted.is in
    record {
      all = r.whole.core.registers;
      x8 = r.registers 0x1008 (x_of halted.hart.core 8) (x8_value halted.hart);
      x9 = r.registers 0x1009 (x_of halted.hart.core 9) (x9_value halted.hart);
    }

pub addressed_in : (x : Hart) (a : ℕ) → length x.core.x ≡ 32 → a < 2 ^ 64 → address_in (debug_written x x8_number a) ≡ a
addressed_in x a all small = in_x8 (debug_written x x8_number a) a (ap (λ (y : Hart). x_of y.core 8) (x8_written x a) ∙ x8_holds x a all) small

pub size_small : (size : Size) (v : ℕ) → v < 256 ^ count_of size → v < 2 ^ 64
size_small B1 v lt = omega arith
size_small B2 v lt = omega arith
size_small B4 v lt = omega arith
size_small B8 v lt = omega arith

-- without an upper word
pub size_narrow : (size : Size) (v : ℕ) → v < 256 ^ count_of size → is_wide size ≡ false → v < 2 ^ 32
size_narrow B1 v lt thin = omega arith
size_narrow B2 v lt thin = omega arith
size_narrow B4 v lt thin = omega arith
size_narrow B8 v lt thin = absurd (let none : ⊥ = cc in none)

-- ---- x8

pub x8_saved : (x8 h : ℕ) (bus : BusUnit) (y : Hart) (base : Site) (w : Hart) (old new : Tells) → StoodTold h bus y base w old.far
    → RegisterRead x8_number x8 old new
    → x_of y.core 8 < 2 ^ 64 → x8 ≡ x_of y.core 8
x8_saved x8 h bus y base w old new st r fits =
    let a : ReadTold x8_number x8 h bus y base w new.far = read_told x8_number x8 h bus y base w old new (record { small = omega arith; other = refl }) st r in
    held_as y x8_number a.held x8 (x_of y.core 8) (x8_value y) a.held_is a.value_is fits

pub x8_read : (x8 h : ℕ) (bus : BusUnit) (y : Hart) (base : Site) (w : Hart) (old new : Tells) → StoodTold h bus y base w old.far
    → RegisterRead x8_number x8 old new
    → StoodTold h bus y base w new.far
x8_read x8 h bus y base w old new st r = let a : ReadTold x8_number x8 h bus y base w new.far =
    read_told x8_number x8 h bus y base w old new (record { small = omega arith; other = refl }) st r in a.then

pub x8_put : (x8 p h : ℕ) (bus : BusUnit) (x : Hart) (base : Site) (w : Hart) (old new : Tells) → length x.core.x ≡ 32 → x8 ≡ x_of x.core 8
    → StoodTold h bus (with_core_x x 8 p) base w old.far → RegisterWritten x8_number x8 old new → StoodTold h bus x base w new.far
x8_put x8 p h bus x base w old new all is st r =
    let a : WrittenTold x8_number x8 h bus (with_core_x x 8 p) base w st.kept new.far =
    written_told x8_number x8 h bus (with_core_x x 8 p) base w old new (omega arith) st r in
    subst (λ (z : Hart). StoodTold h bus z base w new.far) (ap (debug_written (with_core_x x 8 p) x8_number) is ∙ x8_back x p all) a.then

-- it was put back where what was loaded was taken
pub x8_taken : (x8 p value h : ℕ) (bus : BusUnit) (x : Hart) (base : Site) (w : Hart) (new : Tells) → length x.core.x ≡ 32 → x8 ≡ x_of x.core 8
    → TakenTold x8_number value x8 h bus (with_core_x x 8 p) base w new.far → StoodTold h bus x base w new.far
x8_taken x8 p value h bus x base w new all is t =
    subst (λ (z : Hart). StoodTold h bus z base w new.far) (ap (debug_written (with_core_x x 8 p) x8_number) is ∙ x8_back x p all) t.then

take_clean : (x8 h : ℕ) (bus : BusUnit) (y : Hart) (base : Site) (w : Hart) (old_count new_count : ℕ) (old new : Tells) (e : AccessFault)
    → StoodTold h bus y base w old.far → TakeFailed x8 old_count new_count old new e → Clean e
take_clean x8 h bus y base w old_count new_count old new e st (TakeFailed.swapping f) =
    behind_clean (Swaps x8_number x8) _ _ old_count new_count old new e f
take_clean x8 h bus y base w old_count new_count old new e st (TakeFailed.reading mid early f) =
    read_clean x8_number h bus y base w old_count new_count mid new e (record { small = omega arith; other = refl }) (reads_x8 y)
    (unswapped_told x8_number x8 h bus y base w old mid (record { small = omega arith; other = refl }) st early) f
take_clean x8 h bus y base w old_count new_count old new e st (TakeFailed.writing value mid last early read f) =
    write_clean x8_number x8 h bus y base w old_count new_count last new e (omega arith) (writes_x8 y)
    (x8_read value h bus y base w mid last (unswapped_told x8_number x8 h bus y base w old mid (record { small = omega arith; other = refl }) st early) read) f

-- ---- a load

-- through the program
pub record LoadWent (size : Size) (a h : ℕ) (bus : BusUnit) (x : Hart) (base : Site) (told : Option Far) : Type 0 where
  pub before : List ℕ
  pub value : ℕ
  pub is : loaded (passed before base).board.memory a size ≡ Ok value
  pub then : StoodTold h bus (with_core_x x 8 value) (accessed (passed before base).board.memory (passed before base)) x told

load_went_by : (size : Size) (a h : ℕ) (bus : BusUnit) (x : Hart) (base : Site) (told : Option Far)
    → Went (Loads size a (debug_written x x8_number a)) h bus base x told → LoadWent size a h bus x base told
load_went_by size a h bus x base told w = record {
  before = w.before;
  value = w.did.value;
  is = w.did.is;
  then =
      subst (λ (n : Memory). StoodTold h bus (with_core_x x 8 w.did.value) (accessed n (passed w.before base)) x told) w.did.memory
      (subst (λ (z : Hart). StoodTold h bus z (accessed w.memory (passed w.before base)) x told) (w.did.hart ∙ after_load x a w.did.value) w.then);
}

pub load_decides : (size : Size) (a : ℕ) (x : Hart) (m : Memory) → length x.core.x ≡ 32 → a < 2 ^ 64 → Frozen (debug_written x x8_number a)
    → WordDid (Loads size a (debug_written x x8_number a)) (LoadFaults size a) (load_word size) (debug_written x x8_number a) m
load_decides size a x m all small frozen = load_did size a (debug_written x x8_number a) m frozen (addressed_in x a all small)

pub load_performed : (size : Size) (a error h : ℕ) (bus : BusUnit) (x : Hart) (base : Site) (old new : Tells) → length x.core.x ≡ 32 → a < 2 ^ 64
    → StoodTold h bus x base x old.far → (p : Performed (load_word size) a error old new)
    → PerformedTold (Loads size a (debug_written x x8_number a)) (LoadFaults size a) p.last h bus (debug_written x x8_number a) base x new.far
load_performed size a error h bus x base old new all small st p =
    ran_told (Loads size a (debug_written x x8_number a)) (LoadFaults size a) (load_word size) a p.last h bus x base x old new st
    (λ m. load_decides size a x m all small (written_frozen x x8_number a st.stood.frozen)) p.ran

pub load_went : (size : Size) (a h : ℕ) (bus : BusUnit) (x : Hart) (base : Site) (old new : Tells) → length x.core.x ≡ 32 → a < 2 ^ 64
    → StoodTold h bus x base x old.far → Performed (load_word size) a 0 old new → LoadWent size a h bus x base new.far
load_went size a h bus x base old new all small st p =
    let r = load_performed size a 0 h bus x base old new all small st p in
    load_went_by size a h bus x base new.far
    (went_told (Loads size a (debug_written x x8_number a)) (LoadFaults size a) p.last h bus (debug_written x x8_number a) base x new.far r.far r.is
    p.error_is r.program)

-- memory refused it, with the address in x8
pub load_faulted : (size : Size) (a h : ℕ) (bus : BusUnit) (x : Hart) (base : Site) (old new : Tells) → length x.core.x ≡ 32 → a < 2 ^ 64
    → StoodTold h bus x base x old.far → Performed (load_word size) a 3 old new
    → Faulted (LoadFaults size a) h bus (with_core_x x 8 a) base x new.far
load_faulted size a h bus x base old new all small st p =
    let r = load_performed size a 3 h bus x base old new all small st p in
    subst (λ (y : Hart). Faulted (LoadFaults size a) h bus y base x new.far) (x8_written x a)
    (faulted_told (Loads size a (debug_written x x8_number a)) (LoadFaults size a) p.last h bus (debug_written x x8_number a) base x new.far r.far r.is
    p.error_is r.program)

-- x8 holds what was loaded
x8_loaded : (x : Hart) (v : ℕ) → length x.core.x ≡ 32 → debug_value (with_core_x x 8 v) x8_number ≡ Some v
x8_loaded x v all = x8_value (with_core_x x 8 v) ∙ ap Some (x8_holds x v all)

pub record LoadOk (size : Size) (address value h : ℕ) (old new : Option Far) : Type 0 where
  pub loaded_at : WhereTold (LoadedAt size address value) old new
  pub serving : Serving h new

pub load_ok : (size : Size) (address value h : ℕ) (far : Option Far) (coming : Option DmiComing) (new : Tells) → address < 2 ^ 64 → IsReady far → Selects h far
    → IsHalted h far
    → LoadRun size address value (tells far coming) new → LoadOk size address value h far new.far
load_ok size address value h None coming new small ready selects halted r =
    let a : r.first.far ≡ None = read_untold x8_number r.x8 (tells None coming) r.first r.saved refl in
    let b : r.mid.far ≡ None = performed_untold (load_word size) address 0 r.first r.mid r.performed a in
    let d : new.far ≡ None = taken_untold r.x8 value r.mid new r.taken b in
    record { loaded_at = d; serving = untold_serving h new.far d }
load_ok size address value h (Some f) coming new small ready selects halted r =
    let s : Site = site_of f in
    let x : Hart = halted.hart in
    let fits : Fits x = fits_of h s ready halted in
    let start : StoodTold h s.unit.bus x s x (Some f) = first_told h f ready halted selects in
    let is8 : r.x8 ≡ x_of x.core 8 = x8_saved r.x8 h s.unit.bus x s x (tells (Some f) coming) r.first start r.saved fits.x8 in
    let sv : StoodTold h s.unit.bus x s x r.first.far = x8_read r.x8 h s.unit.bus x s x (tells (Some f) coming) r.first start r.saved in
    let w : LoadWent size address h s.unit.bus x s r.mid.far = load_went size address h s.unit.bus x s r.first r.mid fits.all small sv r.performed in
    let memory : Memory = (passed w.before s).board.memory in
    let base : Site = accessed memory (passed w.before s) in
    let z : Hart = with_core_x x 8 w.value in
    let rd : TakenTold x8_number value r.x8 h s.unit.bus z base x new.far = taken_told r.x8 value h s.unit.bus z base x r.mid new w.then r.taken in
    let was_ready : MemoryReady memory = (ready_before w.before s ready).memory in
    let value_fits : w.value < 2 ^ 64 = size_small size w.value (loaded_small memory address size w.value was_ready w.is) in
    let value_is : value ≡ w.value = held_as z x8_number rd.held value w.value (x8_loaded x w.value fits.all) rd.held_is rd.value_is value_fits in
    let back : StoodTold h s.unit.bus x base x new.far = x8_taken r.x8 w.value value h s.unit.bus x base x new fits.all is8 rd in
    let e : AccessEnd memory w.before s (site_of back.far) = access_end h x memory w.before s new.far back in
    record {
      loaded_at = record {
        far = back.far;
        is = back.is;
        before = (passed_turns w.before s).harts;
        behind = e.behind;
        value_is = ap (λ (b : Board). loaded b.memory address size) (sym (passed_turns w.before s).board) ∙ w.is ∙ ap Ok (sym value_is);
        access = one_access memory unchanged w.before s (site_of back.far) e refl;
      };
      serving = access_serving h f ready halted memory w.before new.far was_ready back;
    }

-- ---- its faults

load_only : (size : Size) (a h : ℕ) (bus : BusUnit) (x : Hart) (base : Site) (old_count new_count : ℕ) (old new : Tells) (e : AccessFault) → Fits x → a < 2 ^ 64
    → StoodTold h bus x base x old.far → LoadRunFailed size a old_count new_count old new e
    → OnlyMemory a (Faulted (LoadFaults size a) h bus x base x new.far) e
load_only size a h bus x base old_count new_count old new _ fits small st (in_save e f) =
    clean_only a (Faulted (LoadFaults size a) h bus x base x new.far) e
    (read_clean x8_number h bus x base x old_count new_count old new e (record { small = omega arith; other = refl }) (reads_x8 x) st f)
load_only size a h bus x base old_count new_count old new _ fits small st (performing e x8 first saved f loses) =
    lost_only a (Performed (load_word size) a 3 first new) (Faulted (LoadFaults size a) h bus x base x new.far) e loses
    (perform_only (Loads size a (debug_written x x8_number a)) (LoadFaults size a) (load_word size) a h bus x base x old_count new_count first new e
    (x8_read x8 h bus x base x old first st saved) (λ fy m. load_decides size a x m fits.all small fy) f)
load_only size a h bus x base old_count new_count old new _ fits small st (refused x8 first last saved p back) =
    let sv : StoodTold h bus x base x first.far = x8_read x8 h bus x base x old first st saved in
    let f : Faulted (LoadFaults size a) h bus (with_core_x x 8 a) base x last.far = load_faulted size a h bus x base first last fits.all small sv p in (
      refl,
      record {
        before = f.before;
        did = f.did;
        then = x8_put x8 a h bus x (accessed (passed f.before base).board.memory (passed f.before base)) x last new fits.all
            (x8_saved x8 h bus x base x old first st saved fits.x8) f.then back;
      },
    )
load_only size a h bus x base old_count new_count old new _ fits small st (in_restore_behind e x8 first last saved p back) =
    let sv : StoodTold h bus x base x first.far = x8_read x8 h bus x base x old first st saved in
    let f : Faulted (LoadFaults size a) h bus (with_core_x x 8 a) base x last.far = load_faulted size a h bus x base first last fits.all small sv p in
    clean_only a (Faulted (LoadFaults size a) h bus x base x new.far) e
    (write_clean x8_number x8 h bus (with_core_x x 8 a) (accessed (passed f.before base).board.memory (passed f.before base)) x old_count new_count last new e
    (omega arith) (writes_x8 (with_core_x x 8 a)) f.then back)
load_only size a h bus x base old_count new_count old new _ fits small st (taking e x8 first mid saved p f) =
    let w : LoadWent size a h bus x base mid.far = load_went size a h bus x base first mid fits.all small (x8_read x8 h bus x base x old first st saved) p in
    let z : Hart = with_core_x x 8 w.value in
    clean_only a (Faulted (LoadFaults size a) h bus x base x new.far) e
    (take_clean x8 h bus z (accessed (passed w.before base).board.memory (passed w.before base)) x old_count new_count mid new e w.then f)

load_untold : (size : Size) (a old_count new_count : ℕ) (old new : Tells) (e : AccessFault) → old.far ≡ None
    → LoadRunFailed size a old_count new_count old new e → PlainMemory a (new.far ≡ None) e
load_untold size a old_count new_count old new _ none (in_save e f) = read_plain x8_number a (new.far ≡ None) old_count new_count old new e f
load_untold size a old_count new_count old new _ none (performing e x8 first saved f loses) =
    perform_plain (load_word size) a old_count new_count first new e (read_untold x8_number x8 old first saved none) f
load_untold size a old_count new_count old new _ none (refused x8 first last saved p back) =
    (refl, written_untold x8_number x8 last new back (performed_untold (load_word size) a 3 first last p (read_untold x8_number x8 old first saved none)))
load_untold size a old_count new_count old new _ none (in_restore_behind e x8 first last saved p back) =
    write_plain x8_number x8 a (new.far ≡ None) old_count new_count last new e back
load_untold size a old_count new_count old new _ none (taking e x8 first mid saved p f) = take_plain x8 a (new.far ≡ None) old_count new_count mid new e f

-- by what is known of a fault
pub record AccessErr (R : Chip → Option Far → Type 0) (address h : ℕ) (old new : Option Far) (e : AccessFault) : Type 0 where
  pub left : AccessLeft R address old new e
  pub serving : IfMemory (Serving h new) e

pub untold_err : (R : Chip → Option Far → Type 0) (address h : ℕ) (new : Option Far) (e : AccessFault) → PlainMemory address (new ≡ None) e
    → AccessErr R address h None new e
untold_err R address h new (access_fault.Dmi why) p = record { left = tt; serving = tt }
untold_err R address h new (access_fault.Memory at) p = record { left = p; serving = untold_serving h new p.1 }
untold_err R address h new (access_fault.Register number) p = record { left = refl; serving = tt }
untold_err R address h new access_fault.StillBusy p = record { left = tt; serving = tt }
untold_err R address h new (access_fault.Run why) p = absurd p
untold_err R address h new (access_fault.Odd shown) p = record { left = refl; serving = tt }

pub told_err : (R : Chip → Option Far → Type 0) (address h : ℕ) (f : Far) (new : Option Far) (e : AccessFault)
    → OnlyMemory address (R (chip_of f) new × Serving h new) e → AccessErr R address h (Some f) new e
told_err R address h f new (access_fault.Dmi why) p = record { left = tt; serving = tt }
told_err R address h f new (access_fault.Memory at) p = record { left = (p.0, p.1.0); serving = p.1.1 }
told_err R address h f new (access_fault.Register number) p = absurd p
told_err R address h f new access_fault.StillBusy p = record { left = tt; serving = tt }
told_err R address h f new (access_fault.Run why) p = absurd p
told_err R address h f new (access_fault.Odd shown) p = absurd p

load_refused : (size : Size) (address h : ℕ) (f : Far) (ready : SiteReady (site_of f)) (halted : HartHalted h (site_of f).board) (new : Option Far)
    → Faulted (LoadFaults size address) h (site_of f).unit.bus halted.hart (site_of f) halted.hart new
    → LoadRefused size address (chip_of f) new × Serving h new
load_refused size address h f ready halted new w =
    let s : Site = site_of f in
    let memory : Memory = (passed w.before s).board.memory in
    let e : AccessEnd memory w.before s (site_of w.then.far) = access_end h halted.hart memory w.before s new w.then in (
      record {
        far = w.then.far;
        is = w.then.is;
        before = (passed_turns w.before s).harts;
        behind = e.behind;
        why = w.did.why;
        refused = ap (λ (b : Board). loaded b.memory address size) (sym (passed_turns w.before s).board) ∙ w.did.is;
        access = one_access memory unchanged w.before s (site_of w.then.far) e refl;
      },
      access_serving h f ready halted memory w.before new (ready_before w.before s ready).memory w.then,
    )

pub load_err : (size : Size) (address h : ℕ) (far : Option Far) (coming : Option DmiComing) (old_count new_count : ℕ) (new : Tells) (e : AccessFault)
    → address < 2 ^ 64 → IsReady far → Selects h far → IsHalted h far
    → LoadRunFailed size address old_count new_count (tells far coming) new e → AccessErr (LoadRefused size address) address h far new.far e
load_err size address h None coming old_count new_count new e small ready selects halted f =
    untold_err (LoadRefused size address) address h new.far e (load_untold size address old_count new_count (tells None coming) new e refl f)
load_err size address h (Some c) coming old_count new_count new e small ready selects halted f =
    let s : Site = site_of c in
    let x : Hart = halted.hart in
    told_err (LoadRefused size address) address h c new.far e
    (only_map address (Faulted (LoadFaults size address) h s.unit.bus x s x new.far) (LoadRefused size address (chip_of c) new.far × Serving h new.far) e
    (λ w. load_refused size address h c ready halted new.far w)
    (load_only size address h s.unit.bus x s old_count new_count (tells (Some c) coming) new e (fits_of h s ready halted) small
    (first_told h c ready halted selects) f))
