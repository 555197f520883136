-- The clauses of the calls that access memory by the system bus, where the chip is told.
use Rattle.std.proofs.Common.{◌≡◌, ◌∙◌, ◌<◌, ◌^◌, ℕ, List, Bool, true, false, Option, Some, None, Ok, refl, sym, ap, subst, arith, inl, inr, ◌⊎◌, [], ◌∷◌}
use Rattle.std.proofs.lemmas.Bool.{false≢true}
use Rattle.rv_model.specs.declared.size.Size.{Size}
use Rattle.rv_model.specs.declared.size.Size.TheVariants.{B1}
use Rattle.rv_model.specs.Board.{Board}
use Rattle.rv_model.specs.Memory.{Memory, after_store, is_aligned, loaded, store_answer}
use Rattle.rv_model.specs.Size.{count_of}
use Rattle.rv_model.proofs.MemoryLemmas.{after_store_refused}
use Rattle.debug_model.specs.Addresses.{sbcs_address}
use Rattle.debug_model.specs.declared.bus_access.BusAccess.TheVariants.{Read, Write}
use Rattle.debug_model.specs.declared.dmi.DmiFault.{DmiFault}
use Rattle.debug_model.specs.declared.sberror.Sberror.TheVariants.{Fine, Address}
use Rattle.debug_model.specs.Chip.{Chip}
use Rattle.debug_model.specs.Dmi.{DmiComing}
use Rattle.debug_model.specs.Module.{Site}
use Rattle.debug_model.specs.Scan.{WhereTold}
use Rattle.debug_model.specs.SystemBus.{BusUnit}
use Rattle.rv_model.specs.Widths.{MemoryReady}
use Rattle.debug_model.specs.Told.{Far, IsReady, SiteReady, site_of}
use Rattle.probe_access.specs.declared.fault.AccessFault.{AccessFault}
use Rattle.probe_access.specs.declared.fault.AccessFault.TheVariants as access_fault
use Rattle.probe_access.specs.declared.odd.OddStatus.{OddStatus}
use Rattle.probe_run.specs.Acts.{Tells, tells}
use Rattle.probe_access.specs.Accesses.{AccessLeft, BusLoadRefused, BusLoadedAt, BusStoreRefused, BusStoredAt, IfMemory, unchanged}
use Rattle.probe_access.specs.BusRuns.{
  BusEndFailed,
  BusFetched,
  BusLoadFailed,
  BusLoaded,
  BusOddly,
  BusPolled,
  BusRefused,
  BusStoreFailed,
  BusStored,
  bus_collided,
  bus_error,
  read_started,
  write_started,
}
use Rattle.probe_access.specs.BusRuns.BusLoadFailed.{in_start as load_start, in_end as load_end, in_fetch as load_fetch}
use Rattle.probe_access.specs.BusRuns.BusStoreFailed.{in_start as store_start, in_end as store_end}
use Rattle.probe_run.specs.Acts.{Did}
use Rattle.probe_run.specs.Acts.Act.{Put}
use Rattle.probe_run.specs.Opening.{clears_sberror}
use Rattle.rv_model.proofs.WideMemory.{loaded_small, stored_ready}
use Rattle.probe_access.proofs.AccessEnd.{ready_before}
use Rattle.probe_access.proofs.Along.{AtSites, did_sites, did_untold}
use Rattle.probe_access.proofs.Aside.{accessed, passed}
use Rattle.probe_access.proofs.BusSites.{AtBus}
use Rattle.probe_access.proofs.BusStages.{BusMade}
use Rattle.probe_access.proofs.BusTold.{
  FetchedAt,
  MadeAs,
  bus_one_access,
  bus_serving,
  fetched_at,
  made_as,
  read_begun,
  read_made,
  refused_cleared,
  value_whole,
  works_accessed,
  works_ready,
  write_begun,
  write_made,
}
use Rattle.probe_access.proofs.BusUnits.{ReadEnd, WriteEnd, bus_at, error_number, read_end, shown_by, write_end}
use Rattle.probe_access.proofs.BusUnits.ReadEnd.{was_read, not_read}
use Rattle.probe_access.proofs.BusUnits.WriteEnd.{was_written, not_written}
use Rattle.probe_access.proofs.ReadyTurns.{passed_turns}

pub two_not_zero : (n : ℕ) → n ≡ 2 → n ≡ 0 → ⊥
two_not_zero n a b = omega arith

-- ---- from the start to the last poll

abbrev pub reading : Size → ℕ → Site → BusUnit
reading size address s = bus_at true size address s.unit.bus.value Fine (Some Read)

abbrev pub writing : Size → ℕ → ℕ → BusUnit
writing size address value = bus_at false size address value Fine (Some Write)

pub record Finished (p : BusUnit) (last : ℕ) (f : Far) (told : Option Far) : Type 0 where
  pub far : Far
  pub is : told ≡ Some far
  pub made : BusMade p last (site_of f) (site_of far)

pub load_finished : (size : Size) (address last : ℕ) (f : Far) (coming : Option DmiComing) (started ended : Tells) → SiteReady (site_of f)
    → is_aligned address size ≡ true → Did (tells (Some f) coming) (read_started size address) started
    → BusPolled last started ended → Finished (reading size address (site_of f)) last f ended.far
load_finished size address last f coming started ended ready aligned did polled =
    let s : Site = site_of f in
    let one : AtSites (read_started size address) f started.far = did_sites (tells (Some f) coming) (read_started size address) started f did refl in
    let two : AtSites _ one.far ended.far = did_sites started _ ended one.far polled.did one.is in
    record {
      far = two.far;
      is = two.is;
      made = read_made size address s.unit.bus.value last polled.words s (site_of one.far) (site_of two.far) (works_ready s ready)
          (read_begun size address s (site_of one.far) ready aligned one.acts_are) polled.idle two.acts_are;
    }

pub store_finished : (size : Size) (address value last : ℕ) (f : Far) (coming : Option DmiComing) (started ended : Tells) → SiteReady (site_of f)
    → is_aligned address size ≡ true → Did (tells (Some f) coming) (write_started size address value) started
    → BusPolled last started ended → Finished (writing size address value) last f ended.far
store_finished size address value last f coming started ended ready aligned did polled =
    let s : Site = site_of f in
    let one : AtSites (write_started size address value) f started.far =
    did_sites (tells (Some f) coming) (write_started size address value) started f did refl in
    let two : AtSites _ one.far ended.far = did_sites started _ ended one.far polled.did one.is in
    record {
      far = two.far;
      is = two.is;
      made = write_made size address value last polled.words s (site_of one.far) (site_of two.far) (works_ready s ready)
          (write_begun size address value s (site_of one.far) ready aligned one.acts_are) polled.idle two.acts_are;
    }

abbrev pub memory_at : List ℕ → Site → Memory
memory_at before s = (passed before s).board.memory

told_ready : (told : Option Far) (f : Far) → told ≡ Some f → SiteReady (site_of f) → IsReady told
told_ready told f is ready = subst (λ (o : Option Far). IsReady o) (sym is) ready

-- ---- a load

pub record BusLoadOk (size : Size) (address value : ℕ) (old new : Option Far) : Type 0 where
  pub loaded_at : WhereTold (BusLoadedAt size address value) old new
  pub ready : IsReady new

load_by : (size : Size) (address value last : ℕ) (f : Far) (ended new : Tells) → SiteReady (site_of f)
    → (w : Finished (reading size address (site_of f)) last f ended.far) → bus_error last ≡ 0 → BusFetched size value ended new
    → ReadEnd size address (site_of f).unit.bus.value (memory_at w.made.before (site_of f)) → BusLoadOk size address value (Some f) new.far
load_by size address value last f ended new ready w fine fetched (was_read v is done) =
    let s : Site = site_of f in
    let m : Memory = memory_at w.made.before s in
    let u : BusUnit = bus_at true size address v Fine None in
    let a : MadeAs u m w.made.before last s (site_of w.far) = made_as (reading size address s) u m last s (site_of w.far) w.made done in
    let at : AtSites _ w.far new.far = did_sites ended _ new w.far fetched.did w.is in
    let got : FetchedAt u v fetched.low fetched.high (accessed m (passed w.made.before s)) (site_of at.far) =
    fetched_at true size address v fetched.low fetched.high (accessed m (passed w.made.before s)) (site_of w.far) (site_of at.far)
    (works_accessed m w.made.before s (works_ready s ready)) a.after at.acts_are in
    let held : MemoryReady m = (ready_before w.made.before s ready).memory in
    let small : v < 256 ^ count_of size = loaded_small m address size v held is in
    let value_is : value ≡ v = fetched.is ∙ value_whole size v fetched.low fetched.high small got.low_is got.high_is in
    record {
      loaded_at = record {
        far = at.far;
        is = at.is;
        before = (passed_turns w.made.before s).harts;
        behind = (passed_turns got.after.harts (accessed m (passed w.made.before s))).harts;
        value_is = ap (λ (b : Board). loaded b.memory address size) (sym (passed_turns w.made.before s).board) ∙ is ∙ ap Ok (sym value_is);
        access = bus_one_access u m unchanged w.made.before s (site_of at.far) got.after refl;
      };
      ready = told_ready new.far at.far at.is (bus_serving u m w.made.before s (site_of at.far) ready held
          (record { idle = refl; fine = refl; no_busyerror = refl }) got.after);
    }
load_by size address value last f ended new ready w fine fetched (not_read why is done) =
    let s : Site = site_of f in
    let m : Memory = memory_at w.made.before s in
    let u : BusUnit = bus_at true size address s.unit.bus.value Address None in
    let a : MadeAs u m w.made.before last s (site_of w.far) = made_as (reading size address s) u m last s (site_of w.far) w.made done in
    absurd (two_not_zero (bus_error last) (ap bus_error a.shows ∙ (shown_by true size false true).error_is) fine)

pub bus_load_ok : (size : Size) (address value : ℕ) (far : Option Far) (coming : Option DmiComing) (new : Tells) → IsReady far → is_aligned address size ≡ true
    → BusLoaded size address value (tells far coming) new → BusLoadOk size address value far new.far
bus_load_ok size address value None coming new ready aligned r =
    let end : new.far ≡ None = did_untold r.ended _ new r.fetched.did
    (did_untold r.started _ r.ended r.ends.polled.did (did_untold (tells None coming) _ r.started r.starts refl)) in
    record { loaded_at = end; ready = subst (λ (o : Option Far). IsReady o) (sym end) tt }
bus_load_ok size address value (Some f) coming new ready aligned r =
    let w : Finished (reading size address (site_of f)) r.ends.last f r.ended.far =
    load_finished size address r.ends.last f coming r.started r.ended ready aligned r.starts r.ends.polled in
    load_by size address value r.ends.last f r.ended new ready w r.ends.fine r.fetched
    (read_end size address (site_of f).unit.bus.value (memory_at w.made.before (site_of f)))

-- ---- a store

pub record BusStoreOk (size : Size) (address value : ℕ) (old new : Option Far) : Type 0 where
  pub stored_at : WhereTold (BusStoredAt size address value) old new
  pub ready : IsReady new

store_by : (size : Size) (address value last : ℕ) (f : Far) (new : Tells) → SiteReady (site_of f) → (w : Finished (writing size address value) last f new.far)
    → bus_error last ≡ 0 → WriteEnd size address value (memory_at w.made.before (site_of f))
    → BusStoreOk size address value (Some f) new.far
store_by size address value last f new ready w fine (was_written done is makes) =
    let s : Site = site_of f in
    let m : Memory = memory_at w.made.before s in
    let n : Memory = after_store m address size value in
    let u : BusUnit = bus_at false size address value Fine None in
    let a : MadeAs u n w.made.before last s (site_of w.far) = made_as (writing size address value) u n last s (site_of w.far) w.made makes in
    record {
      stored_at = record {
        far = w.far;
        is = w.is;
        before = (passed_turns w.made.before s).harts;
        behind = (passed_turns a.after.harts (accessed n (passed w.made.before s))).harts;
        done = done;
        taken = ap (λ (b : Board). store_answer b.memory address size) (sym (passed_turns w.made.before s).board) ∙ is;
        access = bus_one_access u n (λ k. after_store k address size value) w.made.before s (site_of w.far) a.after refl;
      };
      ready = told_ready new.far w.far w.is (bus_serving u n w.made.before s (site_of w.far) ready
          (stored_ready m address size value (ready_before w.made.before s ready).memory) (record { idle = refl; fine = refl; no_busyerror = refl }) a.after);
    }
store_by size address value last f new ready w fine (not_written why is makes) =
    let s : Site = site_of f in
    let n : Memory = after_store (memory_at w.made.before s) address size value in
    let u : BusUnit = bus_at false size address value Address None in
    let a : MadeAs u n w.made.before last s (site_of w.far) = made_as (writing size address value) u n last s (site_of w.far) w.made makes in
    absurd (two_not_zero (bus_error last) (ap bus_error a.shows ∙ (shown_by false size false true).error_is) fine)

pub bus_store_ok : (size : Size) (address value : ℕ) (far : Option Far) (coming : Option DmiComing) (new : Tells) → IsReady far
    → is_aligned address size ≡ true → BusStored size address value (tells far coming) new → BusStoreOk size address value far new.far
bus_store_ok size address value None coming new ready aligned r =
    let end : new.far ≡ None = did_untold r.started _ new r.ends.polled.did (did_untold (tells None coming) _ r.started r.starts refl) in
    record { stored_at = end; ready = subst (λ (o : Option Far). IsReady o) (sym end) tt }
bus_store_ok size address value (Some f) coming new ready aligned r =
    let w : Finished (writing size address value) r.ends.last f new.far =
    store_finished size address value r.ends.last f coming r.started new ready aligned r.starts r.ends.polled in
    store_by size address value r.ends.last f new ready w r.ends.fine (write_end size address value (memory_at w.made.before (site_of f)))

-- ---- faults

pub record BusErr (R : Chip → Option Far → Type 0) (address : ℕ) (old new : Option Far) (e : AccessFault) : Type 0 where
  pub left : AccessLeft R address old new e
  pub ready : IfMemory (IsReady new) e

-- what is said of a refusal and of another error is all that has to be said
end_err : (R : Chip → Option Far → Type 0) (address : ℕ) (old : Option Far) (started new : Tells) (old_count new_count : ℕ) (e : AccessFault)
    → (BusRefused started new → WhereTold R old new.far × IsReady new.far)
    → ((shown : OddStatus) → BusOddly shown started new → old ≡ None) → BusEndFailed address old_count new_count started new e → BusErr R address old new.far e
end_err R address old started new old_count new_count (access_fault.Dmi why) refused odd f = record { left = tt; ready = tt }
end_err R address old started new old_count new_count (access_fault.Memory at) refused odd f = let r : WhereTold R old new.far × IsReady new.far =
    refused f.1 in record { left = (f.0, r.0); ready = r.1 }
end_err R address old started new old_count new_count (access_fault.Register number) refused odd f = absurd f
end_err R address old started new old_count new_count access_fault.StillBusy refused odd f = record { left = tt; ready = tt }
end_err R address old started new old_count new_count (access_fault.Run why) refused odd f = absurd f
end_err R address old started new old_count new_count (access_fault.Odd shown) refused odd f = record { left = odd shown f; ready = tt }

link_err : (R : Chip → Option Far → Type 0) (address : ℕ) (old new : Option Far) (e : AccessFault) (why : DmiFault) → e ≡ access_fault.Dmi why
    → BusErr R address old new e
link_err R address old new e why is = subst (λ (x : AccessFault). BusErr R address old new x) (sym is) (record { left = tt; ready = tt })

refused_untold : (R : Chip → Option Far → Type 0) (started new : Tells) → started.far ≡ None → BusRefused started new
    → WhereTold R None new.far × IsReady new.far
refused_untold R started new none r =
    let end : new.far ≡ None = did_untold r.mid _ new r.cleared (did_untold started _ r.mid r.polled.did none) in
    (end, subst (λ (o : Option Far). IsReady o) (sym end) tt)

-- ---- a load that failed

load_refused : (size : Size) (address last : ℕ) (f : Far) (mid new : Tells) → SiteReady (site_of f)
    → (w : Finished (reading size address (site_of f)) last f mid.far) → bus_error last ≡ 2 → Did mid (Put sbcs_address clears_sberror ∷ []) new
    → ReadEnd size address (site_of f).unit.bus.value (memory_at w.made.before (site_of f))
    → WhereTold (BusLoadRefused size address) (Some f) new.far × IsReady new.far
load_refused size address last f mid new ready w outside cleared (was_read v is done) =
    let s : Site = site_of f in
    let m : Memory = memory_at w.made.before s in
    let u : BusUnit = bus_at true size address v Fine None in
    let a : MadeAs u m w.made.before last s (site_of w.far) = made_as (reading size address s) u m last s (site_of w.far) w.made done in
    absurd (two_not_zero (bus_error last) outside (ap bus_error a.shows ∙ (shown_by true size false false).error_is))
load_refused size address last f mid new ready w outside cleared (not_read why is done) =
    let s : Site = site_of f in
    let m : Memory = memory_at w.made.before s in
    let u : BusUnit = bus_at true size address s.unit.bus.value Address None in
    let v : BusUnit = bus_at false B1 address s.unit.bus.value Fine None in
    let a : MadeAs u m w.made.before last s (site_of w.far) = made_as (reading size address s) u m last s (site_of w.far) w.made done in
    let at : AtSites _ w.far new.far = did_sites mid _ new w.far cleared w.is in
    let fine : AtBus v (accessed m (passed w.made.before s)) (site_of at.far) =
    refused_cleared true size address s.unit.bus.value (accessed m (passed w.made.before s)) (site_of w.far) (site_of at.far)
    (works_accessed m w.made.before s (works_ready s ready)) a.after at.acts_are in (
      record {
        far = at.far;
        is = at.is;
        before = (passed_turns w.made.before s).harts;
        behind = (passed_turns fine.harts (accessed m (passed w.made.before s))).harts;
        why = why;
        refused = ap (λ (b : Board). loaded b.memory address size) (sym (passed_turns w.made.before s).board) ∙ is;
        access = bus_one_access v m unchanged w.made.before s (site_of at.far) fine refl;
      },
      told_ready new.far at.far at.is (bus_serving v m w.made.before s (site_of at.far) ready (ready_before w.made.before s ready).memory
          (record { idle = refl; fine = refl; no_busyerror = refl }) fine),
    )

-- another error never comes
no_other : (on_address : Bool) (size : Size) (address value last : ℕ) (outside : Bool) → bus_error last ≡ error_number outside → bus_collided last ≡ false
    → (bus_error last ≡ 2 → ⊥) → ((bus_error last ≡ 0 → ⊥) ⊎ (bus_collided last ≡ true)) → ⊥
no_other on_address size address value last true error alone other some = other error
no_other on_address size address value last false error alone other (inl some) = some error
no_other on_address size address value last false error alone other (inr some) = false≢true (sym alone ∙ some)

load_odd : (size : Size) (address last : ℕ) (f : Far) (told : Option Far) → (w : Finished (reading size address (site_of f)) last f told)
    → (bus_error last ≡ 2 → ⊥) → ((bus_error last ≡ 0 → ⊥) ⊎ (bus_collided last ≡ true))
    → ReadEnd size address (site_of f).unit.bus.value (memory_at w.made.before (site_of f)) → ⊥
load_odd size address last f told w other some (was_read v is done) =
    let s : Site = site_of f in
    let a : MadeAs (bus_at true size address v Fine None) (memory_at w.made.before s) w.made.before last s (site_of w.far) =
    made_as (reading size address s) _ _ last s (site_of w.far) w.made done in
    no_other true size address v last false (ap bus_error a.shows ∙ (shown_by true size false false).error_is)
    (ap bus_collided a.shows ∙ (shown_by true size false false).alone) other some
load_odd size address last f told w other some (not_read why is done) =
    let s : Site = site_of f in
    let a : MadeAs (bus_at true size address s.unit.bus.value Address None) (memory_at w.made.before s) w.made.before last s (site_of w.far) =
    made_as (reading size address s) _ _ last s (site_of w.far) w.made done in
    no_other true size address s.unit.bus.value last true (ap bus_error a.shows ∙ (shown_by true size false true).error_is)
    (ap bus_collided a.shows ∙ (shown_by true size false true).alone) other some

load_end_err : (size : Size) (address : ℕ) (far : Option Far) (coming : Option DmiComing) (started new : Tells) (old_count new_count : ℕ) (e : AccessFault)
    → IsReady far → is_aligned address size ≡ true → Did (tells far coming) (read_started size address) started
    → BusEndFailed address old_count new_count started new e → BusErr (BusLoadRefused size address) address far new.far e
load_end_err size address None coming started new old_count new_count e ready aligned did f =
    end_err (BusLoadRefused size address) address None started new old_count new_count e
    (refused_untold (BusLoadRefused size address) started new (did_untold (tells None coming) _ started did refl)) (λ shown o. refl) f
load_end_err size address (Some c) coming started new old_count new_count e ready aligned did f =
    end_err (BusLoadRefused size address) address (Some c) started new old_count new_count e
    (λ r.
    let w : Finished (reading size address (site_of c)) r.last c r.mid.far =
    load_finished size address r.last c coming started r.mid ready aligned did r.polled in
    load_refused size address r.last c r.mid new ready w r.outside r.cleared
    (read_end size address (site_of c).unit.bus.value (memory_at w.made.before (site_of c))))
    (λ shown o.
    let w : Finished (reading size address (site_of c)) o.last c new.far = load_finished size address o.last c coming started new ready aligned did o.polled in
    absurd (load_odd size address o.last c new.far w o.other o.some (read_end size address (site_of c).unit.bus.value (memory_at w.made.before (site_of c)))))
    f

pub bus_load_err : (size : Size) (address : ℕ) (far : Option Far) (coming : Option DmiComing) (new : Tells) (old_count new_count : ℕ) (e : AccessFault)
    → IsReady far → is_aligned address size ≡ true
    → BusLoadFailed size address old_count new_count (tells far coming) new e → BusErr (BusLoadRefused size address) address far new.far e
bus_load_err size address far coming new old_count new_count e ready aligned (load_start why is b) =
    link_err (BusLoadRefused size address) address far new.far e why is
bus_load_err size address far coming new old_count new_count e ready aligned (load_end started did f) =
    load_end_err size address far coming started new old_count new_count e ready aligned did f
bus_load_err size address far coming new old_count new_count e ready aligned (load_fetch started ended did ends why is b) =
    link_err (BusLoadRefused size address) address far new.far e why is

-- ---- a store that failed

store_refused : (size : Size) (address value last : ℕ) (f : Far) (mid new : Tells) → SiteReady (site_of f)
    → (w : Finished (writing size address value) last f mid.far) → bus_error last ≡ 2 → Did mid (Put sbcs_address clears_sberror ∷ []) new
    → WriteEnd size address value (memory_at w.made.before (site_of f)) → WhereTold (BusStoreRefused size address) (Some f) new.far × IsReady new.far
store_refused size address value last f mid new ready w outside cleared (was_written done is makes) =
    let s : Site = site_of f in
    let n : Memory = after_store (memory_at w.made.before s) address size value in
    let u : BusUnit = bus_at false size address value Fine None in
    let a : MadeAs u n w.made.before last s (site_of w.far) = made_as (writing size address value) u n last s (site_of w.far) w.made makes in
    absurd (two_not_zero (bus_error last) outside (ap bus_error a.shows ∙ (shown_by false size false false).error_is))
store_refused size address value last f mid new ready w outside cleared (not_written why is makes) =
    let s : Site = site_of f in
    let m : Memory = memory_at w.made.before s in
    let n : Memory = after_store m address size value in
    let u : BusUnit = bus_at false size address value Address None in
    let v : BusUnit = bus_at false B1 address value Fine None in
    let a : MadeAs u n w.made.before last s (site_of w.far) = made_as (writing size address value) u n last s (site_of w.far) w.made makes in
    let at : AtSites _ w.far new.far = did_sites mid _ new w.far cleared w.is in
    let fine : AtBus v (accessed n (passed w.made.before s)) (site_of at.far) =
    refused_cleared false size address value (accessed n (passed w.made.before s)) (site_of w.far) (site_of at.far)
    (works_accessed n w.made.before s (works_ready s ready)) a.after at.acts_are in (
      record {
        far = at.far;
        is = at.is;
        before = (passed_turns w.made.before s).harts;
        behind = (passed_turns fine.harts (accessed n (passed w.made.before s))).harts;
        why = why;
        refused = ap (λ (b : Board). store_answer b.memory address size) (sym (passed_turns w.made.before s).board) ∙ is;
        access = bus_one_access v n unchanged w.made.before s (site_of at.far) fine (after_store_refused m address size value why is);
      },
      told_ready new.far at.far at.is
          (bus_serving v n w.made.before s (site_of at.far) ready (stored_ready m address size value (ready_before w.made.before s ready).memory)
          (record { idle = refl; fine = refl; no_busyerror = refl }) fine),
    )

store_odd : (size : Size) (address value last : ℕ) (f : Far) (told : Option Far) → (w : Finished (writing size address value) last f told)
    → (bus_error last ≡ 2 → ⊥) → ((bus_error last ≡ 0 → ⊥) ⊎ (bus_collided last ≡ true))
    → WriteEnd size address value (memory_at w.made.before (site_of f)) → ⊥
store_odd size address value last f told w other some (was_written done is makes) =
    let s : Site = site_of f in
    let a : MadeAs (bus_at false size address value Fine None) (after_store (memory_at w.made.before s) address size value) w.made.before last s
    (site_of w.far) = made_as (writing size address value) _ _ last s (site_of w.far) w.made makes in
    no_other false size address value last false (ap bus_error a.shows ∙ (shown_by false size false false).error_is)
    (ap bus_collided a.shows ∙ (shown_by false size false false).alone) other some
store_odd size address value last f told w other some (not_written why is makes) =
    let s : Site = site_of f in
    let a : MadeAs (bus_at false size address value Address None) (after_store (memory_at w.made.before s) address size value) w.made.before last s
    (site_of w.far) = made_as (writing size address value) _ _ last s (site_of w.far) w.made makes in
    no_other false size address value last true (ap bus_error a.shows ∙ (shown_by false size false true).error_is)
    (ap bus_collided a.shows ∙ (shown_by false size false true).alone) other some

store_end_err : (size : Size) (address value : ℕ) (far : Option Far) (coming : Option DmiComing) (started new : Tells) (old_count new_count : ℕ)
    (e : AccessFault) → IsReady far → is_aligned address size ≡ true
    → Did (tells far coming) (write_started size address value) started → BusEndFailed address old_count new_count started new e
    → BusErr (BusStoreRefused size address) address far new.far e
store_end_err size address value None coming started new old_count new_count e ready aligned did f =
    end_err (BusStoreRefused size address) address None started new old_count new_count e
    (refused_untold (BusStoreRefused size address) started new (did_untold (tells None coming) _ started did refl)) (λ shown o. refl) f
store_end_err size address value (Some c) coming started new old_count new_count e ready aligned did f =
    end_err (BusStoreRefused size address) address (Some c) started new old_count new_count e
    (λ r.
    let w : Finished (writing size address value) r.last c r.mid.far =
    store_finished size address value r.last c coming started r.mid ready aligned did r.polled in
    store_refused size address value r.last c r.mid new ready w r.outside r.cleared (write_end size address value (memory_at w.made.before (site_of c))))
    (λ shown o.
    let w : Finished (writing size address value) o.last c new.far = store_finished size address value o.last c coming started new ready aligned did o.polled in
    absurd (store_odd size address value o.last c new.far w o.other o.some (write_end size address value (memory_at w.made.before (site_of c)))))
    f

pub bus_store_err : (size : Size) (address value : ℕ) (far : Option Far) (coming : Option DmiComing) (new : Tells) (old_count new_count : ℕ) (e : AccessFault)
    → IsReady far → is_aligned address size ≡ true
    → BusStoreFailed size address value old_count new_count (tells far coming) new e → BusErr (BusStoreRefused size address) address far new.far e
bus_store_err size address value far coming new old_count new_count e ready aligned (store_start why is b) =
    link_err (BusStoreRefused size address) address far new.far e why is
bus_store_err size address value far coming new old_count new_count e ready aligned (store_end started did f) =
    store_end_err size address value far coming started new old_count new_count e ready aligned did f
