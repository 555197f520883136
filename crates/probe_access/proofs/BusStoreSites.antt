-- A site along a run of stores by the system bus: elements were stored, and an access is under way, or was made, or was refused.
use Rattle.std.proofs.Common.{◌≡◌, ◌∙◌, ◌+◌, ◌^◌, ◌%◌, ℕ, List, Bool, refl, sym, ap, subst}
use Rattle.rv_model.specs.declared.size.Size.{Size}
use Rattle.rv_model.specs.Board.{Board}
use Rattle.rv_model.specs.Memory.{Memory, after_store, store_answer}
use Rattle.rv_model.proofs.MemoryLemmas.{after_store_refused}
use Rattle.rv_model.proofs.WideMemory.{stored_ready}
use Rattle.debug_model.specs.Commands.{high_half}
use Rattle.debug_model.specs.Deeds.{Deed, ran}
use Rattle.debug_model.specs.Module.{Site}
use Rattle.debug_model.specs.SystemBus.{BusDone, BusUnit}
use Rattle.debug_model.specs.Told.{BusReady, SiteReady}
use Rattle.probe_access.specs.Accesses.{OneBusAccess, unchanged}
use Rattle.probe_access.specs.Blocks.{element_at, value_at}
use Rattle.probe_access.specs.BusBlocks.{BusNotStoredOne, BusStoredValues}
use Rattle.probe_access.specs.BusBlocks.BusStoredValues.{further as stored_further}
use Rattle.probe_access.proofs.AccessEnd.{ready_before}
use Rattle.probe_access.proofs.Aside.{accessed, passed}
use Rattle.probe_access.proofs.BusSites.{AtBus, at_bus}
use Rattle.probe_access.proofs.BusStages.{BusStage, done_behind, done_site, stage_ran}
use Rattle.probe_access.proofs.BusStages.BusStage.{waits, made}
use Rattle.probe_access.proofs.BusStoreUnits.{StoreEnd, still_bus, store_end, store_pends, unstored_bus, writing}
use Rattle.probe_access.proofs.BusStoreUnits.StoreEnd.{was_stored, not_stored}
use Rattle.probe_access.proofs.BusStreamOutcomes.{element_behind}
use Rattle.probe_access.proofs.BusStreamSites.{at_ran}
use Rattle.probe_access.proofs.BusTold.{at_start, bus_one_access, bus_serving, works_ready}
use Rattle.probe_access.proofs.ReadyTurns.{passed_turns}
use Rattle.probe_access.proofs.Turns.{unit_passed}

-- ---- where a run stands

-- the upper half of an element's value
abbrev pub own_upper : List ℕ → ℕ → ℕ
own_upper values n = high_half (value_at values n)

-- so many were stored, nothing is under way, and the data holds this upper half
pub record Still (size : Size) (address : ℕ) (values : List ℕ) (s : Site) (collided : Bool) (n upper : ℕ) (t : Site) : Type 0 where
  pub mid : Site
  pub each : BusStoredValues size address values s n mid
  pub ready : SiteReady mid
  pub held : ℕ
  pub upper_is : high_half held ≡ upper
  pub at : AtBus (still_bus size (element_at size address n % 2 ^ 64) held collided) mid t

-- the next is under way
pub record Storing (size : Size) (address : ℕ) (values : List ℕ) (s : Site) (collided : Bool) (n : ℕ) (t : Site) : Type 0 where
  pub mid : Site
  pub each : BusStoredValues size address values s n mid
  pub ready : SiteReady mid
  pub at : AtBus (writing size (element_at size address n) (value_at values n) collided) mid t

-- the next was refused
pub record Unstored (size : Size) (address : ℕ) (values : List ℕ) (s : Site) (collided : Bool) (n : ℕ) (t : Site) : Type 0 where
  pub first : Site
  pub each : BusStoredValues size address values s n first
  pub mid : Site
  pub refused : BusNotStoredOne size (element_at size address n) first mid
  pub ready : SiteReady mid
  pub held : ℕ
  pub at : AtBus (unstored_bus size (element_at size address n) held collided) mid t

-- ---- the access is made

pub data Went (size : Size) (address : ℕ) (values : List ℕ) (s : Site) (collided : Bool) (n : ℕ) (t : Site) : Type 0 where
  writes : Storing size address values s collided n t → Went size address values s collided n t
  still : Still size address values s collided (n + 1) (own_upper values n) t → Went size address values s collided n t
  unstored : Unstored size address values s collided n t → Went size address values s collided n t

-- behind these turns
abbrev put_memory : Size → ℕ → ℕ → List ℕ → Site → Memory
put_memory size address value before mid = after_store (passed before mid).board.memory address size value

abbrev put_site : Size → ℕ → ℕ → List ℕ → Site → Site
put_site size address value before mid = accessed (put_memory size address value before mid) (passed before mid)

put_ready : (size : Size) (address value : ℕ) (before : List ℕ) (mid : Site) → SiteReady mid → SiteReady (put_site size address value before mid)
put_ready size address value before mid ready =
    let z : Site = put_site size address value before mid in
    bus_serving z.unit.bus (put_memory size address value before mid) before mid z ready
    (stored_ready (passed before mid).board.memory address size value (ready_before before mid ready).memory)
    (subst (λ k. BusReady k.bus) (sym (unit_passed before mid)) ready.unit.bus) (at_start z)

put_access : (size : Size) (address value : ℕ) (before : List ℕ) (mid : Site) (m : Memory → Memory)
    → put_memory size address value before mid ≡ m (passed before mid).board.memory
    → OneBusAccess m (passed_turns before mid).harts
    (passed_turns (at_start (put_site size address value before mid)).harts (put_site size address value before mid)).harts mid
    (put_site size address value before mid)
put_access size address value before mid m is =
    let z : Site = put_site size address value before mid in
    bus_one_access z.unit.bus (put_memory size address value before mid) m before mid z (at_start z) is

stage_end : (size : Size) (address : ℕ) (values : List ℕ) (s : Site) (collided : Bool) (n : ℕ) (mid t : Site) (before behind : List ℕ)
    → BusStoredValues size address values s n mid → SiteReady mid
    → t ≡ at_bus (done_behind before (writing size (element_at size address n) (value_at values n) collided) mid).unit
    (passed behind (done_site before (writing size (element_at size address n) (value_at values n) collided) mid))
    → StoreEnd size (element_at size address n) (value_at values n) collided (passed before mid).board.memory → Went size address values s collided n t
stage_end size address values s collided n mid t before behind each ready is (was_stored done taken makes) =
    let a : ℕ = element_at size address n in
    let value : ℕ = value_at values n in
    let z : Site = put_site size a value before mid in
    Went.still (record {
      mid = z;
      each = stored_further n mid z each (record {
        before = (passed_turns before mid).harts;
        behind = (passed_turns (at_start z).harts z).harts;
        done = done;
        taken = ap (λ (b : Board). store_answer b.memory a size) (sym (passed_turns before mid).board) ∙ taken;
        access = put_access size a value before mid (λ k. after_store k a size value) refl;
      });
      ready = put_ready size a value before mid ready;
      held = value;
      upper_is = refl;
      at = subst (λ x. AtBus (still_bus size x value collided) z t) (element_behind size address n) (record {
        harts = behind;
        is = subst (λ (d : BusDone). t ≡ at_bus d.unit (passed behind (accessed d.memory (passed before mid)))) makes is;
      });
    })
stage_end size address values s collided n mid t before behind each ready is (not_stored why refuses makes) =
    let a : ℕ = element_at size address n in
    let value : ℕ = value_at values n in
    let z : Site = put_site size a value before mid in
    Went.unstored (record {
      first = mid;
      each = each;
      mid = z;
      refused = record {
        before = (passed_turns before mid).harts;
        behind = (passed_turns (at_start z).harts z).harts;
        why = why;
        refused = ap (λ (b : Board). store_answer b.memory a size) (sym (passed_turns before mid).board) ∙ refuses;
        access = put_access size a value before mid unchanged (after_store_refused (passed before mid).board.memory a size value why refuses);
      };
      ready = put_ready size a value before mid ready;
      held = value;
      at = record {
        harts = behind;
        is = subst (λ (d : BusDone). t ≡ at_bus d.unit (passed behind (accessed d.memory (passed before mid)))) makes is;
      };
    })

pub stage_went : (size : Size) (address : ℕ) (values : List ℕ) (s : Site) (collided : Bool) (n : ℕ) (mid t : Site) → BusStoredValues size address values s n mid
    → SiteReady mid → BusStage (writing size (element_at size address n) (value_at values n) collided) mid t → Went size address values s collided n t
stage_went size address values s collided n mid t each ready (waits harts is) =
    Went.writes (record { mid = mid; each = each; ready = ready; at = record { harts = harts; is = is } })
stage_went size address values s collided n mid t each ready (made before behind is) =
    stage_end size address values s collided n mid t before behind each ready is
    (store_end size (element_at size address n) (value_at values n) collided (passed before mid).board.memory)

-- ---- deeds

pub storing_ran : (size : Size) (address : ℕ) (values : List ℕ) (s : Site) (collided : Bool) (n : ℕ) (x : Site) (ds : List Deed)
    → Storing size address values s collided n x → Went size address values s collided n (ran ds x)
storing_ran size address values s collided n x ds w =
    let p : BusUnit = writing size (element_at size address n) (value_at values n) collided in
    stage_went size address values s collided n w.mid (ran ds x) w.each w.ready
    (stage_ran p w.mid ds x (works_ready w.mid w.ready) (store_pends size (element_at size address n) (value_at values n) collided) (waits w.at.harts w.at.is))

pub still_ran : (size : Size) (address : ℕ) (values : List ℕ) (s : Site) (collided : Bool) (n upper : ℕ) (x : Site) (ds : List Deed)
    → Still size address values s collided n upper x → Still size address values s collided n upper (ran ds x)
still_ran size address values s collided n upper x ds r = record {
  mid = r.mid;
  each = r.each;
  ready = r.ready;
  held = r.held;
  upper_is = r.upper_is;
  at = at_ran (still_bus size (element_at size address n % 2 ^ 64) r.held collided) r.mid x ds r.ready refl r.at;
}

pub unstored_ran : (size : Size) (address : ℕ) (values : List ℕ) (s : Site) (collided : Bool) (n : ℕ) (x : Site) (ds : List Deed)
    → Unstored size address values s collided n x → Unstored size address values s collided n (ran ds x)
unstored_ran size address values s collided n x ds r = record {
  first = r.first;
  each = r.each;
  mid = r.mid;
  refused = r.refused;
  ready = r.ready;
  held = r.held;
  at = at_ran (unstored_bus size (element_at size address n) r.held collided) r.mid x ds r.ready refl r.at;
}
