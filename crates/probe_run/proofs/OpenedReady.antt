-- Behind an opening: what told no chip tells none, and a chip that was as loaded is ready with hart 0 selected.
use Rattle.std.proofs.Common.{◌≡◌, Option, Some, None, refl, sym, subst}
use Rattle.debug_model.specs.Told.{Far, IsAsLoaded, IsReady, Selects}
use Rattle.probe_run.specs.Acts.{Tells}
use Rattle.probe_run.specs.Opening.{BusCleared, BusFits, Opened, OpenedChip, OpensLoaded, Then, UpToModule}
use Rattle.probe_run.proofs.LoadedCalls.{opens_loaded}
use Rattle.probe_run.proofs.RanLemmas.{none_ran}

pub opened_none : (old new : Tells) → old.far ≡ None → Opened old new → new.far ≡ None
opened_none old new is o =
    let t : UpToModule old o.first.first.mid = o.first.first.first in
    let b : Then BusFits BusCleared o.mid new = o.second in
    let in_transport : t.mid.far ≡ None = none_ran old is _ t.mid t.first.1.did in
    let active : o.first.first.mid.far ≡ None = none_ran t.mid in_transport _ o.first.first.mid t.second.did in
    let looked : o.first.mid.far ≡ None = none_ran o.first.first.mid active _ o.first.mid o.first.first.second.1.did in
    let fit : o.mid.far ≡ None = none_ran o.first.mid looked _ o.mid o.first.second.1.did in
    let on_bus : b.mid.far ≡ None = none_ran o.mid fit _ b.mid b.first.1.did in
    none_ran b.mid on_bus _ new b.second

ready_by : (old new : Tells) (told : Option Far) → old.far ≡ told → Opened old new → IsAsLoaded told → IsReady new.far
ready_by old new None is o loaded = subst IsReady (sym (opened_none old new is o)) tt
ready_by old new (Some f) is o loaded =
    let c : OpenedChip f new.far = subst (λ t. OpensLoaded t new.far) is (opens_loaded old new o) loaded in
    subst IsReady (sym c.is) c.ready

selects_by : (old new : Tells) (told : Option Far) → old.far ≡ told → Opened old new → IsAsLoaded told → Selects 0 new.far
selects_by old new None is o loaded = subst (Selects 0) (sym (opened_none old new is o)) tt
selects_by old new (Some f) is o loaded =
    let c : OpenedChip f new.far = subst (λ t. OpensLoaded t new.far) is (opens_loaded old new o) loaded in
    subst (Selects 0) (sym c.is) c.selected

pub opened_ready : (old new : Tells) → Opened old new → IsAsLoaded old.far → IsReady new.far
opened_ready old new o loaded = ready_by old new old.far refl o loaded

pub opened_selects : (old new : Tells) → Opened old new → IsAsLoaded old.far → Selects 0 new.far
opened_selects old new o loaded = selects_by old new old.far refl o loaded
