-- The hart that is selected, behind each call of a session that selects none.
use Rattle.std.proofs.Common.{◌≡◌, ◌∙◌, ℕ, List, length, Bool, true, false, Option, Some, None, Result, Ok, Err, OnOk, IfOk, refl, sym, ap, subst}
use Rattle.rv_model.specs.declared.size.Size.{Size}
use Rattle.debug_model.specs.declared.command.Path.TheVariants.{Progbuf, Bus}
use Rattle.debug_model.specs.Chip.{Chip}
use Rattle.debug_model.specs.Dmi.{NoneOperated}
use Rattle.debug_model.specs.Kept.{DmiSeen}
use Rattle.debug_model.specs.Module.{DebugModule, Site}
use Rattle.debug_model.specs.Scan.{WhereTold}
use Rattle.debug_model.specs.Told.{Far, IsReady, Selects, site_of}
use Rattle.abstract_debugger.specs.Ways.Way.{Idle, Still}
use Rattle.probe_access.specs.Accesses.{OneBusAccess}
use Rattle.rv_model.specs.Memory.{Memory}
use Rattle.probe_access.specs.BusBlocks.{BusLoadedEach, BusStoredValues}
use Rattle.probe_run.specs.Acts.{Tells}
use Rattle.probe_run.specs.Told.{told}
use Rattle.probe_run.specs.Sites.{TurnsAlone}
use Rattle.probe_run.proofs.SiteLemmas.{quiet_deeds}
use Rattle.probe_trig.specs.declared.slot_view.SlotView.{SlotView}
use Rattle.probe_session.specs.declared.fault.Failure.{Failure}
use Rattle.probe_session.specs.declared.known.Known.{Known}
use Rattle.probe_session.specs.declared.known.Known.TheVariants as known
use Rattle.probe_session.specs.Answers.{BlockLoadedAs, BlockStoredAs}
use Rattle.probe_session.specs.BlockCalls.{BlockLoaded, BlockLoadedNone, BlockStored, BlockStoredNone}
use Rattle.probe_session.specs.Calls.{Got, Viewed}
use Rattle.probe_session.specs.Known.{Knows, without_step}
use Rattle.probe_session.specs.Links.{AttachedHalted, Goes, SelectionStays}

-- where it stays the same
abbrev pub Stays : Option Far → Option Far → Type 0
Stays old new = WhereTold SelectionStays old new

pub stays_here : (far : Option Far) → Stays far far
stays_here None = refl
stays_here (Some f) = record { far = f; is = refl; hartsel = refl }

pub stays_then : (old mid new : Option Far) → Stays old mid → Stays mid new → Stays old new
stays_then None mid new a b = subst (λ m. Stays m new) a b
stays_then (Some f) mid new a b =
    let c : SelectionStays a.far.live.chip new = subst (λ m. Stays m new) a.is b in record { far = c.far; is = c.is; hartsel = c.hartsel ∙ a.hartsel }

pub selects_still : (h : ℕ) (old new : Option Far) → Stays old new → Selects h old → Selects h new
selects_still h None new s selected = subst (Selects h) (sym s) tt
selects_still h (Some f) new s selected = subst (Selects h) (sym s.is) (s.hartsel ∙ selected)

pub knows_still : (k : Known) (h : ℕ) (old new : Option Far) → Stays old new → Knows k h old → Knows (without_step k) h new
knows_still known.Nothing h old new s knows = tt
knows_still known.Selected h old new s knows = selects_still h old new s knows
knows_still known.Stepped h old new s knows = selects_still h old new s knows.serving.selects

pub knows_without : (k : Known) (h : ℕ) (far : Option Far) → Knows k h far → Knows (without_step k) h far
knows_without k h far knows = knows_still k h far far (stays_here far) knows

-- ---- the call of a hart that is selected before it and behind it

-- a chip is told behind a call of a told chip
pub record IsTold (new : Option Far) : Type 0 where
  pub far : Far
  pub is : new ≡ Some far

stays_by : (h : ℕ) (R : Chip → Option Far → Type 0) (old new : Option Far) → ((c : Chip) → R c new → IsTold new) → WhereTold R old new
    → Selects h old → Selects h new → Stays old new
stays_by h R None new to w before behind = w
stays_by h R (Some f) new to w before behind =
    let t : IsTold new = to f.live.chip w in
    let now : Selects h (Some t.far) = subst (Selects h) t.is behind in
    record { far = t.far; is = t.is; hartsel = now ∙ sym before }

pub got_stays : (h number value : ℕ) (old new : Tells) → Got h number value old new → Selects h old.far → Selects h new.far → Stays old.far new.far
got_stays h number value old new got before behind =
    stays_by h _ old.far new.far (λ c r. record { far = r.far; is = r.is }) got.told before behind

pub viewed_stays : (h : ℕ) (view : SlotView) (old new : Tells) → Viewed h view old new → Selects h old.far → Selects h new.far → Stays old.far new.far
viewed_stays h view old new viewed before behind =
    stays_by h _ old.far new.far (λ c r. record { far = r.far; is = r.is }) viewed.told before behind

-- ---- the transport

pub identified_stays : (old new : Option Far) → IsReady old → WhereTold NoneOperated old new → Stays old new
identified_stays None new ready none = none
identified_stays (Some f) new ready none =
    let a : TurnsAlone (site_of f) (site_of none.far) = quiet_deeds (site_of f) (site_of none.far)
    (record { no_command = ready.unit.commands.idle; no_access = ready.unit.bus.idle }) none.site in
    record { far = none.far; is = none.is; hartsel = ap (λ (s : Site). s.unit.hartsel) a.is }

-- ---- blocks of memory

abbrev SameHart : Site → Site → Type 0
SameHart s t = t.unit.hartsel ≡ s.unit.hartsel

one_access : (m : Memory → Memory) (before behind : List ℕ) (s t : Site) → OneBusAccess m before behind s t → SameHart s t
one_access m before behind s t a = ap (λ (u : DebugModule). u.hartsel) a.unit

loads_same : (size : Size) (address : ℕ) (s t : Site) (values : List ℕ) → BusLoadedEach size address s values t → SameHart s t
loads_same size address s t values BusLoadedEach.nothing = refl
loads_same size address s t values (BusLoadedEach.further vs value m u each one) =
    one_access _ one.before one.behind m t one.access ∙ loads_same size address s m vs each

stores_same : (size : Size) (address : ℕ) (values : List ℕ) (s t : Site) (count : ℕ) → BusStoredValues size address values s count t → SameHart s t
stores_same size address values s t count BusStoredValues.nothing = refl
stores_same size address values s t count (BusStoredValues.further n m u each one) =
    one_access _ one.before one.behind m t one.access ∙ stores_same size address values s m n each

told_stays : (R : Chip → Option Far → Type 0) (old new : Option Far) → ((c : Chip) → R c new → SelectionStays c new) → WhereTold R old new → Stays old new
told_stays R None new to w = w
told_stays R (Some f) new to w = to f.live.chip w

-- by the hart, which is selected before and behind
hart_loaded : (h : ℕ) (size : Size) (address count : ℕ) (values : List ℕ) (old new : Tells) (whole : Bool)
    → BlockLoadedAs Progbuf Still h size address count values old new whole → Selects h old.far → Selects h new.far → Stays old.far new.far
hart_loaded h size address count values old new true (e, BlockLoaded.by_hart held is is_known serving runs fetched saw) before behind =
    stays_by h _ old.far new.far (λ c r. record { far = r.far; is = r.is }) saw before behind
hart_loaded h size address count values old new false (e, BlockLoadedNone.by_hart held n m k is is_known serving runs fetched saw) before behind =
    stays_by h _ old.far new.far (λ c r. record { far = r.far; is = r.is }) saw before behind

hart_stored : (h : ℕ) (size : Size) (address : ℕ) (values : List ℕ) (old new : Tells) (refused : Option ℕ)
    → BlockStoredAs Progbuf Still h size address values old new refused → Selects h old.far → Selects h new.far → Stays old.far new.far
hart_stored h size address values old new None (BlockStored.by_hart value count are is_known serving runs saw) before behind =
    stays_by h _ old.far new.far (λ c r. record { far = r.far; is = r.is }) saw before behind
hart_stored h size address values old new (Some at) refused before behind = by_none refused.none
  where
    by_none : BlockStoredNone Progbuf Still h size address values refused.done old new → Stays old.far new.far
    by_none (BlockStoredNone.by_hart value count n m are is_known serving runs saw) =
        stays_by h _ old.far new.far (λ c r. record { far = r.far; is = r.is }) saw before behind

-- by the bus
bus_loaded : (size : Size) (address count : ℕ) (values : List ℕ) (old new : Tells) (whole : Bool)
    → BlockLoadedAs Bus Idle 0 size address count values old new whole → Stays old.far new.far
bus_loaded size address count values old new true (e, BlockLoaded.by_bus held is runs saw) =
    told_stays _ old.far new.far (λ c r. record { far = r.far; is = r.is; hartsel = loads_same size address _ (site_of r.far) values r.each }) saw
bus_loaded size address count values old new false (e, BlockLoadedNone.by_bus held is runs saw) =
    told_stays _ old.far new.far (λ c r. record {
      far = r.far;
      is = r.is;
      hartsel = one_access _ r.refused.before r.refused.behind r.mid (site_of r.far) r.refused.access ∙ loads_same size address _ r.mid values r.each;
    }) saw

bus_stored : (size : Size) (address : ℕ) (values : List ℕ) (old new : Tells) (refused : Option ℕ)
    → BlockStoredAs Bus Idle 0 size address values old new refused → Stays old.far new.far
bus_stored size address values old new None (BlockStored.by_bus runs saw) =
    told_stays _ old.far new.far (λ c r. record {
      far = r.far;
      is = r.is;
      hartsel = stores_same size address values _ (site_of r.far) (length values) r.each;
    }) saw
bus_stored size address values old new (Some at) refused = by_none refused.done refused.none
  where
    by_none : (done : ℕ) → BlockStoredNone Bus Idle 0 size address values done old new → Stays old.far new.far
    by_none done (BlockStoredNone.by_bus runs saw) =
        told_stays _ old.far new.far (λ c r. record {
          far = r.far;
          is = r.is;
          hartsel = one_access _ r.refused.before r.refused.behind r.mid (site_of r.far) r.refused.access
              ∙ stores_same size address values _ r.mid done r.each;
        }) saw

-- as the calls answer

pub hart_load_stays : (h : ℕ) (size : Size) (address count : ℕ) (values : List ℕ) (s t : DmiSeen) (result : Result Bool Failure)
    → IfOk result (BlockLoadedAs Progbuf Still h size address count values (told s) (told t)) → AttachedHalted h s
    → Goes (λ (_ : Bool). AttachedHalted h) s t result → OnOk result (Stays s.far t.far)
hart_load_stays h size address count values s t (Ok whole) loaded before keeps =
    hart_loaded h size address count values (told s) (told t) whole loaded before.serving.selects keeps.behind.serving.selects
hart_load_stays h size address count values s t (Err f) loaded before keeps = tt

pub hart_store_stays : (h : ℕ) (size : Size) (address : ℕ) (values : List ℕ) (s t : DmiSeen) (result : Result (Option ℕ) Failure)
    → IfOk result (BlockStoredAs Progbuf Still h size address values (told s) (told t)) → AttachedHalted h s
    → Goes (λ (_ : Option ℕ). AttachedHalted h) s t result → OnOk result (Stays s.far t.far)
hart_store_stays h size address values s t (Ok refused) stored before keeps =
    hart_stored h size address values (told s) (told t) refused stored before.serving.selects keeps.behind.serving.selects
hart_store_stays h size address values s t (Err f) stored before keeps = tt

pub bus_load_stays : (size : Size) (address count : ℕ) (values : List ℕ) (s t : DmiSeen) (result : Result Bool Failure)
    → IfOk result (BlockLoadedAs Bus Idle 0 size address count values (told s) (told t)) → OnOk result (Stays s.far t.far)
bus_load_stays size address count values s t (Ok whole) loaded = bus_loaded size address count values (told s) (told t) whole loaded
bus_load_stays size address count values s t (Err f) loaded = tt

pub bus_store_stays : (size : Size) (address : ℕ) (values : List ℕ) (s t : DmiSeen) (result : Result (Option ℕ) Failure)
    → IfOk result (BlockStoredAs Bus Idle 0 size address values (told s) (told t)) → OnOk result (Stays s.far t.far)
bus_store_stays size address values s t (Ok refused) stored = bus_stored size address values (told s) (told t) refused stored
bus_store_stays size address values s t (Err f) stored = tt
