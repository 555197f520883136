-- What the calls of software breakpoints leave, by their own words.
use Rattle.std.proofs.Common.{◌≡◌, ℕ, true, Option, Some, None, Ok, Err, refl, sym, subst}
use Rattle.std.proofs.lemmas.Option.{same_Some}
use Rattle.rv_model.specs.declared.size.Size.TheVariants.{B4}
use Rattle.debug_model.specs.Kept.{DmiSeen}
use Rattle.debug_model.specs.Module.{Site}
use Rattle.debug_model.specs.Told.{Far, site_of}
use Rattle.probe_run.specs.Happens.{target_of}
use Rattle.probe_access.specs.Accesses.{BusLoadedAt, BusStoreRefused, StoreRefusedBy, StoredBy, OneBusAccess}
use Rattle.probe_access.specs.Cuts as cuts
use Rattle.probe_access.specs.Cuts.{BusLeftOff, IfCut, Leaves}
use Rattle.soft_laws.specs.SoftBreaks.{ebreak_word}
use Rattle.soft_break.specs.declared.fault.SoftFault.TheVariants as soft
use Rattle.soft_break.specs.Calls.{PlantCut, PlantRefused, PlantedAt}
use Rattle.soft_break.specs.Patches.{original_of}
use Rattle.left_laws.specs.Left.{LeavesBut, Scope}
use Rattle.left_laws.specs.Left.Spared.{Nothing}
use Rattle.left_laws.specs.Scopes.{storing}
use Rattle.left_laws.specs.SoftLaws.{CoverLeaves, PlantLeaves, UncoverLeaves, UnplantLeaves}
use Rattle.left_laws.proofs.AccessLemmas.{access_kept, one_block, one_element, store_leaves}
use Rattle.left_laws.proofs.BusLemmas.{broke, load_off, none_lost, read_led, store_led, store_off}
use Rattle.left_laws.proofs.Leads.{Led, led_stays, led_then}
use Rattle.left_laws.proofs.SiteLeads.{Left, told_left, whole}

-- ---- no call was made

stayed : (s : Scope) (x : Option Far) → Left s Nothing x x
stayed s None = tt
stayed s (Some f) = whole s f f (Some f) refl (led_stays s (target_of (site_of f)))

unmade : (s : Scope) (old new : DmiSeen) → new ≡ old → LeavesBut s Nothing old new
unmade s old new is = subst (λ (n : DmiSeen). LeavesBut s Nothing old n) (sym is) (stayed s old.far)

-- ---- one access that is whole, between two ends

read_between : (s : Scope) (at value : ℕ) (f m : Far) → s.accesses ≡ true → BusLoadedAt B4 at value f.live.chip (Some m)
    → Led s (target_of (site_of f)) (target_of (site_of m))
read_between s at value f m may r =
    subst (λ (n : Far). Led s (target_of (site_of f)) (target_of (site_of n))) (sym (same_Some m r.far r.is))
    (read_led s r.before r.behind (site_of f) (site_of r.far) may r.access)

-- ---- a breakpoint is set

abbrev planting : ℕ → Scope
planting at = storing B4 at ebreak_word 1

refused : (at : ℕ) (f : Far) (y : Option Far) → PlantRefused at f.live.chip y → Left (planting at) Nothing (Some f) y
refused at f y (PlantRefused.at_read r) =
    whole (planting at) f r.far y r.is (read_led (planting at) r.before r.behind (site_of f) (site_of r.far) refl r.access)
refused at f y (PlantRefused.at_write original mid read r) =
    whole (planting at) f r.far y r.is
    (led_then (planting at) (target_of (site_of f)) (target_of (site_of mid)) (target_of (site_of r.far))
    (read_between (planting at) at original f mid refl read)
    (read_led (planting at) r.before r.behind (site_of mid) (site_of r.far) refl r.access))

cut_led : (at : ℕ) (a b : Site) → PlantCut at a b → Led (planting at) (target_of a) (target_of b)
cut_led at a b (PlantCut.in_read l) = load_off (planting at) a b refl l
cut_led at a b (PlantCut.in_write original mid one l) =
    led_then (planting at) (target_of a) (target_of mid) (target_of b) (read_led (planting at) one.before one.behind a mid refl one.access)
    (store_off (planting at) B4 at ebreak_word (one_block B4 at ebreak_word) mid b refl refl (one_element B4 at ebreak_word) l)

pub plant_leaves : PlantLeaves
plant_leaves at after old new (Ok done) planted left cut keeps =
    let s : Scope = planting at in
    told_left s Nothing (PlantedAt at (original_of at after)) old.far new.far
    (λ f is r. whole s f r.wrote.far new.far r.wrote.is
    (led_then s (target_of (site_of f)) (target_of (site_of r.mid)) (target_of (site_of r.wrote.far))
    (read_between s at (original_of at after) f r.mid refl r.read)
    (store_led s B4 at ebreak_word r.wrote.before r.wrote.behind (site_of r.mid) (site_of r.wrote.far) (one_block B4 at ebreak_word) refl refl
    (one_element B4 at ebreak_word) r.wrote.access))) planted
plant_leaves at after old new (Err (soft.Access e)) planted left cut keeps =
    let s : Scope = planting at in
    none_lost s old.far new.far e
    (access_kept s Nothing (PlantRefused at) (PlantCut at) at old.far new.far e
    (λ w. told_left s Nothing (PlantRefused at) old.far new.far (λ f is r. refused at f new.far r) w)
    (λ c. broke s (PlantCut at) old.far new.far (cut_led at) c)
    left cut)
plant_leaves at after old new (Err soft.Full) planted left cut keeps = unmade (planting at) old new keeps.behind
plant_leaves at after old new (Err soft.Set) planted left cut keeps = unmade (planting at) old new keeps.behind
plant_leaves at after old new (Err soft.NotSet) planted left cut keeps = unmade (planting at) old new keeps.behind

-- ---- it is taken out

pub unplant_leaves : UnplantLeaves
unplant_leaves at earlier old new (Ok done) stored left cut keeps =
    let v : ℕ = original_of at earlier in
    let s : Scope = storing B4 at v 1 in
    told_left s Nothing (StoredBy OneBusAccess B4 at v) old.far new.far
    (λ f is r. whole s f r.far new.far r.is
    (store_led s B4 at v r.before r.behind (site_of f) (site_of r.far) (one_block B4 at v) refl refl (one_element B4 at v) r.access)) stored
unplant_leaves at earlier old new (Err (soft.Access e)) stored left cut keeps =
    let v : ℕ = original_of at earlier in
    let s : Scope = storing B4 at v 1 in
    none_lost s old.far new.far e
    (access_kept s Nothing (BusStoreRefused B4 at) (BusLeftOff (cuts.StoreLeaves B4 at v)) at old.far new.far e
    (λ w. told_left s Nothing (StoreRefusedBy OneBusAccess B4 at) old.far new.far
    (λ f is r. whole s f r.far new.far r.is (read_led s r.before r.behind (site_of f) (site_of r.far) refl r.access)) w)
    (λ c. broke s (BusLeftOff (cuts.StoreLeaves B4 at v)) old.far new.far
    (λ a b l. store_off s B4 at v (one_block B4 at v) a b refl refl (one_element B4 at v) l) c)
    left cut)
unplant_leaves at earlier old new (Err soft.Full) stored left cut keeps = unmade (storing B4 at (original_of at earlier) 1) old new keeps.behind
unplant_leaves at earlier old new (Err soft.Set) stored left cut keeps = unmade (storing B4 at (original_of at earlier) 1) old new keeps.behind
unplant_leaves at earlier old new (Err soft.NotSet) stored left cut keeps = unmade (storing B4 at (original_of at earlier) 1) old new keeps.behind

-- ---- it is lifted, and covered again

pub uncover_leaves : UncoverLeaves
uncover_leaves h at now old new (Ok uncovered) serving stored left cut =
    store_leaves h B4 at (original_of at now) old new (Ok tt) serving stored tt tt
uncover_leaves h at now old new (Err e) serving stored left cut = store_leaves h B4 at (original_of at now) old new (Err e) serving tt left cut

pub cover_leaves : CoverLeaves
cover_leaves h at old new result serving stored left cut = store_leaves h B4 at ebreak_word old new result serving stored left cut
