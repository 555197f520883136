-- Calls of a session with software breakpoints that fail, over a told chip.
use Rattle.std.proofs.Common.{◌≡◌, ◌++◌, ℕ, true, List, [], ◌∷◌, Option, None, append-nil, refl, sym, ap, subst}
use Rattle.rv_model.specs.declared.size.Size.TheVariants.{B4}
use Rattle.rv_model.specs.Board.{Machine}
use Rattle.debug_model.specs.declared.dmi.DmiFault.{DmiFault}
use Rattle.debug_model.specs.declared.dmi.DmiFault.TheVariants as dmi_fault
use Rattle.debug_model.specs.declared.point.Point.TheVariants.{Access}
use Rattle.debug_model.specs.Chip.{Chip}
use Rattle.debug_model.specs.Kept.{DmiSeen}
use Rattle.debug_model.specs.Module.{Site}
use Rattle.debug_model.specs.Scan.{WhereTold}
use Rattle.debug_model.specs.Told.{Far, site_of}
use Rattle.abstract_debugger.specs.Lines.{Line}
use Rattle.abstract_debugger.specs.Plan.{Plan}
use Rattle.abstract_debugger.specs.Plan.Plan.{take}
use Rattle.abstract_debugger.specs.Stands.{Deals, Origin, Stands}
use Rattle.abstract_debugger.specs.Turns.{turns}
use Rattle.probe_access.specs.declared.fault.AccessFault.{AccessFault}
use Rattle.probe_access.specs.declared.fault.AccessFault.TheVariants as fault
use Rattle.probe_access.specs.Accesses.{AccessLeft, BusStoreRefused, StoreRefused}
use Rattle.probe_access.specs.Cuts.{AccessLeftOff, BusLeftOff, IfCut, Leaves, Scratched, StoreLeaves}
use Rattle.probe_run.specs.Acts.{Tells}
use Rattle.probe_run.specs.Happens.{target_of}
use Rattle.probe_run.specs.Told.{told}
use Rattle.probe_session.specs.declared.fault.Failure.{Failure}
use Rattle.probe_session.specs.declared.fault.Failure.TheVariants as failure
use Rattle.probe_session.specs.declared.fault.LostCause.TheVariants as lost
use Rattle.probe_session.specs.declared.odd.Odd.TheVariants as odd
use Rattle.probe_session.specs.Calls.{IsOfHarts, ReadFell, SlotsFell}
use Rattle.probe_session.specs.Failures.{failure_of_access, failure_of_dmi}
use Rattle.probe_session.specs.Goes.{Falls, Fault}
use Rattle.probe_session.specs.Led.{Leads}
use Rattle.probe_session.specs.Places.{Place, still}
use Rattle.probe_session.specs.Transcribed.{OnTheWay, Still}
use Rattle.probe_session.proofs.BrokeOff.{LeftAs, OnWay, is_told, left_still, still_as, told_still}
use Rattle.probe_session.proofs.Faults.{fault_left}
use Rattle.probe_session.proofs.LedSteps.{goes_lead}
use Rattle.probe_session.proofs.Transcribing.{found_far}
use Rattle.probe_session.proofs.OnTheWay.{on_way, point_way, turns_way}
use Rattle.probe_trig.specs.Runs.{ReadsAny}
use Rattle.soft_laws.specs.Lowered.{Table}
use Rattle.soft_break.specs.Patches.{Patches}
use Rattle.soft_session.specs.Cuts.{Cuts, CutsSaying, LeftSoft}
use Rattle.soft_session.specs.Led.{Onto}
use Rattle.soft_session.specs.Setting.{is_refused}
use Rattle.soft_session.specs.Tables.{Holds}

-- ---- what a session without breakpoints says of its calls

left_soft : (o : Origin) (lines : List Line) (f : Failure) (last : Far) → LeftAs o lines f last → LeftSoft o lines f last
left_soft o lines (failure.Wire why) last left = left
left_soft o lines (failure.Lost lost.DmiFailed) last left = left
left_soft o lines (failure.Lost lost.StillBusy) last left = left
left_soft o lines (failure.Lost (lost.NoHalt looks)) last left = left
left_soft o lines (failure.Lost (lost.NoAck looks)) last left = left
left_soft o lines (failure.Lost (lost.Odd shown)) last left = absurd left
left_soft o lines failure.Sink last left = left

pub fault_cut : (p : Place) (old_count new_count : ℕ) (old new : Tells) (f : Failure) → Fault p old_count new_count old new f → Cuts p old f new
fault_cut p old_count new_count old new f fault m o lines d =
    still_as new.far (λ last. left_soft o lines f last) (fault_left p old_count new_count old new f fault m o lines d)

-- with these lines said on the way
pub falls_saying : {K : Type 0} (before : K → Place) (k : K) (said : List Line) (old_count new_count : ℕ) (old new : Tells) (f : Failure)
    → Falls before said old_count new_count old new f → CutsSaying (before k) old said f new
falls_saying before k said old_count new_count old new f falls m o lines d =
    fault_cut (falls.at k) falls.count new_count falls.mid new f (falls.fault k) m o (lines ++ said)
    (goes_lead (before k) (falls.at k) old falls.mid said (falls.went.goes k) m o lines d)

pub no_line : (from : Place) (old new : Tells) (f : Failure) → CutsSaying from old [] f new → Cuts from old f new
no_line from old new f cuts m o lines d = subst (λ l. Still (LeftSoft o l f) new.far) (append-nil lines) (cuts m o lines d)

pub no_line_said : (from : Place) (old new : Tells) (f : Failure) → Cuts from old f new → CutsSaying from old [] f new
no_line_said from old new f cuts m o lines d = subst (λ l. Still (LeftSoft o l f) new.far) (sym (append-nil lines)) (cuts m o lines d)

pub falls_cut : {K : Type 0} (before : K → Place) (k : K) (old_count new_count : ℕ) (old new : Tells) (f : Failure)
    → Falls before [] old_count new_count old new f → Cuts (before k) old f new
falls_cut before k old_count new_count old new f falls =
    no_line (before k) old new f (falls_saying before k [] old_count new_count old new f falls)

pub read_cut : (h number : ℕ) (p : Plan) (old_count new_count : ℕ) (old new : Tells) (f : Failure) → IsOfHarts number
    → ReadFell h number old_count new_count old new f → Cuts (still h p) old f new
read_cut h number p old_count new_count old new f of fell = fault_cut (still h p) old_count new_count old new f (Fault.reading fell of)

pub slots_cut : (h : ℕ) (p : Plan) (old_count new_count : ℕ) (old new : Tells) (f : Failure) → SlotsFell ReadsAny h old_count new_count old new f
    → Cuts (still h p) old f new
slots_cut h p old_count new_count old new f fell = fault_cut (still h p) old_count new_count old new f (Fault.viewing fell)

-- ---- one behind another

pub cut_then : (a b : Place) (t u v : Tells) (f : Failure) → Leads a t [] b u → Cuts b u f v → Cuts a t f v
cut_then a b t u v f first cuts m o lines d =
    subst (λ l. Still (LeftSoft o l f) v.far) (append-nil lines) (cuts m o (lines ++ []) (first m o lines d))

pub onto_cut : (p : Patches) (a : Place) (b : Table → Place) (t u v : Tells) (f : Failure) → Onto p (λ k. Leads a t [] (b k) u)
    → ((k : Table) → Holds p k → Cuts (b k) u f v) → Cuts a t f v
onto_cut p a b t u v f o cuts = cut_then a (b o.table) t u v f o.leads (cuts o.table o.holds)

-- ---- an access

-- turns passed, and maybe the access among them
pub data Way (s t : Site) : Type 0 where
  aside : (harts : List ℕ) → t.journal ≡ s.journal ++ turns harts → Way s t
  within : (before behind : List ℕ) → t.journal ≡ (s.journal ++ turns before) ++ Access ∷ turns behind → Way s t

pub way_on : (m : Machine) (o : Origin) (from : Place) (next : Plan) (lines : List Line) (s t : Site) → from.plan ≡ take Access next
    → Deals m from.hart from.way o from.plan lines (target_of s) → Way s t → OnTheWay o lines t.journal
way_on m o from next lines s t is d (Way.aside harts journal) = turns_way o from.plan lines (target_of s) harts t.journal d.stands journal
way_on m o from next lines s t is d (Way.within before behind journal) =
    point_way o Access next lines (target_of s) before behind t.journal tt (subst (λ p. Stands o p lines (target_of s)) is d.stands) journal

dmi_left : (why : DmiFault) (o : Origin) (lines : List Line) (last : Far) → OnWay o lines last → LeftSoft o lines (failure_of_dmi why) last
dmi_left (dmi_fault.Wire why) o lines last way = way
dmi_left dmi_fault.Failed o lines last way = way
dmi_left dmi_fault.StillBusy o lines last way = way

-- by what the call says of its fault: where it was cut, and where memory refused it
pub access_by : (P Q : Type 0) (R : Chip → Option Far → Type 0) (address : ℕ) (why : AccessFault) (o : Origin) (lines : List Line) (old new : Option Far)
    → (old ≡ None → ⊥) → AccessLeft R address old new why → IfCut P why → (P → Still (OnWay o lines) new) →
    (is_refused why ≡ true → WhereTold R old new → Still (OnWay o lines) new)
    → Still (LeftSoft o lines (failure_of_access why)) new
access_by P Q R address (fault.Dmi why) o lines old new told left cut at_cut at_refusal =
    still_as new (λ last way. dmi_left why o lines last way) (at_cut cut)
access_by P Q R address (fault.Memory at) o lines old new told left cut at_cut at_refusal = at_refusal refl left.1
access_by P Q R address (fault.Register number) o lines old new told left cut at_cut at_refusal = absurd (told left)
access_by P Q R address fault.StillBusy o lines old new told left cut at_cut at_refusal = at_cut cut
access_by P Q R address (fault.Run why) o lines old new told left cut at_cut at_refusal = absurd left
access_by P Q R address (fault.Odd shown) o lines old new told left cut at_cut at_refusal = absurd (told left)

pub access_cut : (R : Chip → Option Far → Type 0) (Q : Site → Site → Type 0) (address : ℕ) (why : AccessFault) (f : Failure) (from : Place) (next : Plan)
    (old new : Tells) → f ≡ failure_of_access why → from.plan ≡ take Access next → ((s t : Site) → Q s t → Way s t)
    → ((c : Far) → R c.live.chip new.far → Still (λ last. Way (site_of c) (site_of last)) new.far)
    → AccessLeft R address old.far new.far why → IfCut (Leaves Q old.far new.far) why → Cuts from old f new
access_cut R Q address why f from next old new is at ways refusals left cut m o lines d =
    subst (λ g. Still (LeftSoft o lines g) new.far) (sym is)
    (access_by (Leaves Q old.far new.far) (Unit {0}) R address why o lines old.far new.far (is_told m from.hart from.way o from.plan lines old.far d) left cut
    (λ l. left_still Q m from.hart from.way o from.plan lines (OnWay o lines) old.far new.far
    (λ x y e q. way_on m o from next lines (site_of x) (site_of y) at e (ways (site_of x) (site_of y) q)) l d)
    (λ e w. told_still R m from.hart from.way o from.plan lines (OnWay o lines) old.far new.far
    (λ x e r. still_as new.far (λ last way. way_on m o from next lines (site_of x) (site_of last) at e way) (refusals x r)) w d))

pub hart_way : (h a v : ℕ) (s t : Site) → AccessLeftOff Scratched (StoreLeaves B4 a v) h s t → Way s t
hart_way h a v s t (AccessLeftOff.before_it c) = Way.aside c.harts c.journal
hart_way h a v s t (AccessLeftOff.behind_it c) = Way.within c.before c.behind c.journal

pub bus_way : (a v : ℕ) (s t : Site) → BusLeftOff (StoreLeaves B4 a v) s t → Way s t
bus_way a v s t (BusLeftOff.before_it c) = Way.aside c.harts c.journal
bus_way a v s t (BusLeftOff.behind_it c) = Way.within c.before c.behind c.journal

pub refused_way : (a : ℕ) (new : Option Far) (c : Far) → StoreRefused B4 a c.live.chip new → Still (λ last. Way (site_of c) (site_of last)) new
refused_way a new c r = record { far = r.far; is = r.is; holds = Way.within r.before r.behind r.access.journal }

pub bus_refused_way : (a : ℕ) (new : Option Far) (c : Far) → BusStoreRefused B4 a c.live.chip new → Still (λ last. Way (site_of c) (site_of last)) new
bus_refused_way a new c r = record { far = r.far; is = r.is; holds = Way.within r.before r.behind r.access.journal }

-- ---- no call was made

pub none_made : (from : Place) (old new : Tells) → new.far ≡ old.far → Cuts from old (failure.Lost (lost.Odd odd.Refusal)) new
none_made from old new same m o lines d =
    subst (λ x. Still (OnWay o lines) x) (sym same) (found_far (λ t. Deals m from.hart from.way o from.plan lines t)
    (OnWay o lines) old.far d.target d.is d.holds
    (λ last e. on_way o from.plan lines (target_of (site_of last)) (site_of last).journal e.stands refl))

pub no_call : (from : Place) (old new : DmiSeen) (f : Failure) → f ≡ failure.Lost (lost.Odd odd.Refusal) → new ≡ old → Cuts from (told old) f (told new)
no_call from old new f is same =
    subst (λ g. Cuts from (told old) g (told new)) (sym is) (none_made from (told old) (told new) (ap (λ (s : DmiSeen). s.far) same))
