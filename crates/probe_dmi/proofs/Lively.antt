-- Rounds of a chip as deeds while nothing is in flight, and how they lie around operations where the schedule is fair: from a capture to the update of its
-- scan each part of the chip gets on.
use Rattle.std.proofs.Common.{◌≡◌, ◌∙◌, ℕ, zero, suc, ◌<◌, ◌≤◌, ◌%◌, List, [], ◌∷◌, ◌++◌, Bool, Option, Some, None, refl, sym, ap, subst, arith, append_assoc, Contains}
use Rattle.std.proofs.lemmas.List.Elements.{Contains-append_left, Contains-append_right}
use Rattle.chip_laws.proofs.Pace.{comes_in, course_harts, course_paced, tick_harts, tick_paced}
use Rattle.chip_laws.proofs.PathLemmas.{no_operation_is_deeds, one_operation_between_deeds, ran-append, site_path}
use Rattle.debug_model.specs.declared.data_register.DataRegister.TheVariants.{Dmi}
use Rattle.debug_model.specs.declared.dmi_op.DmiOp.{DmiOp}
use Rattle.debug_model.specs.declared.dmi_scan.DmiScan.{DmiScan}
use Rattle.debug_model.specs.declared.event.Event.{Event}
use Rattle.debug_model.specs.declared.event.Event.TheVariants as event
use Rattle.debug_model.specs.declared.sticky.Sticky.TheVariants.{Clear}
use Rattle.debug_model.specs.Asked.{carrying, nop}
use Rattle.debug_model.specs.Dmi.{IsOperation}
use Rattle.debug_model.specs.Chip.{Inside, Works, after_event, after_events, counted, lost_by, performed_by, tick}
use Rattle.debug_model.specs.Course.{Course, DeedsAlone, Happening, OneOperation, Operation, each_once}
use Rattle.debug_model.specs.Course.Happening.{Launched, Performed}
use Rattle.debug_model.specs.Deeds.{Deed, after_deed, ran}
use Rattle.debug_model.specs.Deeds.Deed.{Turned, CommandStepped, BusStepped}
use Rattle.debug_model.specs.Module.{Site, operated, operation_result}
use Rattle.debug_model.specs.Offered.{first_rounds}
use Rattle.debug_model.specs.Pacing.{Lively, LivelyDeeds, Paced, PacedAlong, fair_within, harts_in}
use Rattle.debug_model.specs.Scan.{capture, dr_inside, dr_stays, dtm_of, ticks, update}
use Rattle.debug_model.specs.Schedule.{Fair, RoundPlan, moved, round_of}
use Rattle.debug_model.specs.Transport.{Dtm, dmi_seen}
use Rattle.probe_dmi.specs.Registers.{dmi_bits}
use Rattle.probe_dmi.proofs.Carrying.{Carried, carry, launch_here, nop_here, settled_here, to_update}
use Rattle.probe_dmi.proofs.Carrying.Carried.{going_on, came_back, got_lost}
use Rattle.probe_dmi.proofs.Courses.{course_append, with_result}
use Rattle.probe_dmi.proofs.Flight.{Settled, Waiting, event_quiet, settle_ticks, tick_quiet}
use Rattle.probe_dmi.proofs.Pacing.{ticks_none}
use Rattle.probe_dmi.proofs.Stages.{settle_captured}
use Rattle.probe_dmi.proofs.Updates.{Keeps, nop_keeps}
use Rattle.probe_dmi.proofs.WholeScans.{cut_scan, dmi_left}

-- ---- rounds as deeds

deed_of : Event → List Deed
deed_of (event.Turn h) = Turned h ∷ []
deed_of event.DmiDone = []
deed_of event.DmiFail = []
deed_of event.CmdStep = CommandStepped ∷ []
deed_of event.BusDone = BusStepped ∷ []

deeds_of : List Event → List Deed
deeds_of [] = []
deeds_of (e ∷ es) = deed_of e ++ deeds_of es

deeds_of-append : (xs ys : List Event) → deeds_of (xs ++ ys) ≡ deeds_of xs ++ deeds_of ys
unfolding deeds_of
deeds_of-append [] ys = refl
deeds_of-append (x ∷ xs) ys =
    ap (λ ds. deed_of x ++ ds) (deeds_of-append xs ys) ∙ sym (append_assoc (deed_of x) (deeds_of xs) (deeds_of ys))

done_site : (flight : Option DmiOp) (w : Works) → flight ≡ None → (performed_by flight w).site ≡ w.site
done_site None w e = refl
done_site (Some op) w e = absurd (let no : ⊥ = cc in no)

lost_site : (flight : Option DmiOp) (w : Works) → (lost_by flight w).site ≡ w.site
lost_site None w = refl
lost_site (Some op) w = refl

event_deeds : (e : Event) (w : Works) → w.dtm.flight ≡ None → (after_event e w).site ≡ ran (deed_of e) w.site
unfolding after_event deed_of ran after_deed
event_deeds (event.Turn h) w none = refl
event_deeds event.DmiDone w none = done_site w.dtm.flight w none
event_deeds event.DmiFail w none = lost_site w.dtm.flight w
event_deeds event.CmdStep w none = refl
event_deeds event.BusDone w none = refl

events_deeds : (es : List Event) (w : Works) → w.dtm.flight ≡ None → (after_events es w).site ≡ ran (deeds_of es) w.site
unfolding after_events deeds_of ran
events_deeds [] w none = refl
events_deeds (e ∷ es) w none =
    events_deeds es (after_event e w) (ap (λ (d : Dtm). d.flight) (event_quiet e w none).same ∙ none)
    ∙ ap (ran (deeds_of es)) (event_deeds e w none) ∙ sym (ran-append (deed_of e) (deeds_of es) w.site)

tick_deeds : (i : Inside) → (dtm_of i).flight ≡ None → (tick i).works.site ≡ ran (deeds_of (round_of i.plan)) i.works.site
unfolding tick
tick_deeds i none = events_deeds (round_of i.plan) (counted i.works) none

tick_plan : (i : Inside) → (tick i).plan ≡ moved i.plan
unfolding tick
tick_plan i = refl

rounds_deeds : ℕ → RoundPlan → List Deed
rounds_deeds n p = deeds_of (first_rounds n p)

ticks_deeds : (n : ℕ) (i : Inside) → (dtm_of i).flight ≡ None → (ticks n i).works.site ≡ ran (rounds_deeds n i.plan) i.works.site
unfolding ticks rounds_deeds first_rounds deeds_of ran
ticks_deeds zero i none = refl
ticks_deeds (suc n) i none =
    let es = round_of i.plan in
    let more = rounds_deeds n (moved i.plan) in
    ticks_deeds n (tick i) (ap (λ (d : Dtm). d.flight) (tick_quiet i none).same ∙ none)
    ∙ ap (λ (p : RoundPlan). ran (rounds_deeds n p) (tick i).works.site) (tick_plan i)
    ∙ ap (ran more) (tick_deeds i none) ∙ sym (ran-append (deeds_of es) more i.works.site)
    ∙ ap (λ ds. ran ds i.works.site) (sym (deeds_of-append es (first_rounds n (moved i.plan))))

-- ---- what stands in fair rounds

in_deeds : (es : List Event) (e : Event) (d : Deed) → deed_of e ≡ d ∷ [] → Contains es e → Contains (deeds_of es) d
unfolding deeds_of
in_deeds [] e d one (n, below, is) = absurd (omega arith)
in_deeds (x ∷ xs) e d one (zero, below, is) =
    Contains-append_left (deed_of x) (deeds_of xs) d (subst (λ ds. Contains ds d) (sym (ap deed_of is ∙ one)) (zero, omega arith, refl))
in_deeds (x ∷ xs) e d one (suc n, below, is) = Contains-append_right (deed_of x) (deeds_of xs) d (in_deeds xs e d one (n, omega arith, is))

rounds_lively : (n harts : ℕ) (p : RoundPlan) → fair_within ≤ n → Fair fair_within harts p → Lively harts (rounds_deeds n p)
unfolding rounds_deeds deed_of
rounds_lively n harts p enough f = record {
  turns = λ h there. in_deeds (first_rounds n p) (event.Turn h) (Turned h) refl (comes_in fair_within n p (event.Turn h) enough (f.turns 0 h there));
  command = in_deeds (first_rounds n p) event.CmdStep CommandStepped refl (comes_in fair_within n p event.CmdStep enough (f.cmd_step 0));
  bus = in_deeds (first_rounds n p) event.BusDone BusStepped refl (comes_in fair_within n p event.BusDone enough (f.bus_done 0));
}

-- ---- deeds end to end

pub deeds_nowhere : (s : Site) → DeedsAlone s s
unfolding ran
deeds_nowhere s = record { deeds = []; is = refl }

lively_more : (harts : ℕ) (ds es : List Deed) → Lively harts ds → Lively harts (ds ++ es)
lively_more harts ds es l = record {
  turns = λ h there. Contains-append_left ds es (Turned h) (l.turns h there);
  command = Contains-append_left ds es CommandStepped l.command;
  bus = Contains-append_left ds es BusStepped l.bus;
}

more_lively : (harts : ℕ) (ds es : List Deed) → Lively harts es → Lively harts (ds ++ es)
more_lively harts ds es l = record {
  turns = λ h there. Contains-append_right ds es (Turned h) (l.turns h there);
  command = Contains-append_right ds es CommandStepped l.command;
  bus = Contains-append_right ds es BusStepped l.bus;
}

pub lively_then : (harts : ℕ) (s t u : Site) → LivelyDeeds harts s t → DeedsAlone t u → LivelyDeeds harts s u
lively_then harts s t u l d = record {
  deeds = l.deeds ++ d.deeds;
  lively = lively_more harts l.deeds d.deeds l.lively;
  is = d.is ∙ ap (ran d.deeds) l.is ∙ sym (ran-append l.deeds d.deeds s);
}

pub then_lively : (harts : ℕ) (s t u : Site) → DeedsAlone s t → LivelyDeeds harts t u → LivelyDeeds harts s u
then_lively harts s t u d l = record {
  deeds = d.deeds ++ l.deeds;
  lively = more_lively harts d.deeds l.deeds l.lively;
  is = l.is ∙ ap (ran l.deeds) d.is ∙ sym (ran-append d.deeds l.deeds s);
}

-- one more operation behind those that were done, and each part gets on again
pub along_snoc : (harts : ℕ) (os : List Operation) (o : Operation) (s b m t : Site) → PacedAlong harts s os b → OneOperation o.op o.result b m
    → LivelyDeeds harts m t → PacedAlong harts s (os ++ o ∷ []) t
along_snoc harts [] o s b m t l one more =
    let at : Site = ran one.before b in (
      at,
      lively_then harts s b at l (record { deeds = one.before; is = refl }),
      one.result_is,
      then_lively harts (operated o.op at) m t (record { deeds = one.behind; is = one.is }) more,
    )
along_snoc harts (p ∷ os) o s b m t along one more =
    (along.0, along.1, along.2, along_snoc harts os o (operated p.op along.0) b m t along.3 one more)

-- ---- along a scan

pub alone_ticks : (n : ℕ) (i : Inside) → (dtm_of i).flight ≡ None → DeedsAlone i.works.site (ticks n i).works.site
alone_ticks n i none = record { deeds = rounds_deeds n i.plan; is = ticks_deeds n i none }

lively_ticks : (n : ℕ) (i : Inside) → fair_within ≤ n → Paced i → (dtm_of i).flight ≡ None
    → LivelyDeeds (harts_in i) i.works.site (ticks n i).works.site
lively_ticks n i enough p none =
    record { deeds = rounds_deeds n i.plan; lively = rounds_lively n (harts_in i) i.plan enough p.fair; is = ticks_deeds n i none }

-- from its capture to its update
pub lively_capture : (between : ℕ) (m : Inside) → fair_within ≤ between → Paced m → (dtm_of m).flight ≡ None
    → LivelyDeeds (harts_in m) m.works.site (ticks between (capture Dmi m)).works.site
lively_capture between m enough p none = lively_ticks between (capture Dmi m) enough (record { fair = p.fair; goes_on = p.goes_on }) none

-- and of a nop to its end
pub lively_nop : (between behind : ℕ) (m : Inside) → fair_within ≤ between → Paced m → (dtm_of m).flight ≡ None
    → LivelyDeeds (harts_in m) m.works.site
    (ticks behind (update Dmi (dr_stays (dmi_bits nop) Dmi m) (ticks between (capture Dmi m)))).works.site
lively_nop between behind m enough p none =
    let n = ticks between (capture Dmi m) in
    let left = dr_stays (dmi_bits nop) Dmi m in
    let k : Keeps Dmi left (dtm_of n) = subst (λ x. Keeps Dmi x (dtm_of n)) (sym (dmi_left nop m)) (nop_keeps (dtm_of n)) in
    let still : (dtm_of (update Dmi left n)).flight ≡ None = ap (λ (d : Dtm). d.flight) k.same ∙ ticks_none between (capture Dmi m) none in
    lively_then (harts_in m) m.works.site n.works.site _ (lively_capture between m enough p none) (alone_ticks behind (update Dmi left n) still)

-- deeds alone lead along a path of no operation
pub alone_path : (i j : Inside) → Course i [] j → DeedsAlone i.works.site j.works.site
alone_path i j path = no_operation_is_deeds i.works.site j.works.site (site_path i j [] path)

pub one_path : (i j : Inside) (op : DmiOp) (result : ℕ) → Course i (Launched op ∷ Performed op result ∷ []) j
    → OneOperation op result i.works.site j.works.site
one_path i j op result path =
    one_operation_between_deeds i.works.site j.works.site (with_result op result) (site_path i j (Launched op ∷ Performed op result ∷ []) path)

-- ---- an operation that was taken: from where it was launched on

pub record Lead (op : DmiOp) (i j : Inside) : Type 0 where
  pub at : Inside
  pub path : Course i [] at
  pub ahead : LivelyDeeds (harts_in i) i.works.site at.works.site
  pub waiting : Waiting op at j

pub lead_on : (op : DmiOp) (i j k : Inside) → ((a : Inside) → Waiting op a j → Waiting op a k) → Lead op i j → Lead op i k
lead_on op i j k on l = record { at = l.at; path = l.path; ahead = l.ahead; waiting = on l.at l.waiting }

-- with the number of harts that a chip has from its start on
pub harts_as : (i m : Inside) (hs : List Happening) (s t : Site) → Course i hs m → LivelyDeeds (harts_in m) s t → LivelyDeeds (harts_in i) s t
harts_as i m hs s t path l = subst (λ n. LivelyDeeds n s t) (course_harts i m hs path) l

pub ahead_of : (before between : ℕ) (v : ℕ) (i j : Inside) → Settled [] v i j → fair_within ≤ between → Paced i
    → LivelyDeeds (harts_in i) i.works.site (to_update before between j).works.site
ahead_of before between v i j s enough p =
    let m = ticks before j in
    let t : Settled [] v i m = settle_ticks before [] v i j s in
    then_lively (harts_in i) i.works.site m.works.site _ (alone_path i m t.path)
    (harts_as i m [] m.works.site _ t.path (lively_capture between m enough (course_paced i m [] t.path p) t.flight))

pub lead_begun : (op : DmiOp) (before between behind : ℕ) (v : ℕ) (i j : Inside) → IsOperation op → Settled [] v i j → fair_within ≤ between → Paced i
    → Lead op i (dr_inside before between behind (dmi_bits (carrying op)) Dmi j)
lead_begun op before between behind v i j small s enough p =
    let n = to_update before between j in
    let t : Settled [] v i n = settle_captured Dmi before between [] v i j s in
    record {
      at = n;
      path = t.path;
      ahead = ahead_of before between v i j s enough p;
      waiting = (launch_here op before between behind v j small (settled_here [] v i n t)).waiting;
    }

-- the operation whose result came, from its start on
pub record LedOut (op : DmiOp) (i k : Inside) : Type 0 where
  pub result : ℕ
  pub value : (dtm_of k).value ≡ result
  pub along : PacedAlong (harts_in i) i.works.site (with_result op result ∷ []) k.works.site

led_by : (op : DmiOp) (before between behind : ℕ) (i j : Inside) (out : DmiScan) (l : Lead op i j) → out.op ≡ 0 → fair_within ≤ between → Paced i
    → Carried op l.at j (ticks before j) (to_update before between j) (dr_inside before between behind (dmi_bits nop) Dmi j) out
    → LedOut op i (dr_inside before between behind (dmi_bits nop) Dmi j)
led_by op before between behind i j out l done enough p (going_on o w s b) = absurd (let no : ⊥ = omega (arith, done, o) in no)
led_by op before between behind i j out l done enough p (got_lost o w m) = absurd (let no : ⊥ = omega (arith, done, o) in no)
led_by op before between behind i j out l done enough p (came_back result o v a s) =
    let m = ticks before j in
    let hs = Launched op ∷ Performed op result ∷ [] in
    let path = course_append i l.at m [] hs l.path a.path in
    record {
      result = result;
      value = (nop_here before between behind hs result l.at j s).value_is;
      along = along_snoc (harts_in i) [] (with_result op result) i.works.site l.at.works.site m.works.site _ l.ahead (one_path l.at m op result a.path)
          (harts_as i m hs m.works.site _ path (lively_nop between behind m enough (course_paced i m hs path p) a.flight));
    }

pub led_out : (op : DmiOp) (before between behind : ℕ) (i j : Inside) (out : DmiScan) → Lead op i j → (dtm_of j).sticky ≡ Clear
    → out ≡ cut_scan (dmi_seen (dtm_of (ticks before j))) → out.op ≡ 0 → fair_within ≤ between → Paced i
    → LedOut op i (dr_inside before between behind (dmi_bits nop) Dmi j)
led_out op before between behind i j out l clear is done enough p =
    led_by op before between behind i j out l done enough p (carry op (dmi_bits nop) before between behind l.at j out l.waiting clear is)

-- ---- several operations

-- the first is launched
pub first_along : (i base : Inside) (done : List Operation) (v : ℕ) (before between : ℕ) (j : Inside) → done ≡ [] → Course i (each_once done) base
    → Settled [] v base j → fair_within ≤ between → Paced i
    → PacedAlong (harts_in i) i.works.site done (to_update before between j).works.site
first_along i base done v before between j none path s enough p =
    let c : Course i [] base = subst (λ os. Course i (each_once os) base) none path in
    let m = ticks before j in
    let t : Settled [] v base m = settle_ticks before [] v base j s in
    let whole : Course i [] m = course_append i base m [] [] c t.path in
    subst (λ os. PacedAlong (harts_in i) i.works.site os (to_update before between j).works.site) (sym none)
    (then_lively (harts_in i) i.works.site m.works.site _ (alone_path i m whole)
    (harts_as i m [] m.works.site _ whole (lively_capture between m enough (course_paced i m [] whole p) t.flight)))

-- to the capture that showed its result
to_capture : (i base m : Inside) (done : List Operation) (op : DmiOp) (result : ℕ) → Course i (each_once done) base
    → Course base (Launched op ∷ Performed op result ∷ []) m → Course i (each_once done ++ Launched op ∷ Performed op result ∷ []) m
to_capture i base m done op result c d = course_append i base m (each_once done) (Launched op ∷ Performed op result ∷ []) c d

-- the next is launched
pub next_along : (i base : Inside) (done : List Operation) (op : DmiOp) (result : ℕ) (before between : ℕ) (j : Inside)
    → PacedAlong (harts_in i) i.works.site done base.works.site → Course i (each_once done) base
    → Settled (Launched op ∷ Performed op result ∷ []) result base (ticks before j) → fair_within ≤ between → Paced i
    → PacedAlong (harts_in i) i.works.site (done ++ with_result op result ∷ []) (to_update before between j).works.site
next_along i base done op result before between j along c a enough p =
    let m = ticks before j in
    let path = to_capture i base m done op result c a.path in
    along_snoc (harts_in i) done (with_result op result) i.works.site base.works.site m.works.site _ along (one_path base m op result a.path)
    (harts_as i m _ m.works.site _ path (lively_capture between m enough (course_paced i m _ path p) a.flight))

-- and behind the last a nop
pub nop_ends : (i base m : Inside) (done : List Operation) (op : DmiOp) (result : ℕ) (between behind : ℕ) → Paced i → Course i (each_once done) base
    → Settled (Launched op ∷ Performed op result ∷ []) result base m → fair_within ≤ between
    → LivelyDeeds (harts_in i) m.works.site (ticks behind (update Dmi (dr_stays (dmi_bits nop) Dmi m) (ticks between (capture Dmi m)))).works.site
nop_ends i base m done op result between behind p c a enough =
    let path = to_capture i base m done op result c a.path in
    harts_as i m _ m.works.site _ path (lively_nop between behind m enough (course_paced i m _ path p) a.flight)
