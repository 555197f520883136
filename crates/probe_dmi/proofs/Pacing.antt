-- Rounds of a chip whose schedule is fair: they perform what is in flight within so many, and lose nothing.
use Rattle.std.proofs.Common.{◌≡◌, ◌∙◌, ℕ, zero, suc, ◌+◌, ◌<◌, ◌≤◌, List, [], ◌∷◌, Bool, Option, Some, None, refl, sym, ap, subst, arith}
use Rattle.std.proofs.Common.{Contains}
use Rattle.chip_laws.proofs.Pace.{course_paced, tick_paced}
use Rattle.debug_model.specs.declared.data_register.DataRegister.{DataRegister}
use Rattle.debug_model.specs.declared.dmi_op.DmiOp.{DmiOp}
use Rattle.debug_model.specs.declared.event.Event.{Event}
use Rattle.debug_model.specs.declared.event.Event.TheVariants.{Turn, DmiDone, DmiFail, CmdStep, BusDone}
use Rattle.debug_model.specs.Chip.{Inside, Works, after_event, after_events, counted, performed_by, tick}
use Rattle.debug_model.specs.Course.{Course, Happening, in_event, in_events, in_round, in_update, performs}
use Rattle.debug_model.specs.Course.Course.{nothing, round, captured, updated}
use Rattle.debug_model.specs.Module.{Site, operation_result}
use Rattle.debug_model.specs.Pacing.{Paced, fair_within}
use Rattle.debug_model.specs.Scan.{capture, dr_inside, dr_stays, dtm_of, ticks, update}
use Rattle.debug_model.specs.Schedule.{RoundPlan, moved, round_after, round_of}
use Rattle.debug_model.specs.Transport.{Dtm, finished_by}
use Rattle.probe_dmi.proofs.Counts.{losses, losses-append, update_losses}
use Rattle.probe_dmi.proofs.Flight.{events_quiet, tick_quiet}

-- ---- nothing in flight

pub ticks_none : (n : ℕ) (i : Inside) → (dtm_of i).flight ≡ None → (dtm_of (ticks n i)).flight ≡ None
unfolding ticks
ticks_none zero i none = none
ticks_none (suc n) i none = ticks_none n (tick i) (ap (λ (d : Dtm). d.flight) (tick_quiet i none).same ∙ none)

-- ---- what is in flight lands

finished_none : (flight : Option DmiOp) (result : ℕ) (d : Dtm) → d.flight ≡ flight → (finished_by flight result d).flight ≡ None
finished_none (Some op) result d e = refl
finished_none None result d e = e

done_none : (flight : Option DmiOp) (w : Works) → w.dtm.flight ≡ flight → (performed_by flight w).dtm.flight ≡ None
done_none (Some op) w e = finished_none w.dtm.flight (operation_result op w.site) w.dtm refl
done_none None w e = e

events_none : (es : List Event) (w : Works) → w.dtm.flight ≡ None → (after_events es w).dtm.flight ≡ None
events_none es w none = ap (λ (d : Dtm). d.flight) (events_quiet es w none).same ∙ none

done_lands : (e : Event) (w : Works) → e ≡ DmiDone → (after_event e w).dtm.flight ≡ None
unfolding after_event
done_lands DmiDone w is = done_none w.dtm.flight w refl
done_lands (Turn h) w is = absurd (let no : ⊥ = cc in no)
done_lands DmiFail w is = absurd (let no : ⊥ = cc in no)
done_lands CmdStep w is = absurd (let no : ⊥ = cc in no)
done_lands BusDone w is = absurd (let no : ⊥ = cc in no)

events_land : (es : List Event) (w : Works) → Contains es DmiDone → (after_events es w).dtm.flight ≡ None
unfolding after_events
events_land [] w (n, below, is) = absurd (omega arith)
events_land (e ∷ es) w (zero, below, is) = events_none es (after_event e w) (done_lands e w is)
events_land (e ∷ es) w (suc n, below, is) = events_land es (after_event e w) (n, omega arith, is)

tick_lands : (i : Inside) → Contains (round_of i.plan) DmiDone → (dtm_of (tick i)).flight ≡ None
unfolding tick
tick_lands i c = events_land (round_of i.plan) (counted i.works) c

moved_plan : (i : Inside) → (tick i).plan ≡ moved i.plan
unfolding tick
moved_plan i = refl

land_at : (k n : ℕ) (i : Inside) → k < n → Contains (round_after k i.plan) DmiDone → (dtm_of (ticks n i)).flight ≡ None
unfolding ticks
land_at k zero i below c = absurd (omega arith)
land_at zero (suc n) i below c = ticks_none n (tick i) (tick_lands i c)
land_at (suc k) (suc n) i below c =
    land_at k n (tick i) (omega arith) (subst (λ (p : RoundPlan). Contains (round_after k p) DmiDone) (sym (moved_plan i)) c)

pub ticks_land : (n : ℕ) (i : Inside) → fair_within ≤ n → Paced i → (dtm_of (ticks n i)).flight ≡ None
ticks_land n i enough p =
    let comes = p.fair.dmi_done 0 in
    let first : 0 + comes.0 ≡ comes.0 = omega arith in
    let below : comes.0 < fair_within = comes.1 in
    land_at comes.0 n i (omega arith) (subst (λ k. Contains (round_after k i.plan) DmiDone) first comes.2)

-- ---- nothing is lost

done_losses : (flight : Option DmiOp) (s : Site) → losses (performs flight s) ≡ 0
unfolding losses
done_losses (Some op) s = refl
done_losses None s = refl

event_losses : (e : Event) (w : Works) → (e ≡ DmiFail → ⊥) → losses (in_event e w) ≡ 0
unfolding losses
event_losses (Turn h) w kept = refl
event_losses DmiDone w kept = done_losses w.dtm.flight w.site
event_losses DmiFail w kept = absurd (kept refl)
event_losses CmdStep w kept = refl
event_losses BusDone w kept = refl

events_losses : (es : List Event) (w : Works) → (Contains es DmiFail → ⊥) → losses (in_events es w) ≡ 0
unfolding losses in_events
events_losses [] w kept = refl
events_losses (e ∷ es) w kept =
    let first : losses (in_event e w) ≡ 0 = event_losses e w (λ is. kept (0, omega arith, is)) in
    let more : losses (in_events es (after_event e w)) ≡ 0 =
    events_losses es (after_event e w) (λ c. kept (suc c.0, (let below = c.1 in omega arith), c.2)) in
    omega (arith, first, more, losses-append (in_event e w) (in_events es (after_event e w)))

pub course_losses_none : (i j : Inside) (hs : List Happening) → Course i hs j → Paced i → losses hs ≡ 0
unfolding losses
course_losses_none i j hs nothing p = refl
course_losses_none i j hs (round before k c) p =
    omega (
      arith,
      course_losses_none i k before c p,
      losses-append before (in_round k),
      events_losses (round_of k.plan) (counted k.works) ((course_paced i k before c p).fair.no_dmi_fail 0),
    )
course_losses_none i j hs (captured r before k c) p = course_losses_none i k before c p
course_losses_none i j hs (updated r bits before k c) p =
    omega (arith, course_losses_none i k before c p, losses-append before (in_update r bits (dtm_of k)), update_losses r bits (dtm_of k))

-- ---- along a scan

pub ticks_paced : (n : ℕ) (i : Inside) → Paced i → Paced (ticks n i)
unfolding ticks
ticks_paced zero i p = p
ticks_paced (suc n) i p = ticks_paced n (tick i) (tick_paced i p)

pub capture_paced : (r : DataRegister) (i : Inside) → Paced i → Paced (capture r i)
capture_paced r i p = record { fair = p.fair; goes_on = p.goes_on }

pub update_paced : (r : DataRegister) (bits : List Bool) (i : Inside) → Paced i → Paced (update r bits i)
update_paced r bits i p = record { fair = p.fair; goes_on = p.goes_on }

pub scan_paced : (before between behind : ℕ) (bits : List Bool) (r : DataRegister) (i : Inside) → Paced i → Paced (dr_inside before between behind bits r i)
scan_paced before between behind bits r i p =
    let m = ticks before i in
    let n = ticks between (capture r m) in
    let left = dr_stays bits r m in
    ticks_paced behind (update r left n)
    (update_paced r left n (ticks_paced between (capture r m) (capture_paced r m (ticks_paced before i p))))
