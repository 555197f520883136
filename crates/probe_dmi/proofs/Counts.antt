-- What the chip counts on a path: an operation that was lost, and a capture that found one in flight.
use Rattle.std.proofs.Common.{◌≡◌, ◌∙◌, ◌+◌, ◌≤◌, ℕ, zero, suc, List, [], ◌∷◌, ◌++◌, Bool, true, false, Option, Some, None, refl, ap, arith}
use Rattle.jt_base.specs.BitList.{number_of}
use Rattle.debug_model.specs.declared.counts.Counts.{Counts}
use Rattle.debug_model.specs.declared.data_register.DataRegister.{DataRegister}
use Rattle.debug_model.specs.declared.data_register.DataRegister.TheVariants.{Idcode, Dtmcs, Dmi, Bypass}
use Rattle.debug_model.specs.declared.dmi_op.DmiOp.{DmiOp}
use Rattle.debug_model.specs.declared.event.Event.{Event}
use Rattle.debug_model.specs.declared.event.Event.TheVariants.{Turn, DmiDone, DmiFail, CmdStep, BusDone}
use Rattle.debug_model.specs.declared.sticky.Sticky.{Sticky}
use Rattle.debug_model.specs.declared.sticky.Sticky.TheVariants as sticky
use Rattle.debug_model.specs.Chip.{Inside, Works, after_event, after_events, busy_counted, counted, lost_by, performed_by, tick}
use Rattle.debug_model.specs.Course.{Course, Happening, in_event, in_events, in_round, in_update, launches_by, loses, performs}
use Rattle.debug_model.specs.Course.Course.{nothing, round, captured, updated}
use Rattle.debug_model.specs.Course.Happening.{Launched, Performed, Lost}
use Rattle.debug_model.specs.Scan.{capture, dr_inside, dr_stays, dtm_of, ticks, update}
use Rattle.debug_model.specs.Schedule.{round_of}
use Rattle.debug_model.specs.Transport.{Dtm, operation_of, sets_busy}
use Rattle.debug_model.specs.TransportWords.{dmi_of}

abbrev pub counts_in : Inside → Counts
counts_in i = i.works.counts

-- ---- captures that found an operation in flight

done_busy : (f : Option DmiOp) (w : Works) → (performed_by f w).counts.dmi_busy ≡ w.counts.dmi_busy
done_busy (Some op) w = refl
done_busy None w = refl

lost_busy : (f : Option DmiOp) (w : Works) → (lost_by f w).counts.dmi_busy ≡ w.counts.dmi_busy
lost_busy (Some op) w = refl
lost_busy None w = refl

event_busy : (e : Event) (w : Works) → (after_event e w).counts.dmi_busy ≡ w.counts.dmi_busy
unfolding after_event
event_busy (Turn h) w = refl
event_busy DmiDone w = done_busy w.dtm.flight w
event_busy DmiFail w = lost_busy w.dtm.flight w
event_busy CmdStep w = refl
event_busy BusDone w = refl

events_busy : (es : List Event) (w : Works) → (after_events es w).counts.dmi_busy ≡ w.counts.dmi_busy
unfolding after_events
events_busy [] w = refl
events_busy (e ∷ es) w = events_busy es (after_event e w) ∙ event_busy e w

tick_busy : (j : Inside) → (counts_in (tick j)).dmi_busy ≡ (counts_in j).dmi_busy
unfolding tick
tick_busy j = events_busy (round_of j.plan) (counted j.works)

pub ticks_busy : (n : ℕ) (j : Inside) → (counts_in (ticks n j)).dmi_busy ≡ (counts_in j).dmi_busy
unfolding ticks
ticks_busy zero j = refl
ticks_busy (suc n) j = ticks_busy n (tick j) ∙ tick_busy j

pub busy_found : (found : Bool) (k : Counts) → found ≡ true → (busy_counted found k).dmi_busy ≡ k.dmi_busy + 1
busy_found true k e = refl
busy_found false k e = absurd (let no : ⊥ = cc in no)

pub busy_unfound : (found : Bool) (k : Counts) → found ≡ false → (busy_counted found k).dmi_busy ≡ k.dmi_busy
busy_unfound true k e = absurd (let no : ⊥ = cc in no)
busy_unfound false k e = refl

-- a scan
pub scan_found : (before between behind : ℕ) (bits : List Bool) (r : DataRegister) (i : Inside) → sets_busy r (dtm_of (ticks before i)) ≡ true
    → (counts_in (dr_inside before between behind bits r i)).dmi_busy ≡ (counts_in i).dmi_busy + 1
scan_found before between behind bits r i found =
    ticks_busy behind _ ∙ ticks_busy between (capture r (ticks before i))
    ∙ busy_found (sets_busy r (dtm_of (ticks before i))) (counts_in (ticks before i)) found ∙ ap (λ n. n + 1) (ticks_busy before i)

pub scan_unfound : (before between behind : ℕ) (bits : List Bool) (r : DataRegister) (i : Inside) → sets_busy r (dtm_of (ticks before i)) ≡ false
    → (counts_in (dr_inside before between behind bits r i)).dmi_busy ≡ (counts_in i).dmi_busy
scan_unfound before between behind bits r i found =
    ticks_busy behind _ ∙ ticks_busy between (capture r (ticks before i))
    ∙ busy_unfound (sets_busy r (dtm_of (ticks before i))) (counts_in (ticks before i)) found ∙ ticks_busy before i

-- ---- operations that were lost

unfoldable pub losses : List Happening → ℕ
losses [] = 0
losses (Launched op ∷ hs) = losses hs
losses (Performed op result ∷ hs) = losses hs
losses (Lost op ∷ hs) = losses hs + 1

pub losses-append : (hs ks : List Happening) → losses (hs ++ ks) ≡ losses hs + losses ks
unfolding losses
losses-append [] ks = omega arith
losses-append (Launched op ∷ hs) ks = losses-append hs ks
losses-append (Performed op result ∷ hs) ks = losses-append hs ks
losses-append (Lost op ∷ hs) ks = omega (arith, losses-append hs ks)

done_losses : (f : Option DmiOp) (w : Works) → (performed_by f w).counts.dmi_failed ≡ w.counts.dmi_failed + losses (performs f w.site)
unfolding losses
done_losses (Some op) w = omega arith
done_losses None w = omega arith

lost_losses : (f : Option DmiOp) (w : Works) → (lost_by f w).counts.dmi_failed ≡ w.counts.dmi_failed + losses (loses f)
unfolding losses
lost_losses (Some op) w = omega arith
lost_losses None w = omega arith

event_losses : (e : Event) (w : Works) → (after_event e w).counts.dmi_failed ≡ w.counts.dmi_failed + losses (in_event e w)
unfolding losses after_event
event_losses (Turn h) w = omega arith
event_losses DmiDone w = done_losses w.dtm.flight w
event_losses DmiFail w = lost_losses w.dtm.flight w
event_losses CmdStep w = omega arith
event_losses BusDone w = omega arith

events_losses : (es : List Event) (w : Works) → (after_events es w).counts.dmi_failed ≡ w.counts.dmi_failed + losses (in_events es w)
unfolding losses in_events after_events
events_losses [] w = omega arith
events_losses (e ∷ es) w =
    let first = event_losses e w in
    let rest = events_losses es (after_event e w) in
    omega (arith, first, rest, losses-append (in_event e w) (in_events es (after_event e w)))

tick_losses : (j : Inside) → (counts_in (tick j)).dmi_failed ≡ (counts_in j).dmi_failed + losses (in_round j)
unfolding tick
tick_losses j = events_losses (round_of j.plan) (counted j.works)

busy_losses : (found : Bool) (k : Counts) → (busy_counted found k).dmi_failed ≡ k.dmi_failed
busy_losses true k = refl
busy_losses false k = refl

launch_losses : (s : Sticky) (op : Option DmiOp) → losses (launches_by s op) ≡ 0
unfolding losses
launch_losses sticky.Clear (Some op) = refl
launch_losses sticky.Clear None = refl
launch_losses sticky.Failed op = refl
launch_losses sticky.Busy op = refl

pub update_losses : (r : DataRegister) (bits : List Bool) (d : Dtm) → losses (in_update r bits d) ≡ 0
unfolding losses
update_losses Dmi bits d = launch_losses d.sticky (operation_of (dmi_of (number_of bits)))
update_losses Dtmcs bits d = refl
update_losses Idcode bits d = refl
update_losses Bypass bits d = refl

pub course_losses : (i j : Inside) (hs : List Happening) → Course i hs j → (counts_in j).dmi_failed ≡ (counts_in i).dmi_failed + losses hs
unfolding losses
course_losses i j hs nothing = omega arith
course_losses i j hs (round before k c) = omega (arith, tick_losses k, course_losses i k before c, losses-append before (in_round k))
course_losses i j hs (captured r before k c) = busy_losses (sets_busy r (dtm_of k)) (counts_in k) ∙ course_losses i k before c
course_losses i j hs (updated r bits before k c) =
    omega (arith, course_losses i k before c, losses-append before (in_update r bits (dtm_of k)), update_losses r bits (dtm_of k))

ticks_losses : (n : ℕ) (j : Inside) → (counts_in j).dmi_failed ≤ (counts_in (ticks n j)).dmi_failed
unfolding ticks
ticks_losses zero j = omega arith
ticks_losses (suc n) j = omega (arith, tick_losses j, ticks_losses n (tick j))

-- a scan forgets no operation that was lost before its capture
pub scan_losses : (before between behind : ℕ) (bits : List Bool) (r : DataRegister) (i : Inside)
    → (counts_in (ticks before i)).dmi_failed ≤ (counts_in (dr_inside before between behind bits r i)).dmi_failed
scan_losses before between behind bits r i =
    let m = ticks before i in
    let n = ticks between (capture r m) in
    let u = update r (dr_stays bits r m) n in
    omega (arith, busy_losses (sets_busy r (dtm_of m)) (counts_in m), ticks_losses between (capture r m), ticks_losses behind u)

pub losses_one : (op : DmiOp) (hs : List Happening) → hs ≡ Launched op ∷ Lost op ∷ [] → losses hs ≡ 1
unfolding losses
losses_one op hs h = ap losses h
