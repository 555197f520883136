-- What changes no count of rounds: a round's events, and the counting of busy answers; and rounds one after another.
use Rattle.std.proofs.Common.{◌≡◌, ◌∙◌, ◌+◌, ℕ, zero, suc, List, [], ◌∷◌, Bool, true, false, Option, Some, None, refl, ap, arith}
use Rattle.debug_model.specs.Chip.{Inside, Works, after_event, after_events, busy_counted, lost_by, performed_by, tick}
use Rattle.debug_model.specs.Scan.{ticks}
use Rattle.debug_model.specs.declared.counts.Counts.{Counts}
use Rattle.debug_model.specs.declared.dmi_op.DmiOp.{DmiOp}
use Rattle.debug_model.specs.declared.event.Event.{Event}
use Rattle.debug_model.specs.declared.event.Event.TheVariants.{Turn, DmiDone, DmiFail, CmdStep, BusDone}

done_rounds : (flight : Option DmiOp) (w : Works) → (performed_by flight w).counts.rounds ≡ w.counts.rounds
done_rounds (Some op) w = refl
done_rounds None w = refl

lost_rounds : (flight : Option DmiOp) (w : Works) → (lost_by flight w).counts.rounds ≡ w.counts.rounds
lost_rounds (Some op) w = refl
lost_rounds None w = refl

event_rounds : (e : Event) (w : Works) → (after_event e w).counts.rounds ≡ w.counts.rounds
unfolding after_event
event_rounds (Turn h) w = refl
event_rounds DmiDone w = done_rounds w.dtm.flight w
event_rounds DmiFail w = lost_rounds w.dtm.flight w
event_rounds CmdStep w = refl
event_rounds BusDone w = refl

pub events_rounds : (es : List Event) (w : Works) → (after_events es w).counts.rounds ≡ w.counts.rounds
unfolding after_events
events_rounds [] w = refl
events_rounds (e ∷ es) w = events_rounds es (after_event e w) ∙ event_rounds e w

pub busy_rounds : (found : Bool) (k : Counts) → (busy_counted found k).rounds ≡ k.rounds
busy_rounds true k = refl
busy_rounds false k = refl

-- so many rounds, and so many more
pub ticks_join : (n m : ℕ) (i : Inside) → ticks m (ticks n i) ≡ ticks (n + m) i
unfolding ticks
ticks_join zero m i = let e : m ≡ zero + m = omega arith in ap (λ k. ticks k i) e
ticks_join (suc n) m i = let e : suc (n + m) ≡ suc n + m = omega arith in ticks_join n m (tick i) ∙ ap (λ k. ticks k i) e
