-- The sticky status is no matter of rounds.
use Rattle.std.proofs.Common.{◌≡◌, ◌∙◌, ℕ, List, [], ◌∷◌, Option, Some, None, refl}
use Rattle.debug_model.specs.declared.dmi_op.DmiOp.{DmiOp}
use Rattle.debug_model.specs.declared.event.Event.{Event}
use Rattle.debug_model.specs.declared.event.Event.TheVariants.{Turn, DmiDone, DmiFail, CmdStep, BusDone}
use Rattle.debug_model.specs.Chip.{Inside, Works, after_event, after_events, counted, lost_by, performed_by, tick}
use Rattle.debug_model.specs.Module.{operation_result}
use Rattle.debug_model.specs.Schedule.{round_of}
use Rattle.debug_model.specs.Transport.{Dtm, dropped_by, finished_by}

finished_sticky : (f : Option DmiOp) (result : ℕ) (d : Dtm) → (finished_by f result d).sticky ≡ d.sticky
finished_sticky (Some op) result d = refl
finished_sticky None result d = refl

done_sticky : (f : Option DmiOp) (w : Works) → (performed_by f w).dtm.sticky ≡ w.dtm.sticky
done_sticky (Some op) w = finished_sticky w.dtm.flight (operation_result op w.site) w.dtm
done_sticky None w = refl

dropped_sticky : (f : Option DmiOp) (d : Dtm) → (dropped_by f d).sticky ≡ d.sticky
dropped_sticky (Some op) d = refl
dropped_sticky None d = refl

lost_sticky : (f : Option DmiOp) (w : Works) → (lost_by f w).dtm.sticky ≡ w.dtm.sticky
lost_sticky (Some op) w = dropped_sticky w.dtm.flight w.dtm
lost_sticky None w = refl

event_sticky : (e : Event) (w : Works) → (after_event e w).dtm.sticky ≡ w.dtm.sticky
unfolding after_event
event_sticky (Turn h) w = refl
event_sticky DmiDone w = done_sticky w.dtm.flight w
event_sticky DmiFail w = lost_sticky w.dtm.flight w
event_sticky CmdStep w = refl
event_sticky BusDone w = refl

events_sticky : (es : List Event) (w : Works) → (after_events es w).dtm.sticky ≡ w.dtm.sticky
unfolding after_events
events_sticky [] w = refl
events_sticky (e ∷ es) w = events_sticky es (after_event e w) ∙ event_sticky e w

pub tick_sticky : (i : Inside) → (tick i).works.dtm.sticky ≡ i.works.dtm.sticky
unfolding tick
tick_sticky i = events_sticky (round_of i.plan) (counted i.works)
