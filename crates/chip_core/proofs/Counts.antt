-- That an event keeps the counts below their bounds: an operation that ends was in flight, and is counted for what it was.
use Rattle.std.proofs.Common.{◌≡◌, ◌+◌, ◌≤◌, Option, Some, None, refl, ap, arith}
use Rattle.debug_model.specs.declared.dmi_op.DmiOp.{DmiOp}
use Rattle.debug_model.specs.declared.event.Event.{Event}
use Rattle.debug_model.specs.declared.event.Event.TheVariants.{Turn, DmiDone, DmiFail, CmdStep, BusDone}
use Rattle.debug_model.specs.Chip.{Works, after_event, lost_by, performed_by}
use Rattle.debug_model.specs.Module.{operation_result}
use Rattle.debug_model.specs.Transport.{dropped_by, finished_by}
use Rattle.chip_core.specs.Counted.{IsCounted, in_flight}

performed_counted : (o : Option DmiOp) (w : Works) → w.dtm.flight ≡ o → IsCounted 0 w → IsCounted 0 (performed_by o w)
performed_counted None w here is = is
performed_counted (Some op) w here is =
    let before : in_flight w.dtm.flight ≡ 1 = ap in_flight here in
    let after : in_flight (finished_by w.dtm.flight (operation_result op w.site) w.dtm).flight ≡ 0 =
    ap (λ o. in_flight (finished_by o (operation_result op w.site) w.dtm).flight) here in
    let total : w.counts.dmi_done + w.counts.dmi_failed + in_flight w.dtm.flight ≤ w.counts.rounds + 0 = is.tally in
    record { tally = omega arith; busy = is.busy; rounds = is.rounds }

lost_counted : (o : Option DmiOp) (w : Works) → w.dtm.flight ≡ o → IsCounted 0 w → IsCounted 0 (lost_by o w)
lost_counted None w here is = is
lost_counted (Some op) w here is =
    let before : in_flight w.dtm.flight ≡ 1 = ap in_flight here in
    let after : in_flight (dropped_by w.dtm.flight w.dtm).flight ≡ 0 = ap (λ o. in_flight (dropped_by o w.dtm).flight) here in
    let total : w.counts.dmi_done + w.counts.dmi_failed + in_flight w.dtm.flight ≤ w.counts.rounds + 0 = is.tally in
    record { tally = omega arith; busy = is.busy; rounds = is.rounds }

pub event_counted : (e : Event) (w : Works) → IsCounted 0 w → IsCounted 0 (after_event e w)
unfolding after_event
event_counted (Turn h) w is = record { tally = is.tally; busy = is.busy; rounds = is.rounds }
event_counted DmiDone w is = performed_counted w.dtm.flight w refl is
event_counted DmiFail w is = lost_counted w.dtm.flight w refl is
event_counted CmdStep w is = record { tally = is.tally; busy = is.busy; rounds = is.rounds }
event_counted BusDone w is = record { tally = is.tally; busy = is.busy; rounds = is.rounds }
