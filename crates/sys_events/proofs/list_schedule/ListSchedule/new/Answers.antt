use Rattle.std.proofs.Common.{◌≤◌, List, length, sym}
use Rattle.std.proofs.lemmas.List.Elements.{All-map}
use Rattle.debug_model.specs.declared.event.Event.{Event}
use Rattle.sys_events.proofs.list_schedule.ListSchedule.new.Goals as goal

pub returns-clause-few : goal.returns-clause-few
returns-clause-few c = All-map (λ (r : List Event). length r ≤ 8) (λ r. r.items) c.args.rounds.items (rw (sym c.deref.ensures.value) c.measure.ensures)
