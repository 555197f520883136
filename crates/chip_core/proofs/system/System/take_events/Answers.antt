use Rattle.std.proofs.Common.{ap, sym, ◌∙◌, arith}
use Rattle.debug_model.specs.Chip.{after_events}
use Rattle.chip_core.specs.Parts.{with_works}
use Rattle.chip_core.proofs.Firsts.{events_first, events_none, tail, tail_length}
use Rattle.chip_core.proofs.system.System.take_events.Goals as goal

pub events-preserved : goal.events-preserved
events-preserved c =
    let old = c.events.self in
    let rest = c.events.rest.now in
    let some = c.in-len1-up.len_at_least in
    record {
      done = ap (λ p. with_works (after_events (tail rest) p.works) p) c.take_event.ensures.event
          ∙ ap (λ w. with_works w old) (events_first old.works rest some) ∙ c.events.invariant.done;
      room = omega (arith, c.take_event.ensures.room, c.events.invariant.room, tail_length rest some);
      counted = c.take_event.ensures.counted;
    }

pub returns-clause-events : goal.returns-clause-events
returns-clause-events c = ap (λ w. with_works w c.events.self) (sym (events_none c.events.self.works c.events.rest.now c.in_default.len_below))
    ∙ c.events.invariant.done
