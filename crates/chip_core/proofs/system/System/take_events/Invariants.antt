use Rattle.std.proofs.Common.{◌≡◌, ◌+◌, ◌*◌, ◌≤◌, length}
use Rattle.debug_model.specs.Chip.{after_events}
use Rattle.sys_events.specs.Journal.{journal_room}
use Rattle.chip_core.specs.Counted.{IsCounted}
use Rattle.chip_core.specs.Parts.{with_works}
use Rattle.chip_core.proofs.system.System.take_events.Given as goal

abbrev pub invariant-events : goal.invariant-events
invariant-events l = record {
  done : with_works (after_events l.rest l.self.works) l.self ≡ with_works (after_events l.fn.events l.fn.self.works) l.fn.self;
  room : length l.self.works.site.journal + 2 * length l.rest ≤ journal_room;
  counted : IsCounted 0 l.self.works;
}

abbrev pub decreases-events : goal.decreases-events
decreases-events l = length l.rest
