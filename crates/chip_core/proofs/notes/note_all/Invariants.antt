use Rattle.std.proofs.Common.{◌≡◌, ◌+◌, ◌≤◌, ◌++◌, length}
use Rattle.sys_events.specs.Journal.{journal_room}
use Rattle.chip_core.proofs.notes.note_all.Given as goal

abbrev pub invariant-points : goal.invariant-points
invariant-points l = record {
  points : l.journal ++ l.rest ≡ l.fn.journal ++ l.fn.points;
  fits : length l.journal + length l.rest ≤ journal_room;
}

abbrev pub decreases-points : goal.decreases-points
decreases-points l = length l.rest
