use Rattle.std.proofs.Common.{◌≡◌, ◌≤◌, take}
use Rattle.arrayvec.specs.ArrayVec.{array_vec_len}
use Rattle.sys_events.specs.Seed.{round_at}
use Rattle.sys_events.proofs.seed_schedule.make_round.Given as goal

abbrev pub invariant-loop-event : goal.invariant-loop-event
invariant-loop-event l = (l.round.items ≡ round_at l.busy (take l.event-index l.pairs) l.number)
    × (array_vec_len l.round ≤ l.event-index)
