use Rattle.std.proofs.Common.{ℕ, ◌<◌, ◌≤◌, [], get_or}
use Rattle.arrayvec.specs.ArrayVec.{array_vec_len}
use Rattle.sys_events.proofs.list_schedule.measure.Given as goal

abbrev pub invariant-loop-round : goal.invariant-loop-round
invariant-loop-round l = (k : ℕ) → k < l.round-index → array_vec_len (get_or l.rounds k (record { items = [] })) ≤ 8
