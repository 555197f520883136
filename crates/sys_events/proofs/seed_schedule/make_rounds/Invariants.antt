use Rattle.std.proofs.Common.{◌≡◌}
use Rattle.std.specs.Prelude.{map}
use Rattle.arrayvec.specs.ArrayVec.{array_vec_len}
use Rattle.sys_events.specs.Seed.{round_at}
use Rattle.std.specs.List.{range_with_len}
use Rattle.sys_events.proofs.seed_schedule.make_rounds.Given as goal

abbrev pub invariant-loop-number : goal.invariant-loop-number
invariant-loop-number l = record {
  made : map (λ r. r.items) l.rounds.items ≡ map (round_at l.busy l.pairs) (range_with_len 0 l.number);
  count : array_vec_len l.rounds ≡ l.number;
}
