use Rattle.std.proofs.Common.{◌≡◌}
use Rattle.std.specs.Prelude.{map, slice_index}
use Rattle.std.specs.List.{range_with_len}
use Rattle.arrayvec.specs.ArrayVec.{array_vec_len}
use Rattle.debug_model.specs.declared.event.Event.TheVariants.{Turn}
use Rattle.sys_events.proofs.seed_schedule.pair.Given as goal

abbrev pub invariant-turns : goal.invariant-turns
invariant-turns l = (l.pairs.items ≡ map (λ h. (Turn h, slice_index l.words h)) (range_with_len 0 l.hart))
    × (array_vec_len l.pairs ≡ l.hart)
