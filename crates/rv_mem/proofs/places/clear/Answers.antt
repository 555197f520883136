use Rattle.std.proofs.Common.{None, arith}
use Rattle.std.proofs.lemmas.List.{get_or_default}
use Rattle.std.proofs.lemmas.List.Edits.{map_over_more}
use Rattle.rv_model.specs.Memory.{kept}
use Rattle.rv_mem.proofs.places.clear.Goals as goal

pub loop-place-preserved : goal.loop-place-preserved
loop-place-preserved c =
    rw c.kept_place.ensures (map_over_more (kept c.args.addr c.args.count) c.args.places.now c.loop-place.places c.loop-place.place-index _ (omega arith)
    c.loop-place.invariant (get_or_default c.loop-place.places c.loop-place.place-index None _ (omega arith)))
