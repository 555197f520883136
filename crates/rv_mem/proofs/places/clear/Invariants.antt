use Rattle.std.proofs.Common.{◌≡◌, map, take, drop, ◌++◌}
use Rattle.rv_model.specs.Memory.{kept}
use Rattle.rv_mem.proofs.places.clear.Given as goal

abbrev pub invariant-loop-place : goal.invariant-loop-place
invariant-loop-place l = l.places ≡ map (kept l.addr l.count) (take l.place-index l.fn.places) ++ drop l.place-index l.fn.places
