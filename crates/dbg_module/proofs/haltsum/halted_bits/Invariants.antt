use Rattle.std.proofs.Common.{◌≡◌, ◌≤◌, length, map, take}
use Rattle.rv_model.specs.Memory.{hart_places}
use Rattle.debug_model.specs.Module.{is_halted}
use Rattle.dbg_module.proofs.haltsum.halted_bits.Given as goal

abbrev pub invariant-loop-hart : goal.invariant-loop-hart
invariant-loop-hart l = record { bits : l.bits ≡ map is_halted (take l.hart-index l.harts); few : length l.harts ≤ hart_places }
