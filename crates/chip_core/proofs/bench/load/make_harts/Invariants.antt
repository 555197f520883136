use Rattle.std.proofs.Common.{◌≡◌, ◌≤◌, vec_len}
use Rattle.debug_model.specs.Loaded.{loaded_harts}
use Rattle.hart_debug.specs.Changes.{start_cause}
use Rattle.chip_core.proofs.bench.load.make_harts.Given as goal

abbrev pub invariant-loop-id : goal.invariant-loop-id
invariant-loop-id l = record {
  harts : l.harts.items ≡ loaded_harts l.version l.id (start_cause l.start);
  few : vec_len l.harts ≤ l.id;
}
