use Rattle.std.proofs.Common.{◌≡◌, ◌+◌, ◌++◌, length, take}
use Rattle.probe_access.specs.AskedRuns.{looks_of}
use Rattle.probe_access.proofs.runs.put_looks.Given as goal

abbrev pub invariant-looks : goal.invariant-looks
invariant-looks l = record {
  put : take l.behind l.operations ≡ take l.fn.at l.fn.operations ++ looks_of l._look;
  place : l.behind ≡ l.fn.at + l._look;
  long : length l.operations ≡ length l.fn.operations;
}
