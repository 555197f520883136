use Rattle.std.proofs.Common.{◌≡◌, ◌<◌, ◌≤◌, ◌+◌, ◌-◌, ◌*◌, All, length, false, if◌then◌else◌}
use Rattle.debug_model.specs.Dmi.{IsOperation}
use Rattle.debug_model.specs.Kept.{ScanRests}
use Rattle.debug_model.specs.Scan.{WhereTold}
use Rattle.debug_model.specs.declared.data_register.DataRegister.TheVariants.{Dmi}
use Rattle.probe_dmi.specs.declared.state.State.TheVariants.{Idle}
use Rattle.probe_dmi.specs.Pace.{IsPace}
use Rattle.probe_dmi.specs.Registers.{IsChosen, IsWidth}
use Rattle.probe_dmi.proofs.Asking.{StreamsSoFar}
use Rattle.probe_dmi.proofs.ManyHeard.{HeardSoFar}
use Rattle.probe_dmi.specs.Rises.{waits_most}
use Rattle.probe_dmi.proofs.Spending.{SpentWithin}
use Rattle.probe_dmi.proofs.StreamSpending.{clocks_spent, scans_spent}
use Rattle.probe_dmi.proofs.Streams.{Streaming}
use Rattle.probe_dmi.proofs.register.Registers.stream.Given as goal

abbrev pub invariant-scans : goal.invariant-scans
invariant-scans g l = record {
  streaming : WhereTold (Streaming l.ops l.results.items l.rest l.in_flight l.busy) (g.S.Scan.seen l.fn.self.scan).far (g.S.Scan.seen l.self.scan).far;
  spent : SpentWithin (scans_spent (length l.ops) (length l.ops - length l.rest) l.busy) (clocks_spent (length l.ops) (length l.ops - length l.rest) l.busy)
      (46 * (length l.ops - length l.rest)) (length l.ops - length l.rest) l.busy (g.S.Scan.seen l.fn.self.scan) (g.S.Scan.seen l.self.scan);
  share : l.clocks ≤ waits_most (length l.ops);
  waited : 0 < l.busy → l.clocks ≡ 0;
  heard : HeardSoFar (length l.ops) (length l.rest) l.busy l.in_flight l.results.items (g.S.Scan.seen l.fn.self.scan).coming (g.S.Scan.seen l.self.scan).coming;
  asked : StreamsSoFar l.fn.self.state l.abits l.ops l.rest (g.S.Scan.seen l.fn.self.scan).asked (g.S.Scan.seen l.self.scan).asked;
  rests : ScanRests (g.S.Scan.seen l.self.scan);
  chosen : IsChosen Dmi (g.S.Scan.seen l.self.scan).far;
  idle : l.self.state ≡ Idle;
  width : IsWidth l.abits (g.S.Scan.seen l.self.scan).far;
  small : All IsOperation l.rest;
  started : l.in_flight ≡ false → 0 < length l.rest;
  room : length l.results.items + (if l.in_flight then 1 else 0) + length l.rest ≡ length l.ops;
  few : l.busy ≤ 64;
  waits : l.clocks ≤ 24;
  pace : IsPace l.pace;
  paced : l.pace.most ≡ l.fn.pace.most;
  later : (g.S.Scan.seen l.fn.self.scan).fault_count ≤ (g.S.Scan.seen l.self.scan).fault_count;
  fixed : (g.S.Scan.seen l.self.scan).fixed ≡ (g.S.Scan.seen l.fn.self.scan).fixed;
}

abbrev pub decreases-scans : goal.decreases-scans
decreases-scans g l = 65 * length l.rest + (64 - l.busy)
