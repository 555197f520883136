use Rattle.std.proofs.Common.{◌≡◌, ◌≤◌, ◌+◌, ◌-◌, ◌*◌, if◌then◌else◌}
use Rattle.debug_model.specs.Scan.{WhereTold}
use Rattle.probe_dmi.specs.Pace.{IsPace}
use Rattle.debug_model.specs.Kept.{ScanRests}
use Rattle.debug_model.specs.declared.data_register.DataRegister.TheVariants.{Dmi}
use Rattle.probe_dmi.specs.declared.state.State.TheVariants.{Idle}
use Rattle.probe_dmi.specs.Registers.{IsChosen, IsWidth}
use Rattle.probe_dmi.proofs.Asking.{CarriedSoFar}
use Rattle.probe_dmi.proofs.Heard.{SoFar}
use Rattle.probe_dmi.proofs.Spending.{SpentWithin, taken_count}
use Rattle.probe_dmi.proofs.Told.{Underway}
use Rattle.probe_dmi.proofs.register.Registers.operate.Given as goal

abbrev pub invariant-scans : goal.invariant-scans
invariant-scans g l = record {
  underway : WhereTold (Underway l.op l.taken l.busy) (g.S.Scan.seen l.fn.self.scan).far (g.S.Scan.seen l.self.scan).far;
  spent : SpentWithin (2 + taken_count l.taken) (17 + 46 * taken_count l.taken) (46 * taken_count l.taken) (taken_count l.taken) 0
      (g.S.Scan.seen l.fn.self.scan) (g.S.Scan.seen l.self.scan);
  so_far : SoFar l.busy l.taken (g.S.Scan.seen l.fn.self.scan).coming (g.S.Scan.seen l.self.scan).coming;
  asked : CarriedSoFar l.fn.self.state l.abits l.op l.busy l.taken (g.S.Scan.seen l.fn.self.scan).asked (g.S.Scan.seen l.self.scan).asked;
  rests : ScanRests (g.S.Scan.seen l.self.scan);
  chosen : IsChosen Dmi (g.S.Scan.seen l.self.scan).far;
  idle : l.self.state ≡ Idle;
  width : IsWidth l.abits (g.S.Scan.seen l.self.scan).far;
  few : l.busy ≤ 64;
  pace : IsPace l.pace;
  paced : l.pace.most ≡ l.fn.pace.most;
  later : (g.S.Scan.seen l.fn.self.scan).fault_count ≤ (g.S.Scan.seen l.self.scan).fault_count;
  fixed : (g.S.Scan.seen l.self.scan).fixed ≡ (g.S.Scan.seen l.fn.self.scan).fixed;
}

abbrev pub decreases-scans : goal.decreases-scans
decreases-scans g l = 2 * (64 - l.busy) + (if l.taken then 0 else 1)
