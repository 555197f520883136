use Rattle.std.proofs.Common.{inl, inr}
use Rattle.wire_sniff.proofs.scan.Scan.rise.Goals as goal

pub returns-in-ShiftDr-clause-scan : goal.returns-in-ShiftDr-clause-scan
returns-in-ShiftDr-clause-scan c = λ given taken is. elim c.in-ShiftDr.is [
  | inl e ↦ rw e (c.shift.ensures.bit given taken is)
  | inr e ↦ rw e (c.shift.ensures.bit given taken is)
]
