-- What is seen of scans through a chain: its chip, as one that stands alone is seen, with the clocks that go around the others.
use Rattle.std.specs.Prelude.{ℕ, List, Bool, Option, Some, is_some}
use Rattle.debug_model.specs.Kept.{ScanSeen}
use Rattle.debug_model.specs.Ties.{Ties}
use Rattle.debug_model.specs.declared.wire.WireFault.{WireFault}
use Rattle.probe_scan.specs.Answers.{scan_seen}
use Rattle.chain_scan.specs.Told.{ChainFar, chip_told}

-- how much oftener than its path alone a call lets TCK rise at most: a reset by the scan of all instruction registers behind it, the path of which has 11
-- clocks
-- and 8 bits for each of seven others
abbrev pub chain_slack : ℕ
chain_slack = 67

-- the far end, the answers that are to come, the instruction that is remembered, the count of faults, what stays of the things below, and the wire's faults
abbrev pub chain_seen : Option ChainFar → Option (List ℕ) → Option ℕ → ℕ → Ties → (WireFault → Bool) → ScanSeen
chain_seen told coming code fault_count ties gives = record (scan_seen (chip_told told) coming fault_count ties gives) {
  bypassed = is_some code;
  fixed = record (scan_seen (chip_told told) coming fault_count ties gives).fixed { slack = Some chain_slack };
}
