-- A count that rose late in a call rose in the whole call.
use Rattle.std.proofs.Common.{◌≤◌, ℕ, arith}
use Rattle.jt_base.specs.Faults.{Rises}

pub rises_from : (old mid new : ℕ) → old ≤ mid → mid ≤ new → Rises mid new → Rises old new
rises_from old mid new before behind rises below = grind (arith, rises)
