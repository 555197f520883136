-- What is gone from `rest` was written.
use Rattle.std.proofs.Common.{◌≡◌, ℕ, List, ◌++◌, length}
use Rattle.std.specs.Io.KnownBytes.{Appends}
use Rattle.jtag_net.proofs.stream.write_whole.Given as goal

abbrev pub invariant-pieces : goal.invariant-pieces
invariant-pieces g l = (done : List ℕ) × (l.fn.bytes ≡ done ++ l.rest) × Appends (g.S.Write.contents l.fn.stream) (g.S.Write.contents l.stream) done

abbrev pub decreases-pieces : goal.decreases-pieces
decreases-pieces g l = length l.rest
