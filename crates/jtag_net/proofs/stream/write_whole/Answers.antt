use Rattle.std.proofs.Common.{take, ◌++◌}
use Rattle.std.proofs.KnownBytes.{Appends-trans}
use Rattle.jtag_net.proofs.Pieces.{more_done}
use Rattle.jtag_net.proofs.stream.write_whole.Goals as goal

pub pieces-preserved : goal.pieces-preserved
pieces-preserved g c =
    let (done, cut, appended) = c.pieces.invariant in
    let rest = c.pieces.rest.now in
    let n = c.in_ok-count.count in
    (done ++ take n rest, more_done _ done rest n cut, Appends-trans _ _ _ _ _ appended c.in_ok-count.ensures.bytes)
