use Rattle.std.proofs.Common.{◌<◌, length, arith}
use Rattle.jt_base.proofs.Pieces.{all_taken}
use Rattle.jt_base.proofs.disk_files.read_whole.Goals as goal

pub returns-in-Ok-clause-whole : goal.returns-in-Ok-clause-whole
returns-in-Ok-clause-whole g c =
    let buf = c.read_to_end-outcome.new.buf in
    let small : length buf.items < c.take.result.limit =
    omega (arith, c.take.ensures.limit, c.saturating_add.ensures, c.len.ensures, c.if-len-limit.true, buf.ok.0, buf.small, c.ranges.limit.fits) in
    rw (← c.take.ensures.inner) (all_taken (g.S.Read.remaining c.take.result.inner) c.take.result.limit buf.items c.new-bytes.result.items
    c.new-bytes.ensures.items c.in-Ok.ensures.bytes small)
