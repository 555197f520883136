use Rattle.std.proofs.Common.{ap, set, ◌∙◌}
use Rattle.std.specs.Int.{from_le_bytes, w32}
use Rattle.soft_break.proofs.WordBytes.{replaced}
use Rattle.soft_break.proofs.bytes.with_byte.Goals as goal

pub returns : goal.returns
returns c =
    replaced c.args.word c.from_le_bytes.result c.args.place c.args.byte c.requires c.ranges.byte.fits
    (c.from_le_bytes.ensures ∙ ap (λ l. from_le_bytes w32 (set l c.args.place c.args.byte)) c.to_le_bytes-bytes.ensures)
