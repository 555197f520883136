use Rattle.std.proofs.Common.{ap, ◌∙◌}
use Rattle.rv_model.specs.Image.{ram_size}
use Rattle.chip_core.proofs.Loads.{made_size}
use Rattle.chip_core.proofs.bench.load.make_ram.Goals as goal

pub fill-requires : goal.fill-requires
fill-requires c = rw (ap ram_size c.in-Ok.ensures.zeros ∙ made_size c.args.size c.args.harts c.requires.most) c.if-image-size.false
