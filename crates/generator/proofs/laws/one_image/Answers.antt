use Rattle.generator.specs.SeedWords.{program_words}
use Rattle.generator.proofs.OneImage.{same_image}
use Rattle.generator.proofs.laws.one_image.Goals as goal

pub returns : goal.returns
returns c = same_image (program_words c.args.seed) c.args.left.now c.args.right.now c.requires.left c.requires.right
