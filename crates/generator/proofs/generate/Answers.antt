use Rattle.std.proofs.Common.{◌∙◌, ap, drop}
use Rattle.generator.specs.Commands.{session}
use Rattle.generator.proofs.generate.Goals as goal

pub returns-clause-script : goal.returns-clause-script
returns-clause-script c =
    c.in_ok-script.ensures
    ∙ ap (session 100) (c.split_at.ensures.back ∙ ap (drop 1000) (c.deref.ensures.value ∙ c.in_ok-words.ensures.words))
