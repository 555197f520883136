use Rattle.std.proofs.Common.{◌∙◌}
use Rattle.command_line.specs.WrittenJob.{is_soft_alone, stands_alone}
use Rattle.command_line.proofs.values.is_soft_alone.Goals as goal

pub returns : goal.returns
unfolding is_soft_alone
returns c =
    c.stands_alone.ensures ∙ λ i. stands_alone (c.value.ensures i) (c.value-2.ensures i) (c.value-3.ensures i) (c.flag.ensures i)
