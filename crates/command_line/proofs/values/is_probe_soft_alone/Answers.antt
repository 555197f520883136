use Rattle.std.proofs.Common.{◌∙◌, None, false}
use Rattle.command_line.specs.WrittenJob.{is_probe_soft_alone, stands_alone}
use Rattle.command_line.proofs.values.is_probe_soft_alone.Goals as goal

pub returns : goal.returns
unfolding is_probe_soft_alone
returns c = c.stands_alone.ensures ∙ λ i. stands_alone (c.value.ensures i) None (c.value-2.ensures i) false
