use Rattle.command_line.specs.WrittenJob.{inputs_from, inputs_in}
use Rattle.command_line.proofs.GivesLemmas.{gives_at}
use Rattle.command_line.proofs.values.inputs.Goals as goal

pub returns : goal.returns
unfolding inputs_in
returns c = gives_at _ _ _ _ (λ i. inputs_from (c.value.ensures i) (c.value-2.ensures i) (c.value-3.ensures i)) c.inputs_from.ensures
