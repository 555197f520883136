use Rattle.abstract_debugger.proofs.OrderLemmas as lemmas
use Rattle.abstract_debugger.proofs.laws.commands_speak_in_order.Goals as goal

pub returns : goal.returns
returns c = lemmas.commands_speak_in_order
