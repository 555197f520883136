use Rattle.abstract_debugger.proofs.ExampleLemmas as lemmas
use Rattle.abstract_debugger.proofs.examples.lines_read.Goals as goal

pub returns : goal.returns
returns c = lemmas.lines_read
