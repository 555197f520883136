use Rattle.command_line.specs.WrittenJob.{sniff_in}
use Rattle.command_line.proofs.GivesLemmas.{gives_err, gives_then}
use Rattle.command_line.proofs.reading.read_sniff.Goals as goal

pub returns-in_err-matches : goal.returns-in_err-matches
returns-in_err-matches c = gives_err _ _ _ _ sniff_in c.in_err-matches.ensures c.from_residual.ensures.1

pub returns : goal.returns
returns c = gives_then _ _ _ _ sniff_in c.in_ok-matches.ensures c.sniff_in.ensures
