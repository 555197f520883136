use Rattle.std.proofs.Common.{sym}
use Rattle.command_line.specs.WrittenJob.{sniff_in, sniff_from}
use Rattle.command_line.proofs.GivesLemmas.{gives_err, gives_then}
use Rattle.command_line.proofs.reading.sniff_in.Goals as goal

pub returns-in_err-stream : goal.returns-in_err-stream
unfolding sniff_in
returns-in_err-stream c = gives_err _ _ _ _ _ c.in_err-stream.ensures c.from_residual.ensures.1

pub returns-in_err-answers : goal.returns-in_err-answers
unfolding sniff_in
returns-in_err-answers c = gives_then _ _ _ _ _ c.in_ok-stream.ensures (gives_err _ _ _ _ _ c.in_err-answers.ensures c.from_residual-in_err-answers.ensures.1)

pub returns : goal.returns
unfolding sniff_in
returns c = λ i. sniff_from (c.in_ok-stream.ensures i) (c.in_ok-answers.ensures i) (sym c.flag-waves.ensures i)
