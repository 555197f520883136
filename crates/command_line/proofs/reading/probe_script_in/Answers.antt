use Rattle.command_line.specs.WrittenJob.{probe_script_in, probe_from}
use Rattle.command_line.proofs.GivesLemmas.{gives_err, gives_then}
use Rattle.command_line.proofs.reading.probe_script_in.Goals as goal

pub returns-in_err-at : goal.returns-in_err-at
unfolding probe_script_in
returns-in_err-at c = gives_err _ _ _ _ _ c.in_err-at.ensures c.from_residual.ensures.1

pub returns-in_err-script : goal.returns-in_err-script
unfolding probe_script_in
returns-in_err-script c = gives_then _ _ _ _ _ c.in_ok-at.ensures (gives_err _ _ _ _ _ c.in_err-script.ensures c.from_residual-in_err-script.ensures.1)

pub returns-in_err-chain : goal.returns-in_err-chain
unfolding probe_script_in
returns-in_err-chain c = gives_then _ _ _ _ _ c.in_ok-at.ensures
    (gives_then _ _ _ _ _ c.in_ok-script.ensures (gives_err _ _ _ _ _ c.in_err-chain.ensures c.from_residual-in_err-chain.ensures.1))

pub returns : goal.returns
unfolding probe_script_in
returns c = λ i. probe_from (c.in_ok-at.ensures i) (c.in_ok-script.ensures i) (c.in_ok-chain.ensures i)
