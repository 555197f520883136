use Rattle.command_line.specs.WrittenJob.{chip_in, chip_from}
use Rattle.command_line.proofs.GivesLemmas.{gives_err, gives_then}
use Rattle.command_line.proofs.reading.chip_in.Goals as goal

pub returns-in_err-at : goal.returns-in_err-at
unfolding chip_in
returns-in_err-at c = gives_err _ _ _ _ _ c.in_err-at.ensures c.from_residual.ensures.1

pub returns-in_err-image : goal.returns-in_err-image
unfolding chip_in
returns-in_err-image c = gives_then _ _ _ _ _ c.in_ok-at.ensures (gives_err _ _ _ _ _ c.in_err-image.ensures c.from_residual-in_err-image.ensures.1)

pub returns-in_err-options : goal.returns-in_err-options
unfolding chip_in
returns-in_err-options c = gives_then _ _ _ _ _ c.in_ok-at.ensures
    (gives_then _ _ _ _ _ c.in_ok-image.ensures (gives_err _ _ _ _ _ c.in_err-options.ensures c.from_residual-in_err-options.ensures.1))

pub returns-in_err-chain : goal.returns-in_err-chain
unfolding chip_in
returns-in_err-chain c = gives_then _ _ _ _ _ c.in_ok-at.ensures
    (gives_then _ _ _ _ _ c.in_ok-image.ensures
    (gives_then _ _ _ _ _ c.in_ok-options.ensures (gives_err _ _ _ _ _ c.in_err-chain.ensures c.from_residual-in_err-chain.ensures.1)))

pub returns : goal.returns
unfolding chip_in
returns c = λ i. chip_from (c.in_ok-at.ensures i) (c.in_ok-image.ensures i) (c.in_ok-options.ensures i) (c.in_ok-chain.ensures i)
