use Rattle.command_line.specs.WrittenJob.{image_in, both_from}
use Rattle.command_line.proofs.GivesLemmas.{gives_err, gives_then}
use Rattle.command_line.proofs.reading.image_in.Goals as goal

pub returns-in_err-inputs : goal.returns-in_err-inputs
unfolding image_in
returns-in_err-inputs c = gives_err _ _ _ _ _ c.in_err-inputs.ensures c.from_residual.ensures.1

pub returns-in_err-options : goal.returns-in_err-options
unfolding image_in
returns-in_err-options c = gives_then _ _ _ _ _ c.in_ok-inputs.ensures (gives_err _ _ _ _ _ c.in_err-options.ensures c.from_residual-in_err-options.ensures.1)

pub returns-in_err-piece : goal.returns-in_err-piece
unfolding image_in
returns-in_err-piece c = gives_then _ _ _ _ _ c.in_ok-inputs.ensures
    (gives_then _ _ _ _ _ c.in_ok-options.ensures (gives_err _ _ _ _ _ c.in_err-piece.ensures.read c.from_residual-in_err-piece.ensures.1))

pub returns-in_err-way : goal.returns-in_err-way
unfolding image_in
returns-in_err-way c = gives_then _ _ _ _ _ c.in_ok-inputs.ensures
    (gives_then _ _ _ _ _ c.in_ok-options.ensures
    (gives_then _ _ _ _ _ c.in_ok-piece.ensures.read (gives_err _ _ _ _ _ c.in_err-way.ensures c.from_residual-in_err-way.ensures.1)))

pub returns : goal.returns
unfolding image_in
returns c = λ i. both_from (c.in_ok-inputs.ensures i) (c.in_ok-options.ensures i) (c.in_ok-piece.ensures.read i) (c.in_ok-way.ensures i)
