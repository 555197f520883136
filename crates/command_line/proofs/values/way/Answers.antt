use Rattle.std.proofs.Common.{sym, ap, ◌∙◌, Some}
use Rattle.command_line.specs.Numbers.{◌>>=◌}
use Rattle.command_line.specs.WrittenJob.{chain_in, flag_in, rows_found, way_by, way_in}
use Rattle.command_line.proofs.GivesLemmas.{gives_err}
use Rattle.command_line.proofs.values.way.Goals as goal

pub returns-in_err-chain : goal.returns-in_err-chain
unfolding way_in
returns-in_err-chain c = gives_err _ _ _ _ _ c.in_err-chain.ensures c.from_residual.ensures.1

pub returns-in-None-true : goal.returns-in-None-true
unfolding way_in
returns-in-None-true c = λ i. (c.in_ok-chain.ensures ∙ ap Some c.in-None-true.is-0) i >>= way_by (sym c.in-None-true.ensures i)

pub returns-in-None-false : goal.returns-in-None-false
unfolding way_in
returns-in-None-false c = λ i. (c.in_ok-chain.ensures ∙ ap Some c.in-None-false.is-0) i >>= way_by (sym c.in-None-false.ensures i)

pub returns-in-Some-true : goal.returns-in-Some-true
unfolding way_in
returns-in-Some-true c = λ i. (c.in_ok-chain.ensures ∙ ap Some c.in-Some-true.is-0) i >>= way_by (sym c.in-Some-true.ensures i)

pub returns-in-Some-false : goal.returns-in-Some-false
unfolding way_in
returns-in-Some-false c = λ i. (c.in_ok-chain.ensures ∙ ap Some c.in-Some-false.is-0) i >>= way_by (sym c.in-Some-false.ensures i)
