use Rattle.command_line.specs.WrittenJob.{options_in, options_from, version_by}
use Rattle.command_line.proofs.GivesLemmas.{gives_err, gives_then}
use Rattle.std.proofs.Common.{ap, ◌∙◌, sym}
use Rattle.command_line.proofs.values.chip_options.Goals as goal

pub returns-in_err-harts : goal.returns-in_err-harts
unfolding options_in
returns-in_err-harts c = gives_err _ _ _ _ _ c.in_err-harts.ensures c.from_residual.ensures.1

pub returns-in_err-ram : goal.returns-in_err-ram
unfolding options_in
returns-in_err-ram c = gives_then _ _ _ _ _ c.in_ok-harts.ensures (gives_err _ _ _ _ _ c.in_err-ram.ensures c.from_residual-in_err-ram.ensures.1)

pub returns-in_err-seed : goal.returns-in_err-seed
unfolding options_in
returns-in_err-seed c = gives_then _ _ _ _ _ c.in_ok-harts.ensures
    (gives_then _ _ _ _ _ c.in_ok-ram.ensures (gives_err _ _ _ _ _ c.in_err-seed.ensures c.from_residual-in_err-seed.ensures.1))

pub returns-in_err-busy : goal.returns-in_err-busy
unfolding options_in
returns-in_err-busy c = gives_then _ _ _ _ _ c.in_ok-harts.ensures
    (gives_then _ _ _ _ _ c.in_ok-ram.ensures
    (gives_then _ _ _ _ _ c.in_ok-seed.ensures (gives_err _ _ _ _ _ c.in_err-busy.ensures.read c.from_residual-in_err-busy.ensures.1)))

pub returns-in_err-events : goal.returns-in_err-events
unfolding options_in
returns-in_err-events c = gives_then _ _ _ _ _ c.in_ok-harts.ensures (gives_then _ _ _ _ _ c.in_ok-ram.ensures (gives_then _ _ _ _ _ c.in_ok-seed.ensures
    (gives_then _ _ _ _ _ c.in_ok-busy.ensures.read (gives_err _ _ _ _ _ c.in_err-events.ensures.read c.from_residual-in_err-events.ensures.1))))

pub returns : goal.returns
unfolding options_in
returns c =
    let version = sym (c.version_by.ensures ∙ ap version_by c.flag-2.ensures) in λ i. options_from (c.in_ok-harts.ensures i) (c.in_ok-ram.ensures i) (c.in_ok-seed.ensures i) (c.in_ok-busy.ensures.read i)
    (c.in_ok-events.ensures.read i) (sym c.flag.ensures i) (version i)
