use Rattle.std.proofs.Common.{◌∙◌, sym}
use Rattle.command_line.specs.WrittenJob.{probe_soft_from, probe_soft_in}
use Rattle.command_line.proofs.GivesLemmas.{gives_err, gives_then, gives_where, if_so, unless_so}
use Rattle.command_line.proofs.reading.probe_soft_in.Goals as goal

pub returns-then-not-is_probe_soft_alone : goal.returns-then-not-is_probe_soft_alone
unfolding probe_soft_in
returns-then-not-is_probe_soft_alone c = unless_so _ _ (sym c.is_probe_soft_alone.ensures ∙ c.if-not-is_probe_soft_alone.true)

pub returns-in_err-at : goal.returns-in_err-at
unfolding probe_soft_in
returns-in_err-at c =
    gives_where _ _ _ _ (sym c.is_probe_soft_alone.ensures ∙ c.if-not-is_probe_soft_alone.false)
    (gives_err _ _ _ _ _ c.in_err-at.ensures c.from_residual.ensures.1)

pub returns-in_err-script : goal.returns-in_err-script
unfolding probe_soft_in
returns-in_err-script c =
    gives_where _ _ _ _ (sym c.is_probe_soft_alone.ensures ∙ c.if-not-is_probe_soft_alone.false)
    (gives_then _ _ _ _ _ c.in_ok-at.ensures (gives_err _ _ _ _ _ c.in_err-script.ensures c.from_residual-in_err-script.ensures.1))

pub returns : goal.returns
unfolding probe_soft_in
returns c = if_so _ _ (sym c.is_probe_soft_alone.ensures ∙ c.if-not-is_probe_soft_alone.false)
    ∙ λ i. probe_soft_from (c.in_ok-at.ensures i) (c.in_ok-script.ensures i)
