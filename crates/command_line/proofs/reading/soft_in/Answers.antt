use Rattle.std.proofs.Common.{◌∙◌, sym}
use Rattle.command_line.specs.WrittenJob.{soft_from, soft_in}
use Rattle.command_line.proofs.GivesLemmas.{gives_err, gives_then, gives_where, if_so, unless_so}
use Rattle.command_line.proofs.reading.soft_in.Goals as goal

pub returns-then-not-is_soft_alone : goal.returns-then-not-is_soft_alone
unfolding soft_in
returns-then-not-is_soft_alone c = unless_so _ _ (sym c.is_soft_alone.ensures ∙ c.if-not-is_soft_alone.true)

pub returns-in_err-image : goal.returns-in_err-image
unfolding soft_in
returns-in_err-image c = gives_where _ _ _ _ (sym c.is_soft_alone.ensures ∙ c.if-not-is_soft_alone.false) (gives_err _ _ _ _ _ c.in_err-image.ensures c.from_residual.ensures.1)

pub returns-in_err-script : goal.returns-in_err-script
unfolding soft_in
returns-in_err-script c = gives_where _ _ _ _ (sym c.is_soft_alone.ensures ∙ c.if-not-is_soft_alone.false)
    (gives_then _ _ _ _ _ c.in_ok-image.ensures (gives_err _ _ _ _ _ c.in_err-script.ensures c.from_residual-in_err-script.ensures.1))

pub returns-in_err-options : goal.returns-in_err-options
unfolding soft_in
returns-in_err-options c = gives_where _ _ _ _ (sym c.is_soft_alone.ensures ∙ c.if-not-is_soft_alone.false)
    (gives_then _ _ _ _ _ c.in_ok-image.ensures
    (gives_then _ _ _ _ _ c.in_ok-script.ensures (gives_err _ _ _ _ _ c.in_err-options.ensures c.from_residual-in_err-options.ensures.1)))

pub returns-in_err-piece : goal.returns-in_err-piece
unfolding soft_in
returns-in_err-piece c = gives_where _ _ _ _ (sym c.is_soft_alone.ensures ∙ c.if-not-is_soft_alone.false)
    (gives_then _ _ _ _ _ c.in_ok-image.ensures
    (gives_then _ _ _ _ _ c.in_ok-script.ensures
    (gives_then _ _ _ _ _ c.in_ok-options.ensures (gives_err _ _ _ _ _ c.in_err-piece.ensures.read c.from_residual-in_err-piece.ensures.1))))

pub returns : goal.returns
unfolding soft_in
returns c = if_so _ _ (sym c.is_soft_alone.ensures ∙ c.if-not-is_soft_alone.false)
    ∙ λ i. soft_from (c.in_ok-image.ensures i) (c.in_ok-script.ensures i) (c.in_ok-options.ensures i) (c.in_ok-piece.ensures.read i)
