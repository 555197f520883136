use Rattle.std.proofs.Common.{◌∙◌, sym}
use Rattle.command_line.specs.WrittenJob.{elf_from, elf_in}
use Rattle.command_line.proofs.GivesLemmas.{gives_err, gives_then, gives_where, if_so, unless_so}
use Rattle.command_line.proofs.reading.elf_in.Goals as goal

pub returns-then-not-is_elf_alone : goal.returns-then-not-is_elf_alone
unfolding elf_in
returns-then-not-is_elf_alone c = unless_so _ _ (sym c.is_elf_alone.ensures ∙ c.if-not-is_elf_alone.true)

pub returns-in_err-file : goal.returns-in_err-file
unfolding elf_in
returns-in_err-file c = gives_where _ _ _ _ (sym c.is_elf_alone.ensures ∙ c.if-not-is_elf_alone.false) (gives_err _ _ _ _ _ c.in_err-file.ensures c.from_residual.ensures.1)

pub returns-in_err-script : goal.returns-in_err-script
unfolding elf_in
returns-in_err-script c = gives_where _ _ _ _ (sym c.is_elf_alone.ensures ∙ c.if-not-is_elf_alone.false)
    (gives_then _ _ _ _ _ c.in_ok-file.ensures (gives_err _ _ _ _ _ c.in_err-script.ensures c.from_residual-in_err-script.ensures.1))

pub returns-in_err-options : goal.returns-in_err-options
unfolding elf_in
returns-in_err-options c = gives_where _ _ _ _ (sym c.is_elf_alone.ensures ∙ c.if-not-is_elf_alone.false)
    (gives_then _ _ _ _ _ c.in_ok-file.ensures
    (gives_then _ _ _ _ _ c.in_ok-script.ensures (gives_err _ _ _ _ _ c.in_err-options.ensures c.from_residual-in_err-options.ensures.1)))

pub returns-in_err-piece : goal.returns-in_err-piece
unfolding elf_in
returns-in_err-piece c = gives_where _ _ _ _ (sym c.is_elf_alone.ensures ∙ c.if-not-is_elf_alone.false)
    (gives_then _ _ _ _ _ c.in_ok-file.ensures
    (gives_then _ _ _ _ _ c.in_ok-script.ensures
    (gives_then _ _ _ _ _ c.in_ok-options.ensures (gives_err _ _ _ _ _ c.in_err-piece.ensures.read c.from_residual-in_err-piece.ensures.1))))

pub returns : goal.returns
unfolding elf_in
returns c = if_so _ _ (sym c.is_elf_alone.ensures ∙ c.if-not-is_elf_alone.false)
    ∙ λ i. elf_from (c.in_ok-file.ensures i) (c.in_ok-script.ensures i) (c.in_ok-options.ensures i) (c.in_ok-piece.ensures.read i)
