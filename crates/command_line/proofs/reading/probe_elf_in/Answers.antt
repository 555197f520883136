use Rattle.std.proofs.Common.{◌∙◌}
use Rattle.command_line.specs.WrittenJob.{probe_elf_from, probe_elf_in}
use Rattle.command_line.proofs.GivesLemmas.{gives_err, gives_then, gives_unless, if_given, looked_for, unless_given}
use Rattle.command_line.proofs.reading.probe_elf_in.Goals as goal

pub returns-then-is_some : goal.returns-then-is_some
unfolding probe_elf_in
returns-then-is_some c = if_given _ _ (looked_for _ _ _ _ c.value.ensures c.is_some.ensures c.if-is_some.true)

pub returns-in_err-at : goal.returns-in_err-at
unfolding probe_elf_in
returns-in_err-at c = gives_unless _ _ _ _ (looked_for _ _ _ _ c.value.ensures c.is_some.ensures c.if-is_some.false) (gives_err _ _ _ _ _ c.in_err-at.ensures c.from_residual.ensures.1)

pub returns-in_err-file : goal.returns-in_err-file
unfolding probe_elf_in
returns-in_err-file c = gives_unless _ _ _ _ (looked_for _ _ _ _ c.value.ensures c.is_some.ensures c.if-is_some.false)
    (gives_then _ _ _ _ _ c.in_ok-at.ensures (gives_err _ _ _ _ _ c.in_err-file.ensures c.from_residual-in_err-file.ensures.1))

pub returns-in_err-script : goal.returns-in_err-script
unfolding probe_elf_in
returns-in_err-script c = gives_unless _ _ _ _ (looked_for _ _ _ _ c.value.ensures c.is_some.ensures c.if-is_some.false)
    (gives_then _ _ _ _ _ c.in_ok-at.ensures
    (gives_then _ _ _ _ _ c.in_ok-file.ensures (gives_err _ _ _ _ _ c.in_err-script.ensures c.from_residual-in_err-script.ensures.1)))

pub returns : goal.returns
unfolding probe_elf_in
returns c = unless_given _ _ (looked_for _ _ _ _ c.value.ensures c.is_some.ensures c.if-is_some.false)
    ∙ λ i. probe_elf_from (c.in_ok-at.ensures i) (c.in_ok-file.ensures i) (c.in_ok-script.ensures i)
