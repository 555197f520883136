use Rattle.std.proofs.Common.{sym, ap, ◌∙◌}
use Rattle.command_line.specs.WrittenJob.{both_by, both_in, rows_found}
use Rattle.command_line.proofs.GivesLemmas.{gives_at}
use Rattle.command_line.proofs.reading.both_in.Goals as goal

pub returns-then-flag : goal.returns-then-flag
unfolding both_in
returns-then-flag c =
    gives_at _ _ _ _ (ap (λ soft. both_by soft (rows_found c.args.matches.now)) (sym c.if-flag.true ∙ c.flag.ensures)) c.soft_in.ensures

pub returns-else-flag : goal.returns-else-flag
unfolding both_in
returns-else-flag c =
    gives_at _ _ _ _ (ap (λ soft. both_by soft (rows_found c.args.matches.now)) (sym c.if-flag.false ∙ c.flag.ensures)) c.plain_in.ensures
