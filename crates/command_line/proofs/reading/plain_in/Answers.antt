use Rattle.std.proofs.Common.{sym, ap, ◌∙◌}
use Rattle.command_line.specs.WrittenJob.{plain_by, plain_in, rows_found, text_of}
use Rattle.command_line.proofs.GivesLemmas.{gives_at}
use Rattle.command_line.proofs.reading.plain_in.Goals as goal

pub returns-in-None : goal.returns-in-None
unfolding plain_in
returns-in-None c =
    gives_at _ _ _ _ (ap (λ file. plain_by file (rows_found c.args.matches.now)) (sym (ap text_of c.in-None.is) ∙ c.value.ensures)) c.image_in.ensures

pub returns-in-Some : goal.returns-in-Some
unfolding plain_in
returns-in-Some c =
    gives_at _ _ _ _ (ap (λ file. plain_by file (rows_found c.args.matches.now)) (sym (ap text_of c.in-Some.is) ∙ c.value.ensures)) c.elf_in.ensures
