use Rattle.std.proofs.Common.{sym, ap, ◌∙◌}
use Rattle.command_line.specs.WrittenJob.{probe_plain_by, probe_plain_in, rows_found, text_of}
use Rattle.command_line.proofs.GivesLemmas.{gives_at}
use Rattle.command_line.proofs.reading.probe_plain_in.Goals as goal

pub returns-in-None : goal.returns-in-None
unfolding probe_plain_in
returns-in-None c =
    gives_at _ _ _ _ (ap (λ file. probe_plain_by file (rows_found c.args.matches.now)) (sym (ap text_of c.in-None.is) ∙ c.value.ensures))
    c.probe_script_in.ensures

pub returns-in-Some : goal.returns-in-Some
unfolding probe_plain_in
returns-in-Some c =
    gives_at _ _ _ _ (ap (λ file. probe_plain_by file (rows_found c.args.matches.now)) (sym (ap text_of c.in-Some.is) ∙ c.value.ensures))
    c.probe_elf_in.ensures
