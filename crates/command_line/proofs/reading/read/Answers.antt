use Rattle.std.proofs.Common.{ap, ◌∙◌, map, string_bytes}
use Rattle.command_line.specs.WrittenJob.{job_by}
use Rattle.command_line.proofs.GivesLemmas.{gives_at}
use Rattle.command_line.proofs.JobLemmas.{job_of-empty, job_of-first}
use Rattle.command_line.proofs.reading.read.Goals as goal

pub returns-in-Some : goal.returns-in-Some
returns-in-Some c =
    let words = map string_bytes c.args.words.now in
    gives_at _ _ _ _ (ap (λ p. job_by p words) c.as_str.ensures.value ∙ job_of-first c.args.words.now c.in-Some.program.now c.in-Some.ensures.value)
    c.read_by.ensures

pub returns-in-None : goal.returns-in-None
returns-in-None c = job_of-empty c.args.words.now c.in-None.ensures.value
