use Rattle.command_line.proofs.JobLemmas.{given_job, given_refusal}
use Rattle.command_line.proofs.JobRanges.{read_within}
use Rattle.command_line.proofs.reading.read_words.Goals as goal

pub returns-clause-job : goal.returns-clause-job
returns-clause-job c = given_job _ _ c.read.ensures

pub returns-clause-refused : goal.returns-clause-refused
returns-clause-refused c = given_refusal _ _ c.read.ensures

pub returns-clause-ranges : goal.returns-clause-ranges
returns-clause-ranges c = read_within _ _ c.read.ensures
