use Rattle.dbg_module.proofs.ServedLemmas.{read_served, write_served}
use Rattle.dbg_module.proofs.module.Module.perform.Goals as goal

pub returns-in-Read-clause-served : goal.returns-in-Read-clause-served
returns-in-Read-clause-served c = read_served c.in-Read.address _ _ _ _ _ c.at.ensures c.read.ensures.site

pub returns-in-Write-clause-served : goal.returns-in-Write-clause-served
returns-in-Write-clause-served c = write_served c.in-Write.address c.in-Write.word _ _ _ _ _ _ c.at-in-Write.ensures c.write.ensures
