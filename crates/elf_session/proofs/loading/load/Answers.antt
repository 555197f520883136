use Rattle.probe_session.proofs.LinkLemmas.{if_err}
use Rattle.probe_session.proofs.Spoken.{fell_first}
use Rattle.elf_session.specs.Loading.{loading_of}
use Rattle.elf_session.proofs.Following.{loaded_spoke, loaded_unsaid}
use Rattle.elf_session.proofs.loading.load.Goals as goal

pub returns-in_err-line-clause-fell : goal.returns-in_err-line-clause-fell
returns-in_err-line-clause-fell g c = if_err _ c.in_err-line.field-0.0 _ c.from_residual.ensures.1 (fell_first _ _ _ c.in_err-line.ensures.falls)

pub returns-in_err-put_line-clause-fell : goal.returns-in_err-put_line-clause-fell
returns-in_err-put_line-clause-fell g c = if_err _ c.in_err-put_line.field-0.0 _ c.from_residual-in_err-put_line.ensures.1
    (loaded_unsaid (loading_of c.args.file.now) c.in_ok-line.line _ _ c.in_err-put_line.ensures.sink c.in_ok-line.ensures.went
    c.in_err-put_line.ensures.front c.in_err-put_line.ensures.cause)

pub returns-clause-spoke : goal.returns-clause-spoke
returns-clause-spoke g c =
    loaded_spoke (loading_of c.args.file.now) c.in_ok-line.line _ c.is_error.ensures c.in_ok-line.ensures.went c.in_ok-put_line.ensures.put
