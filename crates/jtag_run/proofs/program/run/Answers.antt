use Rattle.jtag_run.proofs.Successes.{succeeds_by}
use Rattle.jtag_run.proofs.program.run.Goals as goal

pub returns : goal.returns
returns g c = record { ended = c.run_words.ensures.ended; succeeds = succeeds_by _ _ _ _ _ c.run_words.ensures.ended }
