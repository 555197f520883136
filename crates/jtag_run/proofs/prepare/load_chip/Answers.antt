use Rattle.jtag_run.proofs.prepare.load_chip.Goals as goal

pub returns-in-Ok-clause-as_loaded : goal.returns-in-Ok-clause-as_loaded
returns-in-Ok-clause-as_loaded c = c.in-Ok.ensures.as_loaded c.schedule_of.ensures.first
