use Rattle.chip_core.proofs.Counts.{event_counted}
use Rattle.chip_laws.proofs.Events.{event_adds}
use Rattle.chip_core.proofs.system.System.take_event.Goals as goal

pub returns-clause-room : goal.returns-clause-room
returns-clause-room c = rw c.act.ensures (event_adds c.args.event c.args.self.now.works).room

pub returns-clause-counted : goal.returns-clause-counted
returns-clause-counted c = rw c.act.ensures (event_counted c.args.event c.args.self.now.works c.requires.counted)
