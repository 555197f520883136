use Rattle.probe_run.specs.Told.{told}
use Rattle.std.proofs.Common.{refl}
use Rattle.soft_session.proofs.CutCommands.{plain_acted}
use Rattle.soft_session.proofs.CausedEnds.{acted_caused}
use Rattle.soft_session.proofs.session.SoftSession.act_as_before.Goals as goal

pub returns-clause-acted : goal.returns-clause-acted
returns-clause-acted g c =
    plain_acted c.args.command _ c.args.self.now (record c.args.self.now { session = c.act.new.self }) _ _ (told (g.D.Dmi.seen c.args.link.now))
    (told (g.D.Dmi.seen c.act.new.link)) _ _ _ _ refl c.requires.untouched c.requires.leaves c.act.ensures.acted

pub returns-clause-caused : goal.returns-clause-caused
returns-clause-caused g c =
    acted_caused c.args.command _ _ c.act.result (g.D.Dmi.seen c.args.link.now) (g.D.Dmi.seen c.act.new.link) _ _ _ _ c.act.ensures.acted
