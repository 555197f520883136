use Rattle.std.proofs.Common.{rules}
use Rattle.probe_trig.specs.Runs.{FreesAny}
use Rattle.probe_session.proofs.Conversions.{freeing_failed, trig_left}
use Rattle.probe_session.proofs.slots.disarm.Goals as goal

pub returns-in_default-clause-fell : goal.returns-in_default-clause-fell
returns-in_default-clause-fell g c = freeing_failed _ _ (FreesAny c.args.slot) c.args.halted.now.number c.in-Err.fault c.in_default.not-NotInUse c.from.ensures
    c.disarm.ensures.keeps.later c.requires.serving.serving c.in-Err.ensures.failed c.in-Err.ensures.left c.in-Err.ensures.cut

pub returns-in_default-clause-keeps : goal.returns-in_default-clause-keeps
returns-in_default-clause-keeps g c = let b = trig_left _ c.in-Err.fault _ c.in-Err.ensures.keeps.behind c.from.ensures in search rules
