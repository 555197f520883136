use Rattle.std.proofs.Common.{rules}
use Rattle.probe_trig.specs.Runs.{ArmsAny}
use Rattle.probe_session.proofs.Conversions.{arming_failed, trig_left}
use Rattle.probe_session.proofs.slots.arm.Goals as goal

pub returns-in_default-clause-fell : goal.returns-in_default-clause-fell
returns-in_default-clause-fell g c = arming_failed _ _ (ArmsAny c.args.what) c.args.halted.now.number c.in-Err.fault c.in_default.not-NoFreeSlot c.from.ensures
    c.arm.ensures.keeps.later c.requires.serving.serving c.in-Err.ensures.failed c.in-Err.ensures.left c.in-Err.ensures.cut

pub returns-in_default-clause-keeps : goal.returns-in_default-clause-keeps
returns-in_default-clause-keeps g c = let b = trig_left _ c.in-Err.fault _ c.in-Err.ensures.keeps.behind c.from.ensures in search rules
