use Rattle.probe_run.specs.Told.{told}
use Rattle.probe_run.specs.Happens.{LookLeft}
use Rattle.probe_run.proofs.ActLemmas.{if_err}
use Rattle.probe_run.proofs.Looking.{look_broke, look_happened, look_outcome, look_ready, look_seen, look_selects, looked_at}
use Rattle.probe_run.proofs.target.Target.look.Goals as goal

pub returns-in_err-word-clause-left : goal.returns-in_err-word-clause-left
returns-in_err-word-clause-left g c =
    if_err (LookLeft c.args.hart (g.D.Dmi.seen c.args.link.now).far (g.D.Dmi.seen c.control_and_look.new.link).far) c.from_residual.result _
    c.from_residual.ensures.1
    (look_broke c.args.hart c.requires.hart _ _ (told (g.D.Dmi.seen c.args.link.now)) _ _ c.requires.ready c.in_err-word.ensures.broke)

pub returns-clause-did : goal.returns-clause-did
returns-clause-did g c = looked_at c.args.hart _ _ _ _ c.in_ok-word.ensures.did c.seen_of.ensures.sight

pub returns-clause-happened : goal.returns-clause-happened
returns-clause-happened g c =
    look_happened c.args.hart _ _ _ _ c.seen_of.ensures.sight
    (look_outcome c.args.hart _ c.requires.hart (told (g.D.Dmi.seen c.args.link.now)) (told (g.D.Dmi.seen c.control_and_look.new.link)) c.requires.ready c.in_ok-word.ensures.did)

pub returns-clause-ready : goal.returns-clause-ready
returns-clause-ready g c =
    look_ready c.args.hart _ _ _
    (look_outcome c.args.hart _ c.requires.hart (told (g.D.Dmi.seen c.args.link.now)) (told (g.D.Dmi.seen c.control_and_look.new.link)) c.requires.ready c.in_ok-word.ensures.did)

pub returns-clause-selects : goal.returns-clause-selects
returns-clause-selects g c =
    look_selects c.args.hart _ _ _
    (look_outcome c.args.hart _ c.requires.hart (told (g.D.Dmi.seen c.args.link.now)) (told (g.D.Dmi.seen c.control_and_look.new.link)) c.requires.ready c.in_ok-word.ensures.did)

pub returns-clause-seen : goal.returns-clause-seen
returns-clause-seen g c =
    look_seen c.args.hart _ _ _ _ c.seen_of.ensures.sight
    (look_outcome c.args.hart _ c.requires.hart (told (g.D.Dmi.seen c.args.link.now)) (told (g.D.Dmi.seen c.control_and_look.new.link)) c.requires.ready c.in_ok-word.ensures.did)
