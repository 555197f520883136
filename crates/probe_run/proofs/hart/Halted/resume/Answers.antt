use Rattle.probe_run.specs.Told.{told}
use Rattle.std.proofs.Common.{arith}
use Rattle.abstract_debugger.specs.Debugger.{sees_ack}
use Rattle.probe_run.specs.declared.control.Request.TheVariants.{Resume}
use Rattle.probe_run.specs.declared.wait.Wanted.TheVariants as Wanted
use Rattle.probe_run.specs.Happens.{ResumeLeft}
use Rattle.probe_run.specs.Looks.{seen_in}
use Rattle.probe_run.proofs.ActLemmas.{if_err}
use Rattle.probe_run.proofs.Asked.{asked_shown, asked_unshown}
use Rattle.probe_run.proofs.Halting.{can_run_halted}
use Rattle.probe_run.proofs.Resuming.{go_broke, go_missed_at, resume_happened, resume_ready, resume_selects, resume_exists}
use Rattle.probe_run.specs.Soon.{NeverInVain, VainLooks}
use Rattle.probe_run.proofs.Soon.{can_go, resume_unpaced}
use Rattle.probe_run.proofs.SoonCalls.{within_soon}
use Rattle.probe_run.proofs.hart.Halted.resume.Goals as goal

pub returns-in_err-ask-clause-left : goal.returns-in_err-ask-clause-left
returns-in_err-ask-clause-left g c =
    if_err (ResumeLeft c.args.self.number (g.D.Dmi.seen c.args.link.now).far (g.D.Dmi.seen c.ask.new.link).far) c.from_residual.result _
    c.from_residual.ensures.1
    (go_broke sees_ack c.args.self.number c.args.self.within _ _ (told (g.D.Dmi.seen c.args.link.now)) _ _
    (can_run_halted c.args.self.number _ c.requires.ready c.requires.halted) c.in_err-ask.ensures.broke)

pub returns-in-Shown-clause-happened : goal.returns-in-Shown-clause-happened
returns-in-Shown-clause-happened g c =
    resume_happened c.args.self.number c.args.self.within (told (g.D.Dmi.seen c.args.link.now)) (told (g.D.Dmi.seen c.ask.new.link))
    (can_run_halted c.args.self.number _ c.requires.ready c.requires.halted)
    (asked_shown Resume c.args.self.number Wanted.Acknowledged _ _ c.in_ok-ask.field-0 c.in-Shown.is c.in_ok-ask.ensures.asked)

pub returns-in-Shown-clause-ready : goal.returns-in-Shown-clause-ready
returns-in-Shown-clause-ready g c =
    resume_ready c.args.self.number c.args.self.within (told (g.D.Dmi.seen c.args.link.now)) (told (g.D.Dmi.seen c.ask.new.link))
    (can_run_halted c.args.self.number _ c.requires.ready c.requires.halted)
    (asked_shown Resume c.args.self.number Wanted.Acknowledged _ _ c.in_ok-ask.field-0 c.in-Shown.is c.in_ok-ask.ensures.asked)

pub returns-in-Shown-clause-selects : goal.returns-in-Shown-clause-selects
returns-in-Shown-clause-selects g c =
    resume_selects c.args.self.number c.args.self.within (told (g.D.Dmi.seen c.args.link.now)) (told (g.D.Dmi.seen c.ask.new.link))
    (can_run_halted c.args.self.number _ c.requires.ready c.requires.halted)
    (asked_shown Resume c.args.self.number Wanted.Acknowledged _ _ c.in_ok-ask.field-0 c.in-Shown.is c.in_ok-ask.ensures.asked)

pub returns-in-Shown-clause-exists : goal.returns-in-Shown-clause-exists
returns-in-Shown-clause-exists g c =
    resume_exists c.args.self.number c.args.self.within (told (g.D.Dmi.seen c.args.link.now)) (told (g.D.Dmi.seen c.ask.new.link))
    (can_run_halted c.args.self.number _ c.requires.ready c.requires.halted)
    (asked_shown Resume c.args.self.number Wanted.Acknowledged _ _ c.in_ok-ask.field-0 c.in-Shown.is c.in_ok-ask.ensures.asked)

pub returns-in-Unshown-clause-left : goal.returns-in-Unshown-clause-left
returns-in-Unshown-clause-left g c =
    let m = asked_unshown Resume c.args.self.number Wanted.Acknowledged (told (g.D.Dmi.seen c.args.link.now)) (told (g.D.Dmi.seen c.ask.new.link))
    c.in_ok-ask.field-0 c.in-Unshown.acknowledged c.in-Unshown.is c.in_ok-ask.ensures.asked in (
      seen_in m.0,
      go_missed_at sees_ack c.args.self.number c.args.self.within m.0 (told (g.D.Dmi.seen c.args.link.now)) (told (g.D.Dmi.seen c.ask.new.link))
          (can_run_halted c.args.self.number _ c.requires.ready c.requires.halted) m.1,
    )

pub returns-in_err-ask-clause-rises : goal.returns-in_err-ask-clause-rises
returns-in_err-ask-clause-rises g c =
    within_soon 2 65 (VainLooks 1 Resume sees_ack c.args.self.number (told (g.D.Dmi.seen c.args.link.now))) (g.D.Dmi.seen c.args.link.now) (g.D.Dmi.seen c.ask.new.link) (c.ask.ensures.soon 1 (omega arith))
    c.ask.ensures.rises (λ v. resume_unpaced c.args.self.number c.args.self.within (told (g.D.Dmi.seen c.args.link.now)) (can_go c.args.self.number _ c.requires.ready c.requires.halted) v)

pub returns-in-Shown-clause-rises : goal.returns-in-Shown-clause-rises
returns-in-Shown-clause-rises g c =
    within_soon 2 65 (VainLooks 1 Resume sees_ack c.args.self.number (told (g.D.Dmi.seen c.args.link.now))) (g.D.Dmi.seen c.args.link.now) (g.D.Dmi.seen c.ask.new.link) (c.ask.ensures.soon 1 (omega arith))
    c.ask.ensures.rises (λ v. resume_unpaced c.args.self.number c.args.self.within (told (g.D.Dmi.seen c.args.link.now)) (can_go c.args.self.number _ c.requires.ready c.requires.halted) v)

pub returns-in-Unshown-clause-rises : goal.returns-in-Unshown-clause-rises
returns-in-Unshown-clause-rises g c =
    within_soon 2 65 (VainLooks 1 Resume sees_ack c.args.self.number (told (g.D.Dmi.seen c.args.link.now))) (g.D.Dmi.seen c.args.link.now) (g.D.Dmi.seen c.ask.new.link) (c.ask.ensures.soon 1 (omega arith))
    c.ask.ensures.rises (λ v. resume_unpaced c.args.self.number c.args.self.within (told (g.D.Dmi.seen c.args.link.now)) (can_go c.args.self.number _ c.requires.ready c.requires.halted) v)

pub returns-in_err-ask-clause-never : goal.returns-in_err-ask-clause-never
returns-in_err-ask-clause-never g c = if_err (NeverInVain (g.D.Dmi.seen c.args.link.now)) c.from_residual.result _ c.from_residual.ensures.1 c.in_err-ask.ensures.never

pub returns-in-Unshown-clause-never : goal.returns-in-Unshown-clause-never
returns-in-Unshown-clause-never g c =
    resume_unpaced c.args.self.number c.args.self.within (told (g.D.Dmi.seen c.args.link.now)) (can_go c.args.self.number _ c.requires.ready c.requires.halted)
    ((rw (c.in-Unshown.is) at c.in_ok-ask.ensures.vain) 1 (omega arith) (omega arith))
