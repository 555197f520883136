use Rattle.probe_run.specs.Told.{told}
use Rattle.std.proofs.Common.{◌≤◌, arith}
use Rattle.debug_model.proofs.RiseLemmas.{within_more, within_then}
use Rattle.abstract_debugger.specs.Debugger.{sees_halted}
use Rattle.probe_run.specs.declared.control.Request.TheVariants.{Halt}
use Rattle.probe_run.specs.declared.wait.Wanted.TheVariants as Wanted
use Rattle.probe_run.specs.Happens.{HaltLeft}
use Rattle.probe_run.specs.Looks.{seen_in}
use Rattle.probe_run.proofs.ActLemmas.{if_err}
use Rattle.probe_run.proofs.Asked.{asked_shown, asked_unshown}
use Rattle.probe_run.proofs.Halting.{can_run, clear_broke, clear_fails, halt_broke, halt_halted, halt_happened, halt_missed_at, halt_ready, halt_selects}
use Rattle.probe_run.specs.Soon.{NeverInVain, VainLooks}
use Rattle.probe_run.proofs.Soon.{halt_unpaced}
use Rattle.probe_run.proofs.SoonCalls.{within_soon}
use Rattle.probe_run.proofs.NeverLemmas.{by_wire_then}
use Rattle.probe_run.proofs.hart.Running.halt.Goals as goal

pub returns-in_err-ask-clause-left : goal.returns-in_err-ask-clause-left
returns-in_err-ask-clause-left g c =
    if_err (HaltLeft c.args.self.number (g.D.Dmi.seen c.args.link.now).far (g.D.Dmi.seen c.ask.new.link).far) c.from_residual.result _ c.from_residual.ensures.1
    (halt_broke c.args.self.number c.args.self.within _ _ (told (g.D.Dmi.seen c.args.link.now)) _ _
    (can_run c.args.self.number _ c.requires.ready c.requires.exists) c.in_err-ask.ensures.broke)

pub returns-in_err-control-in-Shown-clause-left : goal.returns-in_err-control-in-Shown-clause-left
returns-in_err-control-in-Shown-clause-left g c =
    if_err (HaltLeft c.args.self.number (g.D.Dmi.seen c.args.link.now).far (g.D.Dmi.seen c.control.new.link).far)
    c.from_residual-in_err-control-in-Shown.result _ c.from_residual-in_err-control-in-Shown.ensures.1
    (clear_broke c.args.self.number c.args.self.within (g.D.Dmi.seen c.args.link.now).fault_count (g.D.Dmi.seen c.control.new.link).fault_count
    (told (g.D.Dmi.seen c.args.link.now)) _ _
    (let a : (g.D.Dmi.seen c.args.link.now).fault_count ≤ (g.D.Dmi.seen c.ask.new.link).fault_count = c.ask.ensures.keeps.later in
    let b : (g.D.Dmi.seen c.ask.new.link).fault_count ≤ (g.D.Dmi.seen c.control.new.link).fault_count = c.control.ensures.keeps.later in omega arith)
    (can_run c.args.self.number _ c.requires.ready c.requires.exists)
    (clear_fails c.args.self.number (g.D.Dmi.seen c.args.link.now).fault_count (g.D.Dmi.seen c.ask.new.link).fault_count
    (g.D.Dmi.seen c.control.new.link).fault_count (told (g.D.Dmi.seen c.args.link.now)) (told (g.D.Dmi.seen c.ask.new.link)) _ _ c.ask.ensures.keeps.later
    c.control.ensures.keeps.later
    (asked_shown Halt c.args.self.number Wanted.Halted _ _ c.in_ok-ask.field-0 c.in-Shown.is c.in_ok-ask.ensures.asked)
    c.in_err-control-in-Shown.ensures.broke))

pub returns-in_ok-control-in-Shown-clause-happened : goal.returns-in_ok-control-in-Shown-clause-happened
returns-in_ok-control-in-Shown-clause-happened g c =
    halt_happened c.args.self.number c.args.self.within (told (g.D.Dmi.seen c.args.link.now)) (told (g.D.Dmi.seen c.control.new.link))
    (can_run c.args.self.number _ c.requires.ready c.requires.exists)
    (record {
      mid = (told (g.D.Dmi.seen c.ask.new.link));
      met =
          asked_shown Halt c.args.self.number Wanted.Halted _ _ c.in_ok-ask.field-0 c.in-Shown.is c.in_ok-ask.ensures.asked;
      cleared =
          c.in_ok-control-in-Shown.ensures.did;
    })

pub returns-in_ok-control-in-Shown-clause-ready : goal.returns-in_ok-control-in-Shown-clause-ready
returns-in_ok-control-in-Shown-clause-ready g c =
    halt_ready c.args.self.number c.args.self.within (told (g.D.Dmi.seen c.args.link.now)) (told (g.D.Dmi.seen c.control.new.link))
    (can_run c.args.self.number _ c.requires.ready c.requires.exists)
    (record {
      mid = (told (g.D.Dmi.seen c.ask.new.link));
      met =
          asked_shown Halt c.args.self.number Wanted.Halted _ _ c.in_ok-ask.field-0 c.in-Shown.is c.in_ok-ask.ensures.asked;
      cleared =
          c.in_ok-control-in-Shown.ensures.did;
    })

pub returns-in_ok-control-in-Shown-clause-selects : goal.returns-in_ok-control-in-Shown-clause-selects
returns-in_ok-control-in-Shown-clause-selects g c =
    halt_selects c.args.self.number c.args.self.within (told (g.D.Dmi.seen c.args.link.now)) (told (g.D.Dmi.seen c.control.new.link))
    (can_run c.args.self.number _ c.requires.ready c.requires.exists)
    (record {
      mid = (told (g.D.Dmi.seen c.ask.new.link));
      met =
          asked_shown Halt c.args.self.number Wanted.Halted _ _ c.in_ok-ask.field-0 c.in-Shown.is c.in_ok-ask.ensures.asked;
      cleared =
          c.in_ok-control-in-Shown.ensures.did;
    })

pub returns-in_ok-control-in-Shown-clause-halted : goal.returns-in_ok-control-in-Shown-clause-halted
returns-in_ok-control-in-Shown-clause-halted g c =
    halt_halted c.args.self.number c.args.self.within (told (g.D.Dmi.seen c.args.link.now)) (told (g.D.Dmi.seen c.control.new.link))
    (can_run c.args.self.number _ c.requires.ready c.requires.exists)
    (record {
      mid = (told (g.D.Dmi.seen c.ask.new.link));
      met =
          asked_shown Halt c.args.self.number Wanted.Halted _ _ c.in_ok-ask.field-0 c.in-Shown.is c.in_ok-ask.ensures.asked;
      cleared =
          c.in_ok-control-in-Shown.ensures.did;
    })

pub returns-in-Unshown-clause-left : goal.returns-in-Unshown-clause-left
returns-in-Unshown-clause-left g c =
    let m = asked_unshown Halt c.args.self.number Wanted.Halted (told (g.D.Dmi.seen c.args.link.now)) (told (g.D.Dmi.seen c.ask.new.link)) c.in_ok-ask.field-0
    c.in-Unshown.acknowledged c.in-Unshown.is c.in_ok-ask.ensures.asked in (
      seen_in m.0,
      halt_missed_at c.args.self.number c.args.self.within m.0 (told (g.D.Dmi.seen c.args.link.now)) (told (g.D.Dmi.seen c.ask.new.link))
          (can_run c.args.self.number _ c.requires.ready c.requires.exists) m.1,
    )

pub returns-in_err-ask-clause-rises : goal.returns-in_err-ask-clause-rises
returns-in_err-ask-clause-rises g c =
    within_more 2 3 _ _ (within_soon 2 65 (VainLooks 1 Halt sees_halted c.args.self.number (told (g.D.Dmi.seen c.args.link.now))) (g.D.Dmi.seen c.args.link.now) (g.D.Dmi.seen c.ask.new.link) (c.ask.ensures.soon 1 (omega arith))
    c.ask.ensures.rises (λ v. halt_unpaced c.args.self.number c.args.self.within (told (g.D.Dmi.seen c.args.link.now)) (can_run c.args.self.number _ c.requires.ready c.requires.exists) v)) (omega arith)

pub returns-in_err-control-in-Shown-clause-rises : goal.returns-in_err-control-in-Shown-clause-rises
returns-in_err-control-in-Shown-clause-rises g c =
    within_then 2 1 3 _ (g.D.Dmi.seen c.ask.new.link) _ (within_soon 2 65 (VainLooks 1 Halt sees_halted c.args.self.number (told (g.D.Dmi.seen c.args.link.now))) (g.D.Dmi.seen c.args.link.now) (g.D.Dmi.seen c.ask.new.link) (c.ask.ensures.soon 1 (omega arith))
    c.ask.ensures.rises (λ v. halt_unpaced c.args.self.number c.args.self.within (told (g.D.Dmi.seen c.args.link.now)) (can_run c.args.self.number _ c.requires.ready c.requires.exists) v))
    c.control.ensures.rises c.ask.ensures.keeps.fixed (omega arith)

pub returns-in_ok-control-in-Shown-clause-rises : goal.returns-in_ok-control-in-Shown-clause-rises
returns-in_ok-control-in-Shown-clause-rises g c =
    within_then 2 1 3 _ (g.D.Dmi.seen c.ask.new.link) _ (within_soon 2 65 (VainLooks 1 Halt sees_halted c.args.self.number (told (g.D.Dmi.seen c.args.link.now))) (g.D.Dmi.seen c.args.link.now) (g.D.Dmi.seen c.ask.new.link) (c.ask.ensures.soon 1 (omega arith))
    c.ask.ensures.rises (λ v. halt_unpaced c.args.self.number c.args.self.within (told (g.D.Dmi.seen c.args.link.now)) (can_run c.args.self.number _ c.requires.ready c.requires.exists) v))
    c.control.ensures.rises c.ask.ensures.keeps.fixed (omega arith)

pub returns-in-Unshown-clause-rises : goal.returns-in-Unshown-clause-rises
returns-in-Unshown-clause-rises g c =
    within_more 2 3 _ _ (within_soon 2 65 (VainLooks 1 Halt sees_halted c.args.self.number (told (g.D.Dmi.seen c.args.link.now))) (g.D.Dmi.seen c.args.link.now) (g.D.Dmi.seen c.ask.new.link) (c.ask.ensures.soon 1 (omega arith))
    c.ask.ensures.rises (λ v. halt_unpaced c.args.self.number c.args.self.within (told (g.D.Dmi.seen c.args.link.now)) (can_run c.args.self.number _ c.requires.ready c.requires.exists) v)) (omega arith)

pub returns-in_err-ask-clause-never : goal.returns-in_err-ask-clause-never
returns-in_err-ask-clause-never g c = if_err (NeverInVain (g.D.Dmi.seen c.args.link.now)) c.from_residual.result _ c.from_residual.ensures.1 c.in_err-ask.ensures.never

pub returns-in_err-control-in-Shown-clause-never : goal.returns-in_err-control-in-Shown-clause-never
returns-in_err-control-in-Shown-clause-never g c =
    if_err (NeverInVain (g.D.Dmi.seen c.args.link.now)) c.from_residual-in_err-control-in-Shown.result _ c.from_residual-in_err-control-in-Shown.ensures.1
    (by_wire_then 65 (g.D.Dmi.seen c.args.link.now) (g.D.Dmi.seen c.ask.new.link) _ c.ask.ensures.rises c.in_err-control-in-Shown.ensures.never)

pub returns-in-Unshown-clause-never : goal.returns-in-Unshown-clause-never
returns-in-Unshown-clause-never g c =
    halt_unpaced c.args.self.number c.args.self.within (told (g.D.Dmi.seen c.args.link.now)) (can_run c.args.self.number _ c.requires.ready c.requires.exists)
    ((rw (c.in-Unshown.is) at c.in_ok-ask.ensures.vain) 1 (omega arith) (omega arith))
