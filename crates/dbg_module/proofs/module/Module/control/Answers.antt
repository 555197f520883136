use Rattle.std.proofs.Common.{sym, ◌∙◌}
use Rattle.dbg_module.proofs.SiteLemmas.{control_asked}
use Rattle.dbg_module.proofs.module.Module.control.Goals as goal

pub returns : goal.returns
returns c = rw (← c.self.view_is) (control_asked c.args.control _ c.args.harts.now _ _ c.if-not-control.false (sym c.is_busy.ensures ∙ c.if-is_busy.false)
    c.ask.ensures.harts c.ask.ensures.points)
