use Rattle.std.proofs.Common.{sym, ap}
use Rattle.chip_core.specs.contracts.system.System.{the_view}
use Rattle.chip_core.specs.Parts.{with_site}
use Rattle.chip_core.proofs.system.System.step_bus.Goals as goal

pub returns : goal.returns
returns c = rw (← c.self.view_is, c.note_access.ensures)
    (ap (λ s. with_site s (the_view c.self.inside)) (sym (c.bus_step-accessed.ensures.site c.self.inside.harts.items c.self.inside.journal)))
