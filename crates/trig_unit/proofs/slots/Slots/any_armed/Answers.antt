use Rattle.std.proofs.Common.{sym, ap, ◌∙◌}
use Rattle.trig_unit.specs.Armed.{some_armed}
use Rattle.trig_unit.proofs.Four.{unarmed_quiet}
use Rattle.trig_unit.proofs.slots.Slots.any_armed.Goals as goal

pub returns-clause-quiet : goal.returns-clause-quiet
returns-clause-quiet c off touch =
    unarmed_quiet touch c.args.self.now.slots (ap (λ t. some_armed t.slots) (sym c.self.view_is) ∙ sym c.self.invariant.marked ∙ off)
